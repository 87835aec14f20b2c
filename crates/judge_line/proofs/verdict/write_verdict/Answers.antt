-- `judge_line::verdict::write_verdict` meets its contract: each verdict's line is written by its word.
-- Assumes nothing.
use Rattle.std.proofs.Common.{◌∙◌}
use Rattle.judge_line.proofs.Saying.{says_orderly, says_knot, says_dirty, says_no}
use Rattle.judge_line.proofs.verdict.write_verdict.Goals as goal

pub returns-in-Orderly : goal.returns-in-Orderly
returns-in-Orderly c = says_orderly _ _ _ _ _ c.in-Orderly.is c.first_places.ensures c.write_jobs.ensures

pub returns-in-Knot : goal.returns-in-Knot
returns-in-Knot c = says_knot _ _ _ _ _ c.in-Knot.is c.first_places-in-Knot.ensures c.write_jobs-in-Knot.ensures

pub returns-in-Dirty : goal.returns-in-Dirty
returns-in-Dirty c = says_dirty _ _ _ _ _ c.in-Dirty.is c.write_jobs-in-Dirty.ensures

pub returns-in-No : goal.returns-in-No
returns-in-No c = says_no _ _ _ _ _ _ _ c.in-No.is (c.from-number.ensures ∙ c.from.ensures) (c.from-in-No.ensures ∙ c.field_of.ensures) c.write_no.ensures
