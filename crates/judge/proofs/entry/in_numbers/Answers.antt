-- `judge::entry::in_numbers` meets its contract: each case has its numbers, and they fit.
-- Assumes nothing.
use Rattle.std.proofs.Common.{◌∙◌}
use Rattle.judge.proofs.Numbered.{refusal_numbers}
use Rattle.judge.proofs.entry.in_numbers.Goals as goal

pub returns-in-No : goal.returns-in-No
returns-in-No c = refusal_numbers _ _ _ _ _ c.in-No.is (c.from-in-No-2.ensures ∙ c.from-in-No.ensures) (c.from-in-No-3.ensures ∙ c.field_of.ensures)
