-- `verdict::to_write` meets its contract: the line on what is kept is the line on all that was read.
-- Assumes nothing.
use Rattle.verdict.proofs.Keeping.{took_judged}
use Rattle.verdict.proofs.to_write.Goals as goal

pub returns : goal.returns
returns c = took_judged c.requires.0 c.line_on.ensures
