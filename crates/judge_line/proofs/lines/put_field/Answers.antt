-- `judge_line::lines::put_field` meets its contract: there is room, so the writer does not refuse.
-- Assumes nothing.
use Rattle.judge_line.proofs.Fitting.{fitting_wrote}
use Rattle.judge_line.proofs.lines.put_field.Goals as goal

pub returns : goal.returns
returns c = fitting_wrote c.write_field.ensures.0 c.write_field.ensures.1 c.unwrap_or.ensures c.requires
