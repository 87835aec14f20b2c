-- `judge_line::lines::put_end` meets its contract: there is room, so the writer does not refuse.
-- Assumes nothing.
use Rattle.std.proofs.Common.{arith}
use Rattle.judge_line.proofs.Fitting.{fitting_wrote}
use Rattle.judge_line.proofs.lines.put_end.Goals as goal

pub returns : goal.returns
returns c = fitting_wrote c.write_end.ensures.0 c.write_end.ensures.1 c.unwrap_or.ensures (omega arith)
