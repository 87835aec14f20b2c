-- `judge_line::lines::put_word` meets its contract: there is room, so the writer does not refuse.
-- Assumes nothing.
use Rattle.judge_line.proofs.Fitting.{fitting_wrote}
use Rattle.judge_line.proofs.lines.put_word.Goals as goal

pub returns : goal.returns
returns c = fitting_wrote c.write_word.ensures.0 c.write_word.ensures.1 c.unwrap_or.ensures c.requires
