-- `judge_core::sets::last_lines` meets its contract. The loop's invariant: the table has the last of the lines passed.
-- Assumes nothing.
use Rattle.judge_core.specs.Reaching.{Lasts}
use Rattle.judge_core.proofs.sets.last_lines.Given as goal

abbrev pub invariant-loop-p : goal.invariant-loop-p
invariant-loop-p l = Lasts l.kept.codes.now l.kept.cells.now l.owners l.p l.lasts
