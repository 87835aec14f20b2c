-- `judge_core::sets::cells_of` meets its contract. The loop's invariant: the sets have the cells of the lines passed.
-- Assumes nothing.
use Rattle.judge_core.specs.Reaching.{Covered}
use Rattle.judge_core.proofs.sets.cells_of.Given as goal

abbrev pub invariant-loop-p : goal.invariant-loop-p
invariant-loop-p l = Covered l.kept.codes.now l.kept.cells.now l.owners l.p l.sets
