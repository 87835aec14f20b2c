-- `judge_core::dirty::last_write` meets its contract. The loop's invariant: no line passed makes a read on line p dirty.
-- Assumes nothing.
use Rattle.judge_core.proofs.DirtyPasses.{NoneFrom}
use Rattle.judge_core.proofs.dirty.last_write.Given as goal

abbrev pub invariant-loop-q : goal.invariant-loop-q
invariant-loop-q l = NoneFrom l.kept.codes.now l.kept.cells.now l.ends l.p l.q
