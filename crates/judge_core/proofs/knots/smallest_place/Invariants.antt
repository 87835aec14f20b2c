-- `judge_core::knots::smallest_place` meets its contract. The loop's invariant: the place kept is that of the smallest job passed.
-- Assumes nothing.
use Rattle.judge_core.proofs.Turning.{Best}
use Rattle.judge_core.proofs.knots.smallest_place.Given as goal

abbrev pub invariant-loop-i : goal.invariant-loop-i
invariant-loop-i l = Best l.round l.best l.i
