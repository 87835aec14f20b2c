-- `judge_core::knots::walk_back` meets its contract. The loop's invariant: the jobs walked so far stand on the trail, and the rest of the walk is that from the start.
-- Assumes nothing.
use Rattle.judge_core.proofs.Trail.{Walked}
use Rattle.judge_core.proofs.knots.walk_back.Given as goal

abbrev pub invariant-loop-at : goal.invariant-loop-at
invariant-loop-at l = Walked l.predecessors l.start l.trail l.at l.j
