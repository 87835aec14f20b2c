-- `judge_core::order::take_away` meets its contract. The loop's invariant: the jobs taken stand in order, those to come are the rest of the order, and the predecessors are those of the remaining jobs.
-- The measure is how many jobs are left. Assumes nothing.
use Rattle.std.proofs.Common.{◌≡◌, false, length, get_or}
use Rattle.judge_core.specs.Edges.{edges_of}
use Rattle.judge_core.specs.Left.{left_of}
use Rattle.judge_core.specs.Preceding.{Preceding}
use Rattle.judge_core.proofs.TakingAway.{Going}
use Rattle.judge_core.proofs.order.take_away.Given as goal

abbrev pub invariant-loop-j : goal.invariant-loop-j
invariant-loop-j l = Going (edges_of l.graph) (left_of l.initial.taken.left) l.taken.left l.taken.placed l.taken.count × Preceding (edges_of l.graph) l.taken.left l.taken.predecessors × (get_or l.taken.left 0 false ≡ false)

abbrev pub decreases-loop-j : goal.decreases-loop-j
decreases-loop-j l = length (left_of l.taken.left)
