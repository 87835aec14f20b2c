-- `judge_core::order::ready_job` meets its contract. The loop's invariant: no job before j is ready, and the smallest predecessors of those jobs are known.
-- Assumes nothing.
use Rattle.judge_core.specs.Edges.{edges_of}
use Rattle.judge_core.proofs.Predecessors.{Passed}
use Rattle.judge_core.proofs.order.ready_job.Given as goal

abbrev pub invariant-loop-j : goal.invariant-loop-j
invariant-loop-j l = Passed (edges_of l.graph) l.left l.predecessors l.j
