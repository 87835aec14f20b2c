-- `judge_core::order::ready_job` meets its contract: no job before j is ready, and the smallest predecessors of those jobs are known.
-- Assumes nothing.
use Rattle.std.proofs.Common.{arith}
use Rattle.judge_core.proofs.Predecessors.{passed_skip, passed_more}
use Rattle.judge_core.proofs.order.ready_job.Goals.{then-left-j+else-i-eq-NOBODY, else-left-j}
use Rattle.judge_core.proofs.order.ready_job.Goals as goal

pub loop-j-preserved : goal.loop-j-preserved
loop-j-preserved c = elim c.if-left-j.branch [
  | then-left-j+else-i-eq-NOBODY w ↦ rw w.predecessors-is (passed_more _ _ _ _ (omega arith) c.loop-j.invariant _ w.if-left-j.true w.predecessor_from-i.ensures w.if-i-eq-NOBODY.false)
  | else-left-j w ↦ rw w.predecessors-is (passed_skip _ _ _ _ (omega arith) c.loop-j.invariant w.if-left-j.false)
]
