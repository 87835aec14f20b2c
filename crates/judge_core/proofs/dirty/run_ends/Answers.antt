-- `judge_core::dirty::run_ends` meets its contract: the ends for the lines passed, and for each job the end of its run as seen from here.
-- Assumes nothing.
use Rattle.std.proofs.Common.{refl, arith}
use Rattle.judge_core.proofs.DirtyPasses.{seen_none, ends_none, seen_more, ends_more}
use Rattle.judge_core.proofs.dirty.run_ends.Goals as goal

pub loop-p-init : goal.loop-p-init
loop-p-init c = (seen_none _ _ _ _ refl, ends_none _ _ _)

pub loop-p-preserved : goal.loop-p-preserved
loop-p-preserved c = (
  seen_more _ _ _ _ _ _ _ (omega arith) (omega arith) c.loop-p.invariant.0 c.from-j.ensures (omega arith) _ c.end_by.ensures,
  ends_more _ _ _ _ _ _ _ (omega arith) (omega arith) c.loop-p.invariant.0 c.from-j.ensures (omega arith) _ (omega arith) c.loop-p.invariant.1,
)
