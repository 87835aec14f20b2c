-- `judge_core::dirty::last_write` meets its contract: no line passed makes a read on line p dirty.
-- Assumes nothing.
use Rattle.std.proofs.Common.{arith}
use Rattle.judge_core.proofs.DirtyPasses.{back_all}
use Rattle.judge_core.proofs.dirty.last_write.Goals as goal

pub returns : goal.returns
returns c = back_all _ _ _ _ _ (omega arith) c.loop-q.invariant
