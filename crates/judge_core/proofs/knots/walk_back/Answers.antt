-- `judge_core::knots::walk_back` meets its contract: the jobs walked so far stand on the trail, and the rest of the walk is that from the start.
-- Assumes nothing.
use Rattle.std.proofs.Common.{arith}
use Rattle.judge_core.proofs.Trail.{walked_round, walked_more}
use Rattle.judge_core.proofs.knots.walk_back.Goals as goal

pub returns-in-Some : goal.returns-in-Some
returns-in-Some c = walked_round _ _ _ _ _ (omega arith) c.loop-at.invariant _ c.in-Some.ensures

pub loop-at-preserved : goal.loop-at-preserved
loop-at-preserved c = walked_more _ _ _ _ _ (omega arith) c.loop-at.invariant c.in_default.ensures c.if-j-ge-NOBODY.false
