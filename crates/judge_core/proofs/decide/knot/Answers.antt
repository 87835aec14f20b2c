-- `judge_core::decide::knot` meets its contract: the cycle at the end of the walk is put in, starting at its smallest job.
-- Assumes nothing.
use Rattle.judge_core.proofs.Said.{knot_room, knot_put}
use Rattle.judge_core.proofs.decide.knot.Goals as goal

pub put_turned-requires : goal.put_turned-requires
put_turned-requires c = knot_room _ _ _ _ c.walk_back-round.ensures _ c.requires.1

pub returns-clause-order_after : goal.returns-clause-order_after
returns-clause-order_after c = knot_put _ _ _ _ c.walk_back-round.ensures _ _ c.put_turned.ensures
