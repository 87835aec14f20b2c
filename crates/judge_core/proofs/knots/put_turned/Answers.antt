-- `judge_core::knots::put_turned` meets its contract: the first places hold the cycle from its smallest job on.
-- Assumes nothing.
use Rattle.judge_core.proofs.Turning.{turned}
use Rattle.judge_core.proofs.knots.put_turned.Goals as goal

pub returns : goal.returns
returns c = turned _ _ _ _ _ _ _ c.smallest_place.ensures c.split_at.ensures.front c.split_at.ensures.back c.copy_from_slice.ensures.after c.copy_from_slice-2.ensures.after
