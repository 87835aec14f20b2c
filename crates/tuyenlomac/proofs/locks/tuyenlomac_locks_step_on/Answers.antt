-- `tuyenlomac::locks::tuyenlomac_locks_step_on` meets its contract: the step in place, its answer in numbers, and its wakes, if any, told in the lists.
-- Assumes nothing.
use Rattle.tuyenlomac.proofs.Waking.{step_told_lem}
use Rattle.tuyenlomac.proofs.locks.tuyenlomac_locks_step_on.Goals as goal

pub returns : goal.returns
returns c = step_told_lem c.step_on-t.ensures _ c.tell_wakes.ensures c.in_three.ensures
