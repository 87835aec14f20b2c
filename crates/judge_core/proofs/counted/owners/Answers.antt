-- `judge_core::counted::owners` meets its contract: before the first line nobody owns one.
-- Assumes nothing.
use Rattle.judge_core.proofs.Marking.{owners_none}
use Rattle.judge_core.proofs.counted.owners.Goals as goal

pub loop-p-init : goal.loop-p-init
loop-p-init c = owners_none _ _ _
