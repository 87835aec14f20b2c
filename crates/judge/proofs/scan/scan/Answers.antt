-- `judge::scan::scan` meets its contract: what is left decides as the whole does, and the kept lines stand before what is left.
-- Assumes nothing.
use Rattle.judge.proofs.Scanning.{scanning_starts, kept_within, scanning_refused, scanning_done}
use Rattle.judge.proofs.scan.scan.Goals as goal

pub loop-from-init : goal.loop-from-init
loop-from-init c = search scanning_starts

pub keep-requires : goal.keep-requires
keep-requires c = search kept_within

pub returns-in-Err : goal.returns-in-Err
returns-in-Err c = search scanning_refused

pub returns : goal.returns
returns c = search scanning_done
