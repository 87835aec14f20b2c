-- `judge::entry::judgement` meets its contract: a short buffer, a faultless text, which is decided, or a faulty line.
-- Assumes nothing.
use Rattle.std.proofs.Common.{arith}
use Rattle.judge.proofs.Handing.{judged_short, judged_faulty}
use Rattle.judge.proofs.KeptClean.{judged_kept}
use Rattle.judge.proofs.entry.judgement.Goals as goal

pub returns-then-order-lt-JUDGED_JOBS : goal.returns-then-order-lt-JUDGED_JOBS
returns-then-order-lt-JUDGED_JOBS c = judged_short _ _ (omega arith)

pub returns-in-Ok : goal.returns-in-Ok
returns-in-Ok c = search judged_kept

pub returns-in-Err : goal.returns-in-Err
returns-in-Err c = search judged_faulty
