-- `clerk::work::answer_by_locks` meets its contract: the lock desk's step, and the records of what it says.
-- Assumes nothing.
use native.Mathlib.Omega.{arith}
use Rattle.clerk.proofs.Answering.{on_locks, woken_few}
use Rattle.clerk.proofs.work.answer_by_locks.Goals as goal

pub shared_ref_as_front-put_records : goal.shared_ref_as_front-put_records
shared_ref_as_front-put_records c = omega (arith, woken_few c.step_in-t.ensures, c.step_in-t.array_long)

pub returns : goal.returns
returns c = on_locks c.args.l.letter c.step_in-t.ensures c.put_records.ensures
