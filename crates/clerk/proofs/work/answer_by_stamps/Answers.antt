-- `clerk::work::answer_by_stamps` meets its contract: the timestamp desk's step, and the record of its answer.
-- Assumes nothing.
use Rattle.clerk.proofs.Answering.{on_stamps_lem}
use Rattle.clerk.proofs.work.answer_by_stamps.Goals as goal

pub returns : goal.returns
returns c = on_stamps_lem c.args.l.letter c.step_in.ensures c.put_first.ensures
