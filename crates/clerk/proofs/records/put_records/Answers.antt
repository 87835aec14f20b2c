-- `clerk::records::put_records` meets its contract: the first record, then those of the wakes.
-- Assumes nothing.
use Rattle.clerk.proofs.Waking.{records_woken}
use Rattle.clerk.proofs.records.put_records.Goals as goal

pub returns : goal.returns
returns c = let a = c.args in records_woken a.h.view a.h.line a.r.letter a.r.cell a.r.answer _ c.put_first-next.ensures c.put_wakes.ensures
