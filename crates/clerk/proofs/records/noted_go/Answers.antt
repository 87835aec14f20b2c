-- `clerk::records::noted_go` meets its contract: each letter as the desk records it.
-- Assumes nothing.
use Rattle.clerk.proofs.Noting.{went_asks}
use Rattle.clerk.proofs.records.noted_go.Goals as goal

pub returns-in-Asks : goal.returns-in-Asks
returns-in-Asks c = search went_asks
