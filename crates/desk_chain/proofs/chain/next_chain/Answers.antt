-- `desk_chain::chain::next_chain` meets its contract: the chain of the waiter found, or none.
-- Assumes nothing.
use Rattle.desk_chain.proofs.Answering.{next_told, next_nobody}
use Rattle.desk_chain.proofs.chain.next_chain.Goals as goal

pub returns-then-p-lt-PLACES : goal.returns-then-p-lt-PLACES
returns-then-p-lt-PLACES c = next_told _ _ _ c.waiter_above-p.ensures c.if-p-lt-PLACES.true c.follow.ensures

pub returns : goal.returns
returns c = next_nobody _ _ _ c.waiter_above-p.ensures c.if-p-lt-PLACES.false
