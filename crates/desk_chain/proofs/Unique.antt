-- No second result and no second list meets the contract of `chain` and of `next_chain`.
-- Assumes nothing.
use mathlib.Core.Path.{sym, ◌∙◌}
use Rattle.laws.specs.Unique.{UniqueLent}
use Rattle.desk_chain.proofs.chain.chain.Reads as chain
use Rattle.desk_chain.proofs.chain.chain.Kinds as chainK
use Rattle.desk_chain.proofs.chain.next_chain.Reads as next-chain
use Rattle.desk_chain.proofs.chain.next_chain.Kinds as next-chainK

-- the answer to a request for a job's chain, and what the list then holds
pub chain_unique : UniqueLent chainK.ps chainK.r chain.Post (λ κs e. e.1.1.0.now)
chain_unique κs a x y e f p q = (p.0 ∙ sym q.0, p.1 ∙ sym q.1)

-- how many jobs the next chain has, and what the list then holds
pub next_chain_unique : UniqueLent next-chainK.ps next-chainK.r next-chain.Post (λ κs e. e.1.1.0.now)
next_chain_unique κs a x y e f p q = (p.0 ∙ sym q.0, p.1 ∙ sym q.1)
