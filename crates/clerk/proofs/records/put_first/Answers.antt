-- `clerk::records::put_first` meets its contract: the answer, or what the history notes of it, or nothing.
-- Assumes nothing.
use native.Mathlib.Omega.{arith}
use Rattle.clerk.proofs.Adding.{added_none, added_as}
use Rattle.clerk.proofs.Cases.{first_chains}
use Rattle.clerk.proofs.records.put_first.Goals as goal

pub returns-in-Chains : goal.returns-in-Chains
returns-in-Chains c = added_as (added_none (omega arith)) (search first_chains)
