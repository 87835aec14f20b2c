-- `clerk::records::put_wake` meets its contract in each view.
-- Assumes nothing.
use native.Mathlib.Omega.{arith}
use Rattle.clerk.proofs.Adding.{added_none, added_as}
use Rattle.clerk.proofs.Cases.{wake_chains}
use Rattle.clerk.proofs.records.put_wake.Goals as goal

pub returns-in-Chains : goal.returns-in-Chains
returns-in-Chains c = added_as (added_none (omega arith)) (search wake_chains)
