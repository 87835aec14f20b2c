-- `clerk::records::put_noted` meets its contract: a line, or nothing.
-- Assumes nothing.
use native.Mathlib.Omega.{arith}
use Rattle.clerk.proofs.Adding.{added_none, added_as}
use Rattle.clerk.proofs.Cases.{nothing_noted}
use Rattle.clerk.proofs.records.put_noted.Goals as goal

pub returns-in-None : goal.returns-in-None
returns-in-None c = added_as (added_none (omega arith)) (search nothing_noted)
