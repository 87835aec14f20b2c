-- The places of the paper's desk name its open jobs, and 0 is never open (01, What is delivered; 01, refusal 3).
-- Assumes nothing.
use Prim.Native.Nat.{ℕ}
use mathlib.Core.Path.{◌≡◌}
use mathlib.Core.Logic.{◌≢◌}
use mathlib.Core.Bool.{true, false}
use Rattle.desks.specs.Seating.{Seating}
use Rattle.desks.proofs.OpenJobs as seating
use Rattle.desk_rules.specs.Desk.{Desk, is_open}
use Rattle.desk_rules.specs.Invariant.{Inv}

-- 0 is never open (01, refusal 3)
pub zero_not_open : {d : Desk} → Inv d → is_open (d.stat 0) ≡ false
unfolding is_open
zero_not_open inv = rw inv.nobody

-- the places name the open jobs
pub seating_of : {d : Desk} → Inv d → Seating d.next d.jobs (λ j. is_open (d.stat j))
seating_of v = record { seats = v.seats; opens = v.opens; nobody = zero_not_open v; once = v.once; size = v.size; below = v.below }

-- so an open job's number is not 0
pub open_not_zero : {d : Desk} → Inv d → (j : ℕ) → is_open (d.stat j) ≡ true → j ≢ 0
open_not_zero v = seating.open_not_zero (seating_of v)
