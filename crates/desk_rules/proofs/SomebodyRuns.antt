-- Whenever a job waits, some younger job is live and not waiting: it runs (demand 3, first sentence). The proof goes from a waiter to a job in its way, each younger than the one before, until one runs: the numbers above a waiter's run out.
-- Assumes nothing.
use Prim.Native.Nat.{ℕ, zero, suc, ◌+◌, ◌<◌, ◌≤◌}
use mathlib.Core.Path.{◌≡◌, refl}
use mathlib.Core.Bool.{true}
use native.Mathlib.Omega.{arith}
use Rattle.laws.specs.Choice.{not_both}
use Rattle.terms.specs.declared.letters.Ask.{Ask}
use Rattle.desk_rules.specs.Desk.{Status, closed, running, waiting, sentback, Waiter, Desk, is_live}
use Rattle.desk_rules.specs.Invariant.{Inv}
use Rattle.desk_rules.proofs.Statuses.{waiting_open}
use Rattle.desk_rules.proofs.InTheWay.{way_some, way_younger, way_live}

-- a live job runs or waits
pub live_split : {P : Type 0} (s : Status) → is_live s ≡ true → (s ≡ running → P) → ((c : ℕ) (a : Ask) → s ≡ waiting c a → P) → P
unfolding is_live
live_split closed h f g = not_both h refl
live_split running h f g = f refl
live_split (waiting c a) h f g = g c a refl
live_split sentback h f g = not_both h refl

-- a waiting job has a younger one that runs; at most n numbers above it were given
pub runs_above : {d : Desk} → Inv d → (n j c : ℕ) (a : Ask) → d.next ≤ j + n → d.stat j ≡ waiting c a → (i : ℕ) × (j < i) × (d.stat i ≡ running)
runs_above v zero j c a l e = absurd (omega (arith, v.below j (waiting_open e)))
runs_above {d} v (suc n) j c a l e =
    let w : Waiter = record { job = j; ask = a } in
    let (i, way) = way_some v c w e in
    let y : j < i = way_younger v c w e i way in
    live_split (d.stat i) (way_live v c w e i way) (λ r. (i, y, r)) (λ b k f. younger i y (runs_above v n i b k (omega arith) f))
  where
    younger : (i : ℕ) → j < i → (k : ℕ) × (i < k) × (d.stat k ≡ running) → (k : ℕ) × (j < k) × (d.stat k ≡ running)
    younger i y (k, z, r) = (k, omega arith, r)
