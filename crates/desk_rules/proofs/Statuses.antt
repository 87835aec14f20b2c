-- What a status says: which jobs are open, which are live, and that a job waits for one cell with one ask or not at all.
-- Assumes nothing.
use Prim.Native.Nat.{ℕ}
use mathlib.Core.Path.{◌≡◌, refl}
use mathlib.Core.Logic.{◌≢◌}
use mathlib.Core.Bool.{true, false}
use native.Mathlib.Omega.{arith}
use Rattle.laws.specs.Choice.{not_both}
use Rattle.terms.specs.declared.letters.Ask.{Ask}
use Rattle.desk_rules.specs.Desk.{Status, closed, running, waiting, sentback, is_open, is_live}

-- a live job is open
pub live_open : (s : Status) → is_live s ≡ true → is_open s ≡ true
unfolding is_live is_open
live_open closed h = h
live_open running h = refl
live_open (waiting c a) h = refl
live_open sentback h = refl

-- a running job is live
pub running_live : {s : Status} → s ≡ running → is_live s ≡ true
unfolding is_live
running_live e = rw e

-- and open
pub running_open : {s : Status} → s ≡ running → is_open s ≡ true
unfolding is_open
running_open e = rw e

-- a waiting job is live
pub waiting_live : {s : Status} {c : ℕ} {a : Ask} → s ≡ waiting c a → is_live s ≡ true
unfolding is_live
waiting_live e = rw e

-- and open
pub waiting_open : {s : Status} {c : ℕ} {a : Ask} → s ≡ waiting c a → is_open s ≡ true
unfolding is_open
waiting_open e = rw e

-- a sent back job is open
pub sentback_open : {s : Status} → s ≡ sentback → is_open s ≡ true
unfolding is_open
sentback_open e = rw e

-- a closed job is not
pub closed_not_open : {s : Status} → s ≡ closed → is_open s ≡ false
unfolding is_open
closed_not_open e = rw e

-- a running job does not wait
pub running_not_waiting : {s : Status} {c : ℕ} {a : Ask} → s ≡ running → s ≢ waiting c a
running_not_waiting p q = let z : ◌≡◌ {A = ℕ} 0 1 = cc in omega arith

-- nor does one that was sent back
pub sentback_not_waiting : {s : Status} {c : ℕ} {a : Ask} → s ≡ sentback → s ≢ waiting c a
sentback_not_waiting p q = let z : ◌≡◌ {A = ℕ} 0 1 = cc in omega arith

-- nor one that is not open
pub not_open_not_waiting : {s : Status} {c : ℕ} {a : Ask} → is_open s ≡ false → s ≢ waiting c a
not_open_not_waiting h e = not_both (waiting_open e) h

-- a job waits for one cell
pub one_cell : {s : Status} {b c : ℕ} {a k : Ask} → s ≡ waiting b a → s ≡ waiting c k → b ≡ c
one_cell p q = cc

-- with one ask
pub one_ask : {s : Status} {b c : ℕ} {a k : Ask} → s ≡ waiting b a → s ≡ waiting c k → a ≡ k
one_ask p q = cc
