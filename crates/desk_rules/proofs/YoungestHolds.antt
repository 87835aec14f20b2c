-- THE YOUNGEST IN A WAITER'S WAY HOLDS ITS CELL: the first of the queue has a holder in its way that is younger than itself, and so younger than every job in the queue (02, No. 3).
-- Assumes nothing.
use Prim.Native.Nat.{ℕ, ◌<◌, ◌≤◌}
use mathlib.Core.Path.{◌≡◌, sym, subst}
use mathlib.Core.Logic.{◌≢◌}
use mathlib.Core.Bool.{false}
use mathlib.Core.List.{List, [], ◌∷◌}
use native.Mathlib.Omega.{arith}
use Rattle.conflict.specs.declared.modes.Mode.{Mode}
use Rattle.conflict.specs.Modes.{is_free}
use Rattle.laws.specs.Standing.{In, first}
use Rattle.desk_rules.specs.Desk.{Waiter, Desk}
use Rattle.desk_rules.specs.Waiting.{InWay, holds_it, ahead, IsWaiting}
use Rattle.desk_rules.specs.Invariant.{Falling, FirstBlocked, Inv}
use Rattle.desk_rules.specs.Chain.{Next}
use Rattle.laws.proofs.Standing.{in_none, in_split}
use Rattle.desk_rules.proofs.AheadLaws.{ahead_in, ahead_younger}
use Rattle.desk_rules.proofs.InTheWay.{in_way_held}

-- if a queue falls, its first waiter is blocked and its waiters are older than every other holder, then some holder is younger than every job in the queue
younger_holder : (held : ℕ → Mode) (q : List Waiter) → Falling q → FirstBlocked held q → ((w : Waiter) (i : ℕ) → In w q → i ≢ w.job → is_free (held i) ≡ false → w.job < i) →
    (v : Waiter) → In v q → (i : ℕ) × (is_free (held i) ≡ false) × (v.job < i)
younger_holder held [] f b e v h = in_none h
younger_holder held (u ∷ q) f (i, n, g) e v h =
    let k = in_way_held (held i) _ g in
    let l : u.job < i = e u i first n k in
    (i, k, in_split h (λ p. subst (λ x. x.job < i) (sym p) l) (λ m. let y = f.0 v m in omega arith))

module _ {d : Desk} (v : Inv d) (c : ℕ) (w : Waiter) (k : IsWaiting d c w) where
  -- the next job is another holder of the cell
  pub next_holds : (i : ℕ) → Next d c w i → (i ≢ w.job) × (is_free ((d.row c).held i) ≡ false)
  next_holds i n = go n.way
    where
      -- a waiter ahead is not the youngest: some holder is younger
      go : InWay (d.row c) w i → (i ≢ w.job) × (is_free ((d.row c).held i) ≡ false)
      go (holds_it x f) = (x, f)
      go (ahead u e a) =
          let l = ahead_younger (v.rows c).down a in
          let (h, f, y) = younger_holder (d.row c).held (d.row c).queue (v.rows c).down (v.rows c).blocked (v.rows c).elder u (ahead_in a) in
          let z : h ≤ i = n.youngest h (holds_it (λ p. omega (arith, l, y, p)) f) in
          absurd (omega (arith, y, z, e))
