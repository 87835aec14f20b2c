-- A waiter and the jobs in its way are named once and have places, of which there are 32. So at most 31 are in its way (demand 3).
-- Assumes nothing.
use Prim.Native.Nat.{ℕ, ◌<◌}
use mathlib.Core.Path.{◌≡◌, sym, subst, ◌∙◌}
use mathlib.Core.Bool.{true, false}
use mathlib.Core.List.{List, ◌∷◌}
use native.Mathlib.Omega.{arith}
use borrow.Author.Tests.{eqb-true}
use lib.Dec.{eqb}
use Rattle.laws.specs.Choice.{by_test}
use Rattle.laws.specs.Lists.{member, distinct}
use Rattle.laws.proofs.Lists.{member_later}
use Rattle.desk_rules.specs.Desk.{Waiter, Desk}
use Rattle.desk_rules.specs.Waiting.{InWay, IsWaiting}
use Rattle.desk_rules.specs.Invariant.{Inv}
use Rattle.desk_rules.proofs.Statuses.{live_open, waiting_open}
use Rattle.desk_rules.proofs.InTheWay.{way_younger, way_live}

module _ {d : Desk} (v : Inv d) (c : ℕ) (w : Waiter) (k : IsWaiting d c w) (is : List ℕ) (ways : (i : ℕ) → member i is ≡ true → InWay (d.row c) w i) where
  -- the waiter is not in its own way
  self_apart : member w.job is ≡ false
  self_apart =
      by_test (member w.job is) (λ t. let l : w.job < w.job = way_younger v c w k w.job (ways w.job t) in absurd (omega arith)) (λ f. f)

  -- the waiter and the jobs in its way are named once
  pub with_self : distinct is ≡ true → distinct (w.job ∷ is) ≡ true
  unfolding distinct
  with_self o = rw (self_apart, o)

  -- and have places
  pub all_seated : (i : ℕ) → member i (w.job ∷ is) ≡ true → member i d.jobs ≡ true
  all_seated i m =
      by_test (eqb w.job i) (λ t. subst (λ x. member x d.jobs ≡ true) (eqb-true w.job i t) (v.seats w.job (waiting_open k)))
      (λ f. v.seats i (live_open (d.stat i) (way_live v c w k i (ways i (sym (member_later w.job is i f) ∙ m)))))
