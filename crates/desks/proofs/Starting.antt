-- Refusal 10 is given exactly to a start at number 0. Every other number gives the fresh desk, which counts as started (01, refusal 10; 01, Jobs and their numbers).
-- Assumes nothing.
use Prim.Native.Nat.{ℕ, ◌<◌, ◌≤◌}
use mathlib.Core.Path.{◌≡◌, refl, subst}
use mathlib.Core.Logic.{◌≢◌}
use mathlib.Core.List.{[]}
use native.Mathlib.Omega.{arith}
use borrow.Author.Tests.{eqb-true, eqb-false, ne_eqb}
use lib.Dec.{eqb}
use Rattle.std.specs.Prelude.{Result, Ok, Err}
use Rattle.laws.specs.Choice.{by_test}
use Rattle.terms.specs.declared.refusals.Refusal.{Refusal}
use Rattle.terms.specs.declared.refusals.Refusal.TheVariants.{StartedAtZero}
use Rattle.terms.specs.Limits.{last_number}
use Rattle.terms.specs.Refusals.{number_of}
use Rattle.desks.specs.Stepping.{Stepping}
use Rattle.desks.specs.Started.{StartedOn, fresh}
use Rattle.desks.specs.Start.{start_at}

module _ {S : Type 0} (new : ℕ → S) where
  -- a start at 0 gives no desk and refusal 10
  pub start_at_zero : (start_at new 0 ≡ Err StartedAtZero) × (number_of StartedAtZero ≡ 10)
  unfolding start_at
  start_at_zero = (refl, refl)

  -- a start at any other number gives the fresh desk
  pub start_else : (n : ℕ) → n ≢ 0 → start_at new n ≡ Ok (new n)
  unfolding start_at
  start_else n h = rw (ne_eqb n 0 h)

  -- so a start is refused only at 0, and only with refusal 10
  pub start_refused_when : (n : ℕ) (why : Refusal) → start_at new n ≡ Err why → (n ≡ 0) × (why ≡ StartedAtZero)
  unfolding start_at
  start_refused_when n why e =
      by_test (eqb n 0) (λ t. (eqb-true n 0 t, let q : ◌≡◌ {A = Result S Refusal} (Err StartedAtZero) (Err why) = rw t at e in cc))
      (λ f. let q : ◌≡◌ {A = Result S Refusal} (Ok (new n)) (Err why) = rw f at e in cc)

  -- a start at a number up to 4,294,967,295 that gives a desk gives a started one with an empty history
  pub start_started : (step : Stepping S) (n : ℕ) (d : S) → n ≤ last_number → start_at new n ≡ Ok d → StartedOn step new d []
  unfolding start_at
  start_started step n d le e =
      by_test (eqb n 0) (λ t. let q : ◌≡◌ {A = Result S Refusal} (Err StartedAtZero) (Ok d) = rw t at e in cc)
      (λ f. let q : ◌≡◌ {A = Result S Refusal} (Ok (new n)) (Ok d) = rw f at e in
      subst (λ x. StartedOn step new x []) (same_desk (new n) d q) (fresh n (above n (eqb-false n 0 f)) le))
    where
      same_desk : (x y : S) → ◌≡◌ {A = Result S Refusal} (Ok x) (Ok y) → x ≡ y
      same_desk x y p = cc

      above : (n : ℕ) → n ≢ 0 → 0 < n
      above n h = omega arith
