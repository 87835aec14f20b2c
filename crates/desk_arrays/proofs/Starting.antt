-- A desk is started at every number but 0 (01, refusal 10).
-- Assumes nothing.
use Prim.Native.Nat.{ℕ, ◌<◌, ◌≤◌}
use mathlib.Core.Path.{◌≡◌, refl, sym}
use mathlib.Core.Logic.{◌≢◌}
use mathlib.Core.List.{[]}
use native.Mathlib.Omega.{arith}
use lib.Dec.{eqb}
use borrow.Author.Tests.{eqb-true, eqb-false, ne_eqb}
use Rattle.laws.specs.Choice.{by_test}
use Rattle.terms.specs.declared.refusals.Refusal.{Refusal}
use Rattle.terms.specs.declared.refusals.Refusal.TheVariants.{StartedAtZero}
use Rattle.terms.specs.Refusals.{number_of}
use Rattle.terms.specs.Limits.{last_number}
use Rattle.desks.specs.Started.{fresh}
use Rattle.desk_arrays.specs.declared.state.Desk.{Desk}
use Rattle.std.specs.Prelude.{Result, Ok, Err}
use Rattle.desk_arrays.specs.Steps.{empty_desk, start_of}
use Rattle.desk_arrays.specs.Seen.{Started}

-- a desk started at 0 is refused with 10, and there is no desk (01, refusal 10)
pub desk_start_at_zero : (start_of 0 ≡ Err StartedAtZero) × (number_of StartedAtZero ≡ 10)
unfolding start_of
desk_start_at_zero = (refl, refl)

-- at any other number it is the empty desk with that number next
pub desk_start_else : (n : ℕ) → n ≢ 0 → start_of n ≡ Ok (empty_desk n)
unfolding start_of
desk_start_else n z = rw (ne_eqb n 0 z)

-- so a start is refused only at 0, and only by refusal 10
pub desk_start_refused_when : (n : ℕ) (why : Refusal) → start_of n ≡ Err why → (n ≡ 0) × (why ≡ StartedAtZero)
unfolding start_of
desk_start_refused_when n why e =
    by_test (eqb n 0) (λ t. (eqb-true n 0 t, let q : ◌≡◌ {A = Result Desk Refusal} (Err StartedAtZero) (Err why) = rw t at e in cc))
    (λ f. let q : ◌≡◌ {A = Result Desk Refusal} (Ok (empty_desk n)) (Err why) = rw f at e in cc)

-- a desk that is handed out is the empty one, and the number was not 0
pub desk_start_ready_when : (n : ℕ) (d : Desk) → start_of n ≡ Ok d → (n ≢ 0) × (d ≡ empty_desk n)
unfolding start_of
desk_start_ready_when n d e =
    by_test (eqb n 0) (λ t. let q : ◌≡◌ {A = Result Desk Refusal} (Err StartedAtZero) (Ok d) = rw t at e in cc)
    (λ f. (eqb-false n 0 f, let q : ◌≡◌ {A = Result Desk Refusal} (Ok (empty_desk n)) (Ok d) = rw f at e in cc))

-- a desk that is handed out at a number up to 4,294,967,295 is a started one with an empty history
pub desk_start_started : (n : ℕ) (d : Desk) → n ≤ last_number → start_of n ≡ Ok d → Started d []
desk_start_started n d last e = rw (desk_start_ready_when n d e).1 (fresh n (above (desk_start_ready_when n d e).0) last)
  where
    above : n ≢ 0 → 0 < n
    above z = omega arith

-- the desk handed out at 1
pub desk_first : {d : Desk} → Ok d ≡ start_of 1 → d ≡ empty_desk 1
desk_first {d} e = (desk_start_ready_when 1 d (sym e)).1
