-- Laws of a test over all places: a loop that goes from place to place and stops at the first failure decides it.
-- Assumes nothing.
use Prim.Native.Nat.{ℕ, zero, suc, ◌+◌, ◌<◌}
use mathlib.Core.Path.{◌≡◌, refl, sym, ap, ◌∙◌}
use mathlib.Core.Bool.{Bool, true, false}
use native.Mathlib.Numerals.{add-one}
use native.Mathlib.Omega.{arith}
use borrow.Author.Tests.{eqb-true, eqb-false}
use lib.Dec.{eqb}
use Rattle.laws.specs.Choice.{by_test}
use Rattle.std.specs.Bool.{MatchBool}
use Rattle.desk_arrays.specs.Places.{all_below}
use Rattle.desk_arrays.proofs.EveryPlace.{each_all}

-- of no place it holds
pub all_none : (f : ℕ → Bool) → all_below f 0 ≡ true
unfolding all_below
all_none f = refl

-- it holds of the places below n and of n: so it does of those below n + 1
pub all_more : (f : ℕ → Bool) (n : ℕ) → all_below f n ≡ true → f n ≡ true → all_below f (n + 1) ≡ true
unfolding all_below
all_more f n h e = rw (add-one, e, h)

-- it fails at one place below n: so it does not hold of all
pub all_fails : (f : ℕ → Bool) (n q : ℕ) → q < n → f q ≡ false → all_below f n ≡ false
unfolding all_below
all_fails f zero q h e = absurd (omega arith)
all_fails f (suc n) q h e =
    by_test (eqb q n) (λ t. rw (sym (ap f (eqb-true q n t)) ∙ e))
    (λ t. let g : q ≡ n → ⊥ = eqb-false q n t in let l : q < n = omega arith in by_test (f n) (λ a. rw a (all_fails f n q l e)) (λ a. rw a))

-- a loop that passes every place and keeps what it has found: at one place it fails
pub all_failed : (f : ℕ → Bool) (n : ℕ) {y : Bool} → f n ≡ false → y ≡ false → y ≡ all_below f (n + 1)
unfolding all_below
all_failed f n e g = rw (add-one, e) g

-- and where it holds, what was found stands
pub all_kept : (f : ℕ → Bool) (n : ℕ) {x y : Bool} → x ≡ all_below f n → f n ≡ true → y ≡ x → y ≡ all_below f (n + 1)
unfolding all_below
all_kept f n h e g = rw (add-one, e) (g ∙ h)

-- a search of every place, up to one where it fails, decides it of all
pub all_decided : (f : ℕ → Bool) (r : Bool) → MatchBool r ((q : ℕ) → q < 32 → f q ≡ true) ((q : ℕ) × (q < 32) × (f q ≡ false)) → r ≡ all_below f 32
all_decided f true h = sym (each_all f 32 h)
all_decided f false (q, l, e) = sym (all_fails f 32 q l e)
