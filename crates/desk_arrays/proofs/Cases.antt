-- Proofs by cases on numbers: equal or not, below or not, the last one or an earlier one.
-- Assumes nothing.
use Prim.Native.Nat.{ℕ, suc, ◌<◌, ◌≤◌}
use mathlib.Core.Path.{◌≡◌}
use mathlib.Core.Logic.{◌≢◌}
use native.Mathlib.Omega.{arith}
use lib.Dec.{eqb, ltb}
use borrow.Author.Tests.{eqb-true, eqb-false, ltb-true, ltb-false}
use Rattle.laws.specs.Choice.{by_test}

-- two numbers are the same or not
pub by_same : {P : Type 0} (a b : ℕ) → (a ≡ b → P) → (a ≢ b → P) → P
by_same a b f g = by_test (eqb a b) (λ t. f (eqb-true a b t)) (λ n. g (eqb-false a b n))

-- a number is below another or not
pub by_below : {P : Type 0} (a b : ℕ) → (a < b → P) → (b ≤ a → P) → P
by_below a b f g = by_test (ltb a b) (λ t. f (ltb-true a b t)) (λ n. g (ltb-false a b n))

-- a number below the next is the last or below it
pub by_last : {P : Type 0} (a n : ℕ) → a < suc n → (a ≡ n → P) → (a < n → P) → P
by_last a n h f g = by_same a n f (λ d. g (omega arith))
