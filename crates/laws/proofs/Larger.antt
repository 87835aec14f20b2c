-- The larger of two numbers: it is one of them, and neither is above it.
-- Assumes nothing.
use Prim.Native.Nat.{ℕ, ◌≤◌}
use mathlib.Core.Path.{◌≡◌}
use native.Mathlib.Omega.{arith}
use lib.Dec.{ltb}
use borrow.Author.Tests.{ltb-true, ltb-false}
use Rattle.laws.specs.Choice.{by_test}
use Rattle.laws.specs.Larger.{larger}

-- a proof by which of the two it is
pub by_larger : {P : Type 0} (m n : ℕ) → (larger m n ≡ m → n ≤ m → P) → (larger m n ≡ n → m ≤ n → P) → P
unfolding larger
by_larger m n one' two' =
    by_test (ltb m n) (λ t. two' (rw t) (omega (arith, ltb-true m n t))) (λ f. one' (rw f) (ltb-false m n f))

-- the first is not above it
pub larger_first : (m n : ℕ) → m ≤ larger m n
larger_first m n = by_larger m n (λ e l. omega arith) (λ e l. omega arith)

-- nor is the second
pub larger_second : (m n : ℕ) → n ≤ larger m n
larger_second m n = by_larger m n (λ e l. omega arith) (λ e l. omega arith)

-- a number that is not below either is not below it
pub larger_most : (m n k : ℕ) → m ≤ k → n ≤ k → larger m n ≤ k
larger_most m n k p q = by_larger m n (λ e l. omega arith) (λ e l. omega arith)

-- where the second is not below the first, it is the second
pub larger_is_second : (m n : ℕ) → m ≤ n → larger m n ≡ n
larger_is_second m n h = by_larger m n (λ e l. omega arith) (λ e l. e)

-- where the first is not below the second, it is the first
pub larger_is_first : (m n : ℕ) → n ≤ m → larger m n ≡ m
larger_is_first m n h = by_larger m n (λ e l. e) (λ e l. omega arith)

-- of three numbers it does not matter which two are taken first
pub larger_assoc : (m n k : ℕ) → larger m (larger n k) ≡ larger (larger m n) k
larger_assoc m n k =
    let up : larger m (larger n k) ≤ larger (larger m n) k =
    larger_most m (larger n k) (larger (larger m n) k) (omega (arith, larger_first m n, larger_first (larger m n) k))
    (larger_most n k (larger (larger m n) k) (omega (arith, larger_second m n, larger_first (larger m n) k)) (larger_second (larger m n) k)) in
    let down : larger (larger m n) k ≤ larger m (larger n k) =
    larger_most (larger m n) k (larger m (larger n k))
    (larger_most m n (larger m (larger n k)) (larger_first m (larger n k)) (omega (arith, larger_first n k, larger_second m (larger n k))))
    (omega (arith, larger_second n k, larger_second m (larger n k))) in
    omega arith
