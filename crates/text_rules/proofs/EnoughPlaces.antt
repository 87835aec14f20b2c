-- There are always enough places for the digits of a number, so shortest decimal can be told without places: the digits of its tenth, and then its last digit.
-- Assumes nothing.
use Prim.Native.Nat.{ℕ, zero, suc, ◌*◌, ◌/◌, ◌%◌, ◌<◌, ◌≤◌}
use mathlib.Core.Path.{◌≡◌, ap, ◌∙◌}
use mathlib.Core.List.{[], ◌∷◌, ◌++◌}
use native.Mathlib.Omega.{arith}
use lib.Dec.{ltb}
use borrow.Author.Tests.{lt-ltb, le-ltb}
use Rattle.laws.specs.Choice.{by_test}
use Rattle.text_rules.specs.Decimal.{digit, digits_in, decimal}

-- ten to the power of the number of places
abbrev pub tens : ℕ → ℕ
tens zero = 1
tens (suc k) = 10 * tens k

-- a number is below the power of ten with as many places
pub below_tens : (n : ℕ) → n < tens n
below_tens zero = omega arith
below_tens (suc n) = omega (arith, below_tens n)

-- a number below ten is its one digit
one_digit : (places n : ℕ) → n < 10 → digits_in (suc places) n ≡ digit n ∷ []
unfolding digits_in
one_digit p n h = rw (lt-ltb n 10 h)

-- any other number is the digits of its tenth, and then its last digit
more_digits : (places n : ℕ) → 10 ≤ n → digits_in (suc places) n ≡ digits_in places (n / 10) ++ digit (n % 10) ∷ []
unfolding digits_in
more_digits p n h = rw (le-ltb n 10 h)

-- with enough places, it does not matter how many there are
enough_places : (p q n : ℕ) → n < tens (suc p) → n < tens (suc q) → digits_in (suc p) n ≡ digits_in (suc q) n
unfolding digits_in
enough_places zero q n h g = rw (lt-ltb n 10 (omega arith))
enough_places (suc p) zero n h g = rw (lt-ltb n 10 (omega arith))
enough_places (suc p) (suc q) n h g =
    by_test (ltb n 10) (λ s. rw s) (λ s. rw s (ap (λ ds. ds ++ digit (n % 10) ∷ []) (enough_places p q (n / 10) (omega arith) (omega arith))))

-- shortest decimal of a number below ten is its one digit
pub decimal_below_ten : (n : ℕ) → n < 10 → decimal n ≡ digit n ∷ []
unfolding decimal
decimal_below_ten n h = one_digit _ n h

-- shortest decimal of any other number is that of its tenth, and then its last digit
pub decimal_from_ten : (n : ℕ) → 10 ≤ n → decimal n ≡ decimal (n / 10) ++ digit (n % 10) ∷ []
unfolding decimal
decimal_from_ten zero h = absurd (omega arith)
decimal_from_ten (suc n) h =
    let m = suc n / 10 in
    more_digits (suc n) (suc n) h ∙ ap (λ ds. ds ++ digit (suc n % 10) ∷ []) (enough_places n m m (omega (arith, below_tens n)) (omega (arith, below_tens m)))
