-- How the digits of a number are counted, and written, from the last one.
-- Assumes nothing.
use Prim.Native.Nat.{ℕ, zero, suc, ◌+◌, ◌-◌, ◌/◌, ◌%◌, ◌^◌, ◌≤◌, ◌<◌, zero-le}
use mathlib.Core.Path.{◌≡◌, refl, sym, ap, ◌∙◌}
use mathlib.Core.List.{List, [], ◌∷◌, ◌++◌, append_assoc}
use native.Mathlib.Nat.{le_refl, pow-suc, mod-eq_of_lt, div-lt_iff_lt-mul, zero-lt-suc}
use native.Mathlib.Numerals.{add-one, sub-one}
use native.Mathlib.Omega.{arith}
use borrow.Author.Tests.{lt-ltb, ltb-true, ltb-false}
use lib.Dec.{ltb}
use lib.ListN.{length, drop, set, replicate, length-append, length-set}
use lib.Seq.{drop-cons, drop-set-lt, get_or-set_same}
use Rattle.laws.specs.Choice.{by_test}
use Rattle.text_rules.specs.Decimal.{digit, digits_in, decimal}
use Rattle.text_rules.proofs.EnoughPlaces.{decimal_below_ten, decimal_from_ten}

-- the single 0
pub decimal_0 : decimal 0 ≡ 48 ∷ []
unfolding decimal digits_in
decimal_0 = refl

-- a number of twenty-one digits, which no machine word holds
pub decimal_long : decimal (10 ^ 20) ≡ 49 ∷ replicate 20 48
unfolding decimal digits_in
decimal_long = refl

-- a number below a power of ten has at most as many digits as the exponent
below_power : (p k n : ℕ) → n < 10 ^ suc k → length (digits_in p n) ≤ suc k
unfolding digits_in
below_power zero k n h = zero-le
below_power (suc p) zero n h = rw (lt-ltb n 10 h) (omega arith)
below_power (suc p) (suc k) n h =
    let ih = below_power p k (n / 10) ((div-lt_iff_lt-mul (zero-lt-suc 9)).1 (rw pow-suc at h)) in
    by_test (ltb n 10) (λ t. rw t (omega arith)) (λ f. rw f (rw length-append (omega arith)))

-- the same for a number in decimal
pub digits_at_most : (k n : ℕ) → n < 10 ^ suc k → length (decimal n) ≤ suc k
unfolding decimal
digits_at_most k n h = below_power (suc n) k n h

-- twenty digits are enough for every number of 64 bits
pub decimal_at_most_20 : (n : ℕ) → n < 2 ^ 64 → length (decimal n) ≤ 20
decimal_at_most_20 n h = digits_at_most 19 n (omega arith)

-- a number has a digit
some_digit : (n : ℕ) → 1 ≤ length (decimal n)
some_digit n =
    by_test (ltb n 10) (λ t. rw (decimal_below_ten n (ltb-true n 10 t)) (omega arith))
    (λ f. rw (decimal_from_ten n (ltb-false n 10 f), length-append) (omega arith))

-- this many digits of n have been counted while the digits of rest are still to be counted, the last of them already as one
pub record Counting (n w rest : ℕ) : Type 0 where
  pub most : length (decimal n) ≤ 20
  pub some : 1 ≤ length (decimal rest)
  pub sum : length (decimal n) + 1 ≡ w + length (decimal rest)

-- at first all of n is to be counted
pub counting_first : (n : ℕ) → n < 2 ^ 64 → Counting n 1 n
counting_first n h = record { most = decimal_at_most_20 n h; some = some_digit n; sum = omega arith }

-- a number of two digits or more has one digit more than its tenth
pub counting_next : (n w rest : ℕ) → Counting n w rest → 10 ≤ rest → Counting n (w + 1) (rest / 10)
counting_next n w rest k h =
    record {
      most = k.most;
      some = some_digit (rest / 10);
      sum = k.sum ∙ ap (λ l. w + length l) (decimal_from_ten rest h) ∙ rw (length-append (decimal (rest / 10))) (omega arith);
    }

-- a number of three digits or more has two digits more than its hundredth
pub counting_two : (n w rest : ℕ) → Counting n w rest → 100 ≤ rest → Counting n (w + 2) (rest / 100)
counting_two n w rest k h =
    let a = counting_next n w rest k (omega arith) in
    let b = counting_next n (w + 1) (rest / 10) a (omega arith) in
    let e : rest / 10 / 10 ≡ rest / 100 = omega arith in
    record { most = k.most; some = rw e at b.some; sum = omega (arith, rw e at b.sum) }

-- a number of four digits or more has three digits more than its thousandth
pub counting_three : (n w rest : ℕ) → Counting n w rest → 1_000 ≤ rest → Counting n (w + 3) (rest / 1_000)
counting_three n w rest k h =
    let a = counting_two n w rest k (omega arith) in
    let b = counting_next n (w + 2) (rest / 100) a (omega arith) in
    let e : rest / 100 / 10 ≡ rest / 1_000 = omega arith in
    record { most = k.most; some = rw e at b.some; sum = omega (arith, rw e at b.sum) }

-- a number of five digits or more has four digits more than its ten thousandth
pub counting_four : (n w rest : ℕ) → Counting n w rest → 10_000 ≤ rest → Counting n (w + 4) (rest / 10_000)
counting_four n w rest k h =
    let a = counting_two n w rest k (omega arith) in
    let b = counting_two n (w + 2) (rest / 100) a (omega arith) in
    let e : rest / 100 / 100 ≡ rest / 10_000 = omega arith in
    record { most = k.most; some = rw e at b.some; sum = omega (arith, rw e at b.sum) }

-- at last one digit is left, and it has been counted
pub counting_last : (n w rest : ℕ) → Counting n w rest → rest < 10 → w ≡ length (decimal n)
counting_last n w rest k h = let e = ap length (decimal_below_ten rest h) in omega arith

-- the last digits of n, this many, with zeros in front if it has fewer
unfoldable pub last_digits : ℕ → ℕ → List ℕ
last_digits zero n = []
last_digits (suc k) n = last_digits k (n / 10) ++ digit (n % 10) ∷ []

-- n in shortest decimal is its last digits, as many as it has
digits_are_last : (p n : ℕ) → digits_in p n ≡ last_digits (length (digits_in p n)) n
unfolding digits_in last_digits
digits_are_last zero n = refl
digits_are_last (suc p) n =
    by_test (ltb n 10) (λ t. rw t (rw (mod-eq_of_lt (ltb-true n 10 t))))
    (λ f. rw f (rw (length-append, add-one) (ap (λ l. l ++ digit (n % 10) ∷ []) (digits_are_last p (n / 10)))))

-- a list from the place of a write: what was written, and then the rest of the list
drop_written : (l : List ℕ) (i v : ℕ) → i < length l → drop i (set l i v) ≡ v ∷ drop (suc i) l
drop_written l i v h =
    drop-cons (set l i v) i 0 (rw length-set h)
    ∙ rw (get_or-set_same l i v 0 h, drop-set-lt (suc i) l i v (le_refl (suc i))) refl

-- before the first digit is written: all of them are to be written
pub all_to_write : (n w : ℕ) (l : List ℕ) → w ≡ length (decimal n) → last_digits w n ++ drop w l ≡ decimal n ++ drop w l
unfolding decimal
all_to_write n w l e = ap (λ t. t ++ drop w l) (ap (λ k. last_digits k n) e ∙ sym (digits_are_last (suc n) n))

-- one more digit is at its place: what is still to be written and what is already there make the same list as before
pub one_more : (i rest : ℕ) (l whole : List ℕ) → 0 < i → i ≤ length l → last_digits i rest ++ drop i l ≡ whole →
    last_digits (i - 1) (rest / 10) ++ drop (i - 1) (set l (i - 1) (digit (rest % 10))) ≡ whole
unfolding last_digits
one_more zero rest l whole p h e = absurd (omega arith)
one_more (suc i) rest l whole p h e = rw (sub-one, drop_written l i (digit (rest % 10)) h) (rw append_assoc at e)

-- after the last digit, the list is complete
pub none_to_write : (i rest : ℕ) (l whole : List ℕ) → i ≤ 0 → last_digits i rest ++ drop i l ≡ whole → l ≡ whole
unfolding last_digits
none_to_write zero rest l whole h e = e
none_to_write (suc i) rest l whole h e = absurd (omega arith)
