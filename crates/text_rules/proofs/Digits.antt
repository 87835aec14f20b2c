-- Digits read one by one: reading the rest decides as reading the whole does.
-- Assumes nothing.
use Prim.Native.Nat.{ℕ, suc, ◌+◌, ◌-◌, ◌*◌, ◌<◌, ◌≤◌}
use mathlib.Core.Path.{◌≡◌, refl, ap, ◌∙◌}
use mathlib.Core.Bool.{true, false}
use mathlib.Core.List.{List, [], ◌∷◌}
use native.Mathlib.Omega.{arith}
use lib.ListN.{length, get_or, drop, drop_of_length-le}
use lib.Dec.{leb}
use borrow.Author.Tests.{le-leb, lt-leb, leb-true}
use Rattle.std.specs.Prelude.{None}
use Rattle.laws.specs.Choice.{by_test, not_both}
use Rattle.text_rules.specs.Lines.{parts, is_digit, value_from}
use Rattle.text_rules.specs.Fields.{digits_of, after_digits, digit_ahead, end_ahead, digits_at, number}
use Rattle.text_rules.proofs.Places.{byte_here}

-- a number grows with each digit
pub value_grows : (v : ℕ) (ds : List ℕ) → v ≤ value_from v ds
unfolding value_from
value_grows v [] = omega arith
value_grows v (d ∷ ds) = omega (arith, value_grows (v * 10 + (d - 48)) ds)

-- one digit more
pub digits_more : (most v at b : ℕ) (t : List ℕ) → is_digit b ≡ true → digits_at most v at (b ∷ t) ≡ digits_at most (v * 10 + (b - 48)) (at + 1) t
unfolding digits_at digits_of after_digits value_from
digits_more most v at b t d =
    let e : at + suc (length (digits_of t)) ≡ at + 1 + length (digits_of t) = omega arith in
    rw (d, e)

-- no digit more, and the field ends
pub digits_none : (most v at : ℕ) (t : List ℕ) → digit_ahead t ≡ false → end_ahead t ≡ true → v ≤ most → digits_at most v at t ≡ number v at
unfolding digits_at digits_of after_digits value_from digit_ahead end_ahead
digits_none most v at [] d p h = let e : at + 0 ≡ at = omega arith in rw (le-leb v most h, e)
digits_none most v at (b ∷ t) d p h = let e : at + 0 ≡ at = omega arith in rw (d, p, le-leb v most h, e)

-- no digit more, and the field goes on
pub digits_torn : (most v at : ℕ) (t : List ℕ) → digit_ahead t ≡ false → end_ahead t ≡ false → digits_at most v at t ≡ None
unfolding digits_at digits_of after_digits value_from digit_ahead end_ahead
digits_torn most v at [] d p = not_both refl p
digits_torn most v at (b ∷ t) d p = by_test (leb v most) (λ h. rw (d, p, h)) (λ h. rw (d, p, h))

-- a number that is too large already
pub digits_over : (most v at : ℕ) (t : List ℕ) → most < v → digits_at most v at t ≡ None
unfolding digits_at
digits_over most v at t h = rw (lt-leb (value_from v (digits_of t)) most (omega (arith, value_grows v (digits_of t))))

-- a digit at a place of a line: the rest decides from the next place on
pub more_here : (most v at : ℕ) (line : List ℕ) → at < length line → is_digit (get_or line at 0) ≡ true → digits_at most v at (drop at line) ≡ digits_at most (v * 10 + (get_or line at 0 - 48)) (at + 1) (drop (at + 1) line)
more_here most v at line h d = ap (digits_at most v at) (byte_here line at h) ∙ digits_more most v at _ _ d

-- a tab or a newline at a place of a line: the number ends before it
pub stop_here : (most v at : ℕ) (line : List ℕ) → at < length line → is_digit (get_or line at 0) ≡ false → parts (get_or line at 0) ≡ true → v ≤ most → digits_at most v at (drop at line) ≡ number v at
unfolding digit_ahead end_ahead
stop_here most v at line h d p small = ap (digits_at most v at) (byte_here line at h) ∙ digits_none most v at _ d p small

-- another byte at a place of a line: the field is not a number
pub torn_here : (most v at : ℕ) (line : List ℕ) → at < length line → is_digit (get_or line at 0) ≡ false → parts (get_or line at 0) ≡ false → digits_at most v at (drop at line) ≡ None
unfolding digit_ahead end_ahead
torn_here most v at line h d p = ap (digits_at most v at) (byte_here line at h) ∙ digits_torn most v at _ d p

-- no byte more: the number ends with the line
pub stop_past : (most v at : ℕ) (line : List ℕ) → length line ≤ at → v ≤ most → digits_at most v at (drop at line) ≡ number v at
unfolding digit_ahead end_ahead
stop_past most v at line h small = ap (digits_at most v at) (drop_of_length-le line h) ∙ digits_none most v at [] refl refl small

-- a digit is one of 48 to 57
pub digit_bounds : (b : ℕ) → is_digit b ≡ true → (48 ≤ b) × (b ≤ 57)
unfolding is_digit
digit_bounds b d =
    by_test (leb 48 b) (λ l. (leb-true _ _ l, leb-true _ _ (rw l at d))) (λ l. not_both (rw l at d) refl)
