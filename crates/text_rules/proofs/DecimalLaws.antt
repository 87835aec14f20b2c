-- Shortest decimal: the digits of a number stand for it, have no leading zero, and no other such digits stand for it.
-- Assumes nothing.
use Prim.Native.Nat.{ℕ, zero, suc, ◌+◌, ◌*◌, ◌-◌, ◌/◌, ◌%◌, ◌<◌, ◌≤◌}
use mathlib.Core.Path.{◌≡◌, refl, sym, ap, ◌∙◌}
use mathlib.Core.Bool.{Bool, true, false, not}
use mathlib.Core.List.{List, [], ◌∷◌, ◌++◌, append_assoc, append-nil}
use native.Mathlib.Omega.{arith}
use lib.Dec.{eqb, ltb}
use borrow.Author.Tests.{ltb-true, ltb-false, le-leb, eqb-false, ne_eqb, not-true}
use Rattle.laws.specs.Choice.{by_test, not_both}
use Rattle.text_rules.specs.Lines.{is_digit, digits_only, value_from, shortest}
use Rattle.text_rules.specs.Decimal.{digit, digits_in, decimal}
use Rattle.text_rules.proofs.Digits.{digit_bounds}
use Rattle.text_rules.proofs.EnoughPlaces.{tens, below_tens, decimal_below_ten, decimal_from_ten}

-- a number below ten has a digit
pub digit_is : (d : ℕ) → d < 10 → is_digit (digit d) ≡ true
unfolding is_digit
digit_is d h = rw (le-leb 48 (48 + d) (omega arith), le-leb (48 + d) 57 (omega arith))

-- digits after digits are digits
pub only_append : (ds es : List ℕ) → digits_only ds ≡ true → digits_only es ≡ true → digits_only (ds ++ es) ≡ true
unfolding digits_only
only_append [] es h g = g
only_append (d ∷ ds) es h g = by_test (is_digit d) (λ e. rw e (only_append ds es (rw e at h) g)) (λ e. not_both (rw e at h) refl)

-- in a text of digits only, the first byte is a digit and so are the others
pub only_parts : (d : ℕ) (ds : List ℕ) → digits_only (d ∷ ds) ≡ true → (is_digit d ≡ true) × (digits_only ds ≡ true)
unfolding digits_only
only_parts d ds h = by_test (is_digit d) (λ e. (e, rw e at h)) (λ e. not_both (rw e at h) refl)

-- a number is written in digits
pub digits_only_lem : (places n : ℕ) → digits_only (digits_in places n) ≡ true
unfolding digits_only digits_in
digits_only_lem zero n = refl
digits_only_lem (suc p) n =
    by_test (ltb n 10) (λ s. rw (s, digit_is n (ltb-true n 10 s)))
    (λ s. rw s (only_append (digits_in p (n / 10)) (digit (n % 10) ∷ []) (digits_only_lem p (n / 10)) (rw (digit_is (n % 10) (omega arith)))))

-- reading digits after digits goes on from the value of the first
pub value_append : (v : ℕ) (ds es : List ℕ) → value_from v (ds ++ es) ≡ value_from (value_from v ds) es
unfolding value_from
value_append v [] es = refl
value_append v (d ∷ ds) es = value_append (v * 10 + (d - 48)) ds es

-- the digits of a number stand for it
pub value_in : (places n : ℕ) → n < tens places → value_from 0 (digits_in places n) ≡ n
unfolding digits_in value_from
value_in zero n h = omega arith
value_in (suc p) n h =
    by_test (ltb n 10) (λ s. rw s (omega arith))
    (λ s. rw (s, value_append 0 (digits_in p (n / 10)) (digit (n % 10) ∷ []), value_in p (n / 10) (omega arith)) (omega arith))

-- whether digits begin with one other than zero
unfoldable pub leads : List ℕ → Bool
leads [] = false
leads (d ∷ ds) = not (eqb d 48)

-- further digits do not change the first
leads_append : (ds es : List ℕ) → leads ds ≡ true → leads (ds ++ es) ≡ true
unfolding leads
leads_append [] es h = not_both h refl
leads_append (d ∷ ds) es h = h

-- digits that begin with one other than zero are shortest
leads_shortest : (ds : List ℕ) → leads ds ≡ true → shortest ds ≡ true
unfolding leads shortest
leads_shortest [] h = h
leads_shortest (d ∷ []) h = refl
leads_shortest (d ∷ e ∷ ds) h = h

-- a number above 0 begins with a digit other than zero
leads_in : (places n : ℕ) → 0 < n → n < tens places → leads (digits_in places n) ≡ true
unfolding digits_in leads
leads_in zero n z h = absurd (omega arith)
leads_in (suc p) n z h =
    by_test (ltb n 10) (λ s. rw (s, ne_eqb (48 + n) 48 (λ e. omega arith)))
    (λ s. rw s (leads_append (digits_in p (n / 10)) (digit (n % 10) ∷ []) (leads_in p (n / 10) (omega (arith, ltb-false n 10 s)) (omega arith))))

-- a number is written with no leading zero except the single 0
pub shortest_in : (places n : ℕ) → n < tens (suc places) → shortest (digits_in (suc places) n) ≡ true
unfolding digits_in shortest
shortest_in p n h =
    by_test (ltb n 10) (λ s. rw s)
    (λ s. rw s (leads_shortest _ (leads_append (digits_in p (n / 10)) (digit (n % 10) ∷ []) (leads_in p (n / 10) (omega (arith, ltb-false n 10 s)) (omega arith)))))

-- a further digit is written after the others
one_more : (n b : ℕ) → 0 < n → is_digit b ≡ true → decimal (n * 10 + (b - 48)) ≡ decimal n ++ b ∷ []
one_more n b z d =
    let m = n * 10 + (b - 48) in
    let lo : 48 ≤ b = (digit_bounds b d).0 in
    let hi : b ≤ 57 = (digit_bounds b d).1 in
    let q : m / 10 ≡ n = omega arith in
    let r : digit (m % 10) ≡ b = omega arith in
    decimal_from_ten m (omega arith) ∙ rw (q, r)

-- further digits are written after the others
further : (n : ℕ) (ds : List ℕ) → 0 < n → digits_only ds ≡ true → decimal (value_from n ds) ≡ decimal n ++ ds
unfolding digits_only value_from
further n [] z o = sym (append-nil _)
further n (d ∷ ds) z o =
    further (n * 10 + (d - 48)) ds (omega arith) (only_parts d ds o).1
    ∙ ap (λ es. es ++ ds) (one_more n d z (only_parts d ds o).0)
    ∙ append_assoc (decimal n) (d ∷ []) ds

-- a digit is written as itself
first_digit : (d : ℕ) → is_digit d ≡ true → decimal (0 * 10 + (d - 48)) ≡ d ∷ []
first_digit d k =
    let lo : 48 ≤ d = (digit_bounds d k).0 in
    let hi : d ≤ 57 = (digit_bounds d k).1 in
    let e : 48 + (0 * 10 + (d - 48)) ≡ d = omega arith in
    decimal_below_ten (0 * 10 + (d - 48)) (omega arith) ∙ rw e

-- shortest decimal has digits only
pub decimal_digits : (n : ℕ) → digits_only (decimal n) ≡ true
unfolding decimal
decimal_digits n = digits_only_lem (suc n) n

-- shortest decimal has no leading zero except the single 0
pub decimal_shortest : (n : ℕ) → shortest (decimal n) ≡ true
unfolding decimal
decimal_shortest n = shortest_in n n (omega (arith, below_tens n))

-- shortest decimal stands for its number
pub decimal_value : (n : ℕ) → value_from 0 (decimal n) ≡ n
unfolding decimal
decimal_value n = value_in (suc n) n (omega (arith, below_tens n))

-- no other shortest digits stand for the number
pub decimal_unique : (ds : List ℕ) → digits_only ds ≡ true → shortest ds ≡ true → decimal (value_from 0 ds) ≡ ds
unfolding value_from shortest
decimal_unique [] o s = not_both s refl
decimal_unique (d ∷ []) o s = first_digit d (only_parts d [] o).0
decimal_unique (d ∷ e ∷ ds) o s =
    let k : is_digit d ≡ true = (only_parts d (e ∷ ds) o).0 in
    let lo : 48 ≤ d = (digit_bounds d k).0 in
    let ne : d ≡ 48 → ⊥ = eqb-false d 48 (not-true _ s) in
    let z : 0 < 0 * 10 + (d - 48) = omega arith in
    further (0 * 10 + (d - 48)) (e ∷ ds) z (only_parts d (e ∷ ds) o).1 ∙ ap (λ es. es ++ e ∷ ds) (first_digit d k)
