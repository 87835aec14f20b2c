-- A text split at its first tab or newline: the field before it and what follows; and written fields are split as they were written.
-- Assumes nothing.
use Rattle.std.specs.Prelude.{Some}
use Prim.Native.Nat.{ℕ}
use mathlib.Core.Path.{◌≡◌, refl, sym, ap}
use mathlib.Core.Bool.{true, false}
use mathlib.Core.List.{List, [], ◌∷◌, ◌++◌}
use native.Mathlib.Omega.{arith}
use lib.Dec.{eqb}
use borrow.Author.Tests.{eqb-true}
use Rattle.laws.specs.Choice.{by_test, not_both}
use Rattle.terms.specs.declared.letters.Ask.TheVariants.{Read, Write, Increment, Update}
use Rattle.terms.specs.declared.letters.Letter.{Letter}
use Rattle.terms.specs.declared.letters.Letter.TheVariants.{Begin, Commit, GiveUp, Retry, Back, Asks}
use Rattle.terms.specs.Letters.{byte_of}
use Rattle.terms.specs.Words.{tab, newline}
use Rattle.text_rules.specs.Lines.{parts, field_ahead, after_field, is_digit, digits_only, letter_in}
use Rattle.text_rules.specs.Fields.{digits_of, after_digits, end_ahead}
use Rattle.terms.proofs.Alphabet.{byte_of_letter}
use Rattle.text_rules.proofs.DecimalLaws.{only_parts}

-- the field that a text begins with, and what follows, are the text
pub field_then : (t : List ℕ) → field_ahead t ++ after_field t ≡ t
unfolding field_ahead after_field
field_then [] = refl
field_then (b ∷ t) = by_test (parts b) (λ p. rw p) (λ p. rw p (ap (λ u. b ∷ u) (field_then t)))

-- where the field ends there is a tab, a newline or nothing
pub after_ends : (t : List ℕ) → end_ahead (after_field t) ≡ true
unfolding after_field end_ahead
after_ends [] = refl
after_ends (b ∷ t) = by_test (parts b) (λ p. rw p p) (λ p. rw p (after_ends t))

-- a field that ends at once is empty
pub field_none : (t : List ℕ) → end_ahead t ≡ true → (field_ahead t ≡ []) × (after_field t ≡ t)
unfolding field_ahead after_field end_ahead
field_none [] h = (refl, refl)
field_none (b ∷ t) h = (rw h, rw h)

-- a letter does not end a field
letter_no_part : (l : Letter) → parts (byte_of l) ≡ false
unfolding parts
letter_no_part Begin = refl
letter_no_part Commit = refl
letter_no_part GiveUp = refl
letter_no_part Retry = refl
letter_no_part Back = refl
letter_no_part (Asks Read) = refl
letter_no_part (Asks Write) = refl
letter_no_part (Asks Increment) = refl
letter_no_part (Asks Update) = refl

-- a letter before the end of a field is the field
pub letter_before : (l : Letter) (t : List ℕ) → end_ahead t ≡ true → (field_ahead (byte_of l ∷ t) ≡ byte_of l ∷ []) × (after_field (byte_of l ∷ t) ≡ t)
unfolding field_ahead after_field
letter_before l t h =
    let e = field_none t h in
    (rw (letter_no_part l) (ap (λ u. byte_of l ∷ u) e.0), rw (letter_no_part l) e.1)

-- a first field that is a letter is its byte
pub letter_field : (f : List ℕ) (l : Letter) → letter_in f ≡ Some l → f ≡ byte_of l ∷ []
unfolding letter_in
letter_field [] l e = let z : ◌≡◌ {A = ℕ} 0 1 = cc in absurd (omega arith)
letter_field (b ∷ []) l e = ap (λ x. x ∷ []) (sym (byte_of_letter b l e))
letter_field (b ∷ c ∷ t) l e = let z : ◌≡◌ {A = ℕ} 0 1 = cc in absurd (omega arith)

-- a digit does not end a field
pub digit_no_part : (b : ℕ) → is_digit b ≡ true → parts b ≡ false
unfolding is_digit parts
digit_no_part b d =
    by_test (eqb b tab) (λ e. not_both (rw (eqb-true b tab e) at d) refl)
    (λ e. by_test (eqb b newline) (λ f. not_both (rw (eqb-true b newline f) at d) refl) (λ f. rw (e, f)))

-- digits before the end of a field are the field
pub digits_before : (ds t : List ℕ) → digits_only ds ≡ true → end_ahead t ≡ true → (field_ahead (ds ++ t) ≡ ds) × (after_field (ds ++ t) ≡ t)
unfolding field_ahead after_field
digits_before [] t o h = field_none t h
digits_before (d ∷ ds) t o h =
    let k = only_parts d ds o in
    let p = digit_no_part d k.0 in
    let e = digits_before ds t k.1 h in
    (rw p (ap (λ u. d ∷ u) e.0), rw p e.1)

-- the digits that a text begins with, and what follows, are the text
pub digits_then : (t : List ℕ) → digits_of t ++ after_digits t ≡ t
unfolding digits_of after_digits
digits_then [] = refl
digits_then (b ∷ t) = by_test (is_digit b) (λ d. rw d (ap (λ u. b ∷ u) (digits_then t))) (λ d. rw d)

-- they are digits only
pub digits_are : (t : List ℕ) → digits_only (digits_of t) ≡ true
unfolding digits_of digits_only
digits_are [] = refl
digits_are (b ∷ t) = by_test (is_digit b) (λ d. rw (d, d) (digits_are t)) (λ d. rw d)

-- if the field ends after the digits, it is the digits
pub digits_whole : (t : List ℕ) → end_ahead (after_digits t) ≡ true → (field_ahead t ≡ digits_of t) × (after_field t ≡ after_digits t)
digits_whole t h =
    let e = digits_before (digits_of t) (after_digits t) (digits_are t) h in
    rw (digits_then t) at e

-- if it goes on after them, it is not a number
pub digits_not_whole : (t : List ℕ) → end_ahead (after_digits t) ≡ false → digits_only (field_ahead t) ≡ false
unfolding after_digits end_ahead field_ahead digits_only
digits_not_whole [] h = not_both refl h
digits_not_whole (b ∷ t) h =
    by_test (is_digit b)
    (λ d. rw (digit_no_part b d, d) (digits_not_whole t (rw d at h)))
    (λ d. let p : parts b ≡ false = rw d at h in rw (p, d))
