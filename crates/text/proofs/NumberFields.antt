-- A number field found at a place of a line is the field that the line's definition reads there.
-- Assumes nothing.
use Prim.Native.Nat.{ℕ, ◌+◌}
use mathlib.Core.Path.{◌≡◌, refl, sym, ap, ◌∙◌}
use mathlib.Core.Bool.{true, false, ◌&&◌}
use mathlib.Core.List.{List, [], ◌∷◌}
use lib.Dec.{leb, ltb, eqb}
use lib.ListN.{length, get_or, drop}
use lib.Seq.{drop-drop}
use Rattle.std.specs.Prelude.{Err, Option, None, Some}
use Rattle.laws.specs.Choice.{pick, by_test}
use Rattle.terms.specs.declared.refusals.Field.{Field}
use Rattle.terms.specs.Words.{tab}
use Rattle.text_rules.specs.declared.Numeral.{Numeral}
use Rattle.text_rules.specs.Lines.{field_ahead, after_field, is_digit, value_from, shortest, is_number, number_then, Reading}
use Rattle.text_rules.specs.Fields.{digits_of, after_digits, end_ahead, digits_at, number_at}
use Rattle.text_rules.proofs.FieldParts.{digits_are, digits_whole, digits_not_whole}
use Rattle.text_rules.proofs.Places.{by_place}

-- what follows the digits begins as many bytes on as there are digits
pub after_digits_lem : (t : List ℕ) → drop (length (digits_of t)) t ≡ after_digits t
unfolding digits_of after_digits
after_digits_lem [] = refl
after_digits_lem (b ∷ t) = by_test (is_digit b) (λ d. rw d (after_digits_lem t)) (λ d. rw d)

-- what the code does with a field: it goes on from the place after it, or the line is bad there
unfoldable pub going_on : List ℕ → Field → (ℕ → List ℕ → Reading) → Option Numeral → Reading
going_on line k rest (Some n) = rest n.value (drop n.next line)
going_on line k rest None = Err k

-- what the digits of a field say, where they are all of it
whole_number : (most : ℕ) (t : List ℕ) → end_ahead (after_digits t) ≡ true → is_number most (field_ahead t) ≡ (shortest (digits_of t) && leb (value_from 0 (digits_of t)) most)
unfolding is_number
whole_number most t h = rw ((digits_whole t h).0, digits_are t)

-- where they are not, it is no number
torn_number : (most : ℕ) (t : List ℕ) → end_ahead (after_digits t) ≡ false → is_number most (field_ahead t) ≡ false
unfolding is_number
torn_number most t h = rw (digits_not_whole t h)

-- the field behind a tab, which ends after its digits
field_whole : (most at : ℕ) (k : Field) (line : List ℕ) (rest : ℕ → List ℕ → Reading) → let t = drop (at + 1) line in end_ahead (after_digits t) ≡ true → going_on line k rest (pick (shortest (digits_of t)) (digits_at most 0 (at + 1) t) None) ≡ pick (is_number most (field_ahead t)) (rest (value_from 0 (field_ahead t)) (after_field t)) (Err k)
unfolding going_on digits_at
field_whole most at k line rest h =
    let t = drop (at + 1) line in
    let w = digits_whole t h in
    rw (whole_number most t h, w.0, w.1)
    (by_test (shortest (digits_of t))
    (λ s. rw (s, h) (by_test (leb (value_from 0 (digits_of t)) most)
    (λ l. rw l (ap (rest (value_from 0 (digits_of t))) (sym (drop-drop (length (digits_of t)) (at + 1) line) ∙ after_digits_lem t)))
    (λ l. rw l)))
    (λ s. rw s))

-- the field behind a tab, which goes on after its digits
field_torn : (most at : ℕ) (k : Field) (line : List ℕ) (rest : ℕ → List ℕ → Reading) → let t = drop (at + 1) line in end_ahead (after_digits t) ≡ false → going_on line k rest (pick (shortest (digits_of t)) (digits_at most 0 (at + 1) t) None) ≡ pick (is_number most (field_ahead t)) (rest (value_from 0 (field_ahead t)) (after_field t)) (Err k)
unfolding going_on digits_at
field_torn most at k line rest h =
    let t = drop (at + 1) line in
    rw (torn_number most t h)
    (by_test (shortest (digits_of t))
    (λ s. rw (s, h) (by_test (leb (value_from 0 (digits_of t)) most) (λ l. rw l) (λ l. rw l)))
    (λ s. rw s))

-- the field at a place within the line
field_here : (most at b : ℕ) (k : Field) (line : List ℕ) (rest : ℕ → List ℕ → Reading) → going_on line k rest (number_at most at (b ∷ drop (at + 1) line)) ≡ number_then most k (b ∷ drop (at + 1) line) rest
unfolding going_on number_at number_then
field_here most at b k line rest =
    by_test (eqb b tab)
    (λ e. rw e (by_test (end_ahead (after_digits (drop (at + 1) line))) (field_whole most at k line rest) (field_torn most at k line rest)))
    (λ e. rw e)

-- the field at any place
pub field_at : (most : ℕ) (k : Field) (at : ℕ) (line : List ℕ) (rest : ℕ → List ℕ → Reading) → going_on line k rest (number_at most at (drop at line)) ≡ number_then most k (drop at line) rest
unfolding going_on number_at number_then
field_at most k at line rest =
    by_place (λ t. going_on line k rest (number_at most at t)) line at
    ∙ ap (λ x. pick (ltb at (length line)) x (Err k)) (field_here most at (get_or line at 0) k line rest)
    ∙ sym (by_place (λ t. number_then most k t rest) line at)
