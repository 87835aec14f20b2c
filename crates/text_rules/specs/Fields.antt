-- A field as the code finds it at a place of a line: a number and the place after it, or none (01, Lines).
use Rattle.std.specs.Prelude.{ℕ, ◌+◌, Bool, true, false, ◌&&◌, List, [], ◌∷◌, eqb, leb, length, Option, None, Err, Some, Ok}
use Rattle.laws.specs.Choice.{pick}
use Rattle.terms.specs.declared.letters.Letter.{Letter}
use Rattle.terms.specs.declared.refusals.Field.{Field}
use Rattle.terms.specs.declared.refusals.Field.TheVariants.{Fourth}
use Rattle.terms.specs.Letters.{letter_of}
use Rattle.terms.specs.Words.{tab}
use Rattle.text_rules.specs.declared.Numeral.{Numeral}
use Rattle.text_rules.specs.Lines.{parts, is_digit, value_from, shortest, Reading}

-- a number field, by its number and the place after it
abbrev pub number : ℕ → ℕ → Option Numeral
number value next = Some (record { value = value; next = next })

-- the digits that a text begins with
unfoldable pub digits_of : List ℕ → List ℕ
digits_of [] = []
digits_of (b ∷ t) = pick (is_digit b) (b ∷ digits_of t) []

-- what follows the digits that a text begins with
unfoldable pub after_digits : List ℕ → List ℕ
after_digits [] = []
after_digits (b ∷ t) = pick (is_digit b) (after_digits t) (b ∷ t)

-- whether a text begins with a digit
unfoldable pub digit_ahead : List ℕ → Bool
digit_ahead [] = false
digit_ahead (b ∷ t) = is_digit b

-- whether a field ends in front of a text: the text begins with a tab or a newline, or is empty
unfoldable pub end_ahead : List ℕ → Bool
end_ahead [] = true
end_ahead (b ∷ t) = parts b

-- the letter that a line begins with, if its first field ends after it
unfoldable pub first_letter : List ℕ → Option Letter
first_letter [] = None
first_letter (b ∷ t) = pick (end_ahead t) (letter_of b) None

-- the digits that a text begins with, read on from v: their number and the place after them, or none if the number is too large or the field goes on
unfoldable pub digits_at : ℕ → ℕ → ℕ → List ℕ → Option Numeral
digits_at most v at t =
    pick (leb (value_from v (digits_of t)) most && end_ahead (after_digits t)) (number (value_from v (digits_of t)) (at + length (digits_of t))) None

-- a tab, then a number in shortest decimal that is not above the limit, and the field's end; or none
unfoldable pub number_at : ℕ → ℕ → List ℕ → Option Numeral
number_at most at [] = None
number_at most at (b ∷ t) = pick (eqb b tab) (pick (shortest (digits_of t)) (digits_at most 0 (at + 1) t) None) None

-- the field at fault of a line that lacks its newline, by how its bytes read; a good line has its newline (02, No. 5: a missing newline being 4)
unfoldable pub lacking : Reading → Field
lacking (Err at) = at
lacking (Ok line) = Fourth
