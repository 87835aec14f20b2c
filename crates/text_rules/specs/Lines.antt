-- What a line says: the line reader's answer for every string of bytes, field by field (01, Lines; 02, No. 5).
use Rattle.std.specs.Prelude.{ℕ, ◌+◌, ◌*◌, ◌-◌, Bool, true, false, ◌&&◌, ◌||◌, not, List, [], ◌∷◌, eqb, leb, Option, None, Some, Err, Result, Ok}
use Rattle.laws.specs.Choice.{pick}
use Rattle.terms.specs.declared.letters.Letter.{Letter}
use Rattle.terms.specs.declared.refusals.Field.{Field}
use Rattle.terms.specs.declared.refusals.Field.TheVariants.{First, Second, Third, Fourth}
use Rattle.terms.specs.declared.refusals.Refusal.{Refusal}
use Rattle.terms.specs.declared.refusals.Refusal.TheVariants.{BadLine}
use Rattle.text_rules.specs.declared.Line.{Line}
use Rattle.terms.specs.Letters.{letter_of, has_job, has_cell}
use Rattle.terms.specs.Words.{tab, newline}
use Rattle.terms.specs.Limits.{last_number}

-- what a line says: a good line, or the field at fault of a bad one
abbrev pub Reading : Type 0
Reading = Result Line Field

-- a good line, by its letter, its job and its cell
abbrev pub good : Letter → ℕ → ℕ → Reading
good l job cell = Ok (record { letter = l; job = job; cell = cell })

-- the refusal of a line, by how it reads: a bad line is refusal 9, with the field at fault, and a good one is not refused (01, Lines: all else is refusal 9; 02, No. 5)
abbrev pub refusal_of : Reading → Option Refusal
refusal_of (Ok line) = None
refusal_of (Err field) = Some (BadLine field)

-- the largest cell that can be read: a cell has one or two digits (01, Lines)
abbrev pub last_cell : ℕ
last_cell = 99

-- whether a field ends in front of this byte: a tab separates fields, and a newline ends the line (01, Lines)
unfoldable pub parts : ℕ → Bool
parts b = eqb b tab || eqb b newline

-- the field that a text begins with: the bytes before its first tab or newline
unfoldable pub field_ahead : List ℕ → List ℕ
field_ahead [] = []
field_ahead (b ∷ t) = pick (parts b) [] (b ∷ field_ahead t)

-- what follows that field, from its tab or newline on
unfoldable pub after_field : List ℕ → List ℕ
after_field [] = []
after_field (b ∷ t) = pick (parts b) (b ∷ t) (after_field t)

-- whether a byte is a digit
unfoldable pub is_digit : ℕ → Bool
is_digit b = leb 48 b && leb b 57

-- whether a text has digits only: no sign and no blank (01, Lines)
unfoldable pub digits_only : List ℕ → Bool
digits_only [] = true
digits_only (b ∷ t) = is_digit b && digits_only t

-- the number that digits stand for, read on from v
unfoldable pub value_from : ℕ → List ℕ → ℕ
value_from v [] = v
value_from v (b ∷ ds) = value_from (v * 10 + (b - 48)) ds

-- there is a digit, and no leading zero except the single 0 (01, Lines)
unfoldable pub shortest : List ℕ → Bool
shortest [] = false
shortest (d ∷ []) = true
shortest (d ∷ e ∷ ds) = not (eqb d 48)

-- a field is a number that is not above the limit
unfoldable pub is_number : ℕ → List ℕ → Bool
is_number most field = digits_only field && (shortest field && leb (value_from 0 field) most)

-- a tab and a number field, and then what the rest says; if the field is missing or is not such a number, the line is bad at this field
unfoldable pub number_then : ℕ → Field → List ℕ → (ℕ → List ℕ → Reading) → Reading
number_then most at [] rest = Err at
number_then most at (b ∷ t) rest =
    pick (eqb b tab && is_number most (field_ahead t)) (rest (value_from 0 (field_ahead t)) (after_field t)) (Err at)

-- after the last field that the letter has: one newline and nothing after it; otherwise the line is bad there (02, No. 5: a missing newline being 4)
unfoldable pub ending : List ℕ → Reading → Reading
ending [] r = Err Fourth
ending (b ∷ []) r = pick (eqb b newline) r (Err Fourth)
ending (b ∷ c ∷ t) r = Err Fourth

-- the third field, if the letter has one: a cell
unfoldable pub cell_part : Letter → ℕ → List ℕ → Reading
cell_part l job t =
    pick (has_cell l) (number_then last_cell Third t (λ cell rest. ending rest (good l job cell))) (ending t (good l job 0))

-- the second field, if the letter has one: a job, at most 4,294,967,295
unfoldable pub job_part : Letter → List ℕ → Reading
job_part l t = pick (has_job l) (number_then last_number Second t (cell_part l)) (cell_part l 0 t)

-- the letter of a first field: the field is one byte, a letter's
unfoldable pub letter_in : List ℕ → Option Letter
letter_in [] = None
letter_in (b ∷ []) = letter_of b
letter_in (b ∷ c ∷ t) = None

-- the first field: a letter, one of those that such lines may begin with
unfoldable pub letter_part : (Letter → Bool) → Option Letter → List ℕ → Reading
letter_part which (Some l) t = pick (which l) (job_part l t) (Err First)
letter_part which None t = Err First

-- what a line of requests or of a history says, given the letters that it may begin with; the lowest field at fault counts (01, Lines: all else is refusal 9; 02, No. 5)
unfoldable pub read_line : (Letter → Bool) → List ℕ → Reading
read_line which bytes = letter_part which (letter_in (field_ahead bytes)) (after_field bytes)
