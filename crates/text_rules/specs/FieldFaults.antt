-- Which field of a line is at fault, with no way to read it: when each field is right, and the lowest one that is not (02, No. 5; 01, Lines).
-- The numbers are written out, since these are the words of a promise.
use Rattle.std.specs.Prelude.{ℕ, zero, suc, ◌+◌, ◌≤◌, ◌≡◌, Bool, true, false, List, [], ◌∷◌, eqb, length, Option, None, Some}
use Rattle.laws.specs.Choice.{pick}
use Rattle.terms.specs.declared.letters.Letter.{Letter}
use Rattle.terms.specs.declared.refusals.Field.{Field}
use Rattle.terms.specs.declared.refusals.Field.TheVariants.{First, Second, Third, Fourth}
use Rattle.terms.specs.Letters.{byte_of, has_job, has_cell}
use Rattle.terms.specs.Words.{tab, newline}
use Rattle.text_rules.specs.Decimal.{decimal}
use Rattle.text_rules.specs.Split.{in_front}

-- the fields of a line: what stands between tabs, up to its newline (01, Lines: fields are parted by one tab and each line ends in one newline)
unfoldable pub fields_of : List ℕ → List (List ℕ)
fields_of [] = [] ∷ []
fields_of (b ∷ t) = pick (eqb b newline) ([] ∷ []) (pick (eqb b tab) ([] ∷ fields_of t) (in_front b (fields_of t)))

-- whether a line ends with its newline and has nothing after it
unfoldable pub ended : List ℕ → Bool
ended [] = false
ended (b ∷ []) = eqb b newline
ended (b ∷ c ∷ t) = pick (eqb b newline) false (ended (c ∷ t))

-- a field by its number from 1, if the line has that many
unfoldable pub field_at : ℕ → List (List ℕ) → Option (List ℕ)
field_at n [] = None
field_at zero (f ∷ fs) = None
field_at (suc zero) (f ∷ fs) = Some f
field_at (suc (suc n)) (f ∷ fs) = field_at (suc n) fs

-- the field is there, and is a number in decimal with no leading zero except the single 0, not above the limit given
abbrev pub Number : ℕ → Option (List ℕ) → Type 0
Number most field = (n : ℕ) × (n ≤ most) × (field ≡ Some (decimal n))

-- the first field is right: it is this letter, one of those that such lines may begin with
abbrev pub LetterRight : (Letter → Bool) → List ℕ → Letter → Type 0
LetterRight which bytes l = (which l ≡ true) × (field_at 1 (fields_of bytes) ≡ Some (byte_of l ∷ []))

-- the second field is right for a letter: a job of at most 4,294,967,295, if the letter has one
abbrev pub JobRight : List ℕ → Letter → Type 0
JobRight bytes l = has_job l ≡ true → Number 4_294_967_295 (field_at 2 (fields_of bytes))

-- the third field is right for a letter: a cell of one or two digits, if the letter has one
abbrev pub CellRight : List ℕ → Letter → Type 0
CellRight bytes l = has_cell l ≡ true → Number 99 (field_at 3 (fields_of bytes))

-- how many fields a letter has
abbrev pub field_count : Letter → ℕ
field_count l = 1 + pick (has_job l) 1 0 + pick (has_cell l) 1 0

-- the end is right: after the last field that the letter has comes the newline and nothing else
abbrev pub EndRight : List ℕ → Letter → Type 0
EndRight bytes l = (length (fields_of bytes) ≤ field_count l) × (ended bytes ≡ true)

-- the field at fault: the fields before it are right, and it is not (02, No. 5: the lowest faulty field counts; a field that should be there and is not is faulty)
pub data AtFault (which : Letter → Bool) (bytes : List ℕ) : Field → Type 0 where
  letter_wrong : ((l : Letter) → LetterRight which bytes l → ⊥) → AtFault which bytes First
  job_wrong : (l : Letter) → LetterRight which bytes l → (JobRight bytes l → ⊥) → AtFault which bytes Second
  cell_wrong : (l : Letter) → LetterRight which bytes l → JobRight bytes l → (CellRight bytes l → ⊥) → AtFault which bytes Third
  end_wrong : (l : Letter) → LetterRight which bytes l → JobRight bytes l → CellRight bytes l → (EndRight bytes l → ⊥) → AtFault which bytes Fourth
