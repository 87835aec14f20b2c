-- No two refusals share both number and field. Each number is from 1 to 19, and no refusal has 17.
-- Assumes nothing.
use Prim.Native.Nat.{ℕ, ◌≤◌}
use mathlib.Core.Path.{◌≡◌, refl, sym, ap₂, ◌∙◌}
use mathlib.Core.Logic.{◌↔◌}
use mathlib.Core.List.{List, [], ◌∷◌}
use native.Mathlib.Omega.{arith}
use lib.ListN.{get_or}
use lib.Dec.{leb, lit≤}
use borrow.Author.Tests.{leb-true, leb-false}
use Rattle.laws.specs.Choice.{by_test}
use Rattle.terms.specs.declared.refusals.Refusal.{Refusal}
use Rattle.terms.specs.declared.refusals.Refusal.TheVariants.{UnknownKind, CellAbove, NotOpen, Waiting, SentBack, AllOpen, NoNumberLeft, Running, BadLine, StartedAtZero, TooManyLines, JobOutside, Ended, ShortOrder, NoRoom, TooLong, ShortList, NoRetry}
use Rattle.terms.specs.declared.refusals.Field.{Field}
use Rattle.terms.specs.declared.refusals.Field.TheVariants.{First, Second, Third, Fourth}
use Rattle.terms.specs.Refusals.{number_of, field_number, field_of}

-- the fields by number; 0 is no field's, and any may stand there
abbrev pub fields : List Field
fields = First ∷ First ∷ Second ∷ Third ∷ Fourth ∷ []

-- the table read the other way: at each number its refusal, a bad line's with this field; 0 and 17 are nobody's numbers, and any refusal may stand there
abbrev pub table : Field → List Refusal
table field =
    UnknownKind ∷ UnknownKind ∷ CellAbove ∷ NotOpen ∷ Waiting ∷ SentBack ∷ AllOpen ∷ NoNumberLeft ∷ Running ∷ BadLine field
    ∷ StartedAtZero ∷ TooManyLines ∷ JobOutside ∷ Ended ∷ ShortOrder ∷ NoRoom ∷ TooLong ∷ UnknownKind ∷ ShortList ∷ NoRetry ∷ []

-- the refusal at a number and a field's number
abbrev pub refusal_at : ℕ → ℕ → Refusal
refusal_at n field = get_or (table (get_or fields field First)) n UnknownKind

-- the table read so gives each refusal back
pub at_number : (r : Refusal) → refusal_at (number_of r) (field_of r) ≡ r
at_number UnknownKind = refl
at_number CellAbove = refl
at_number NotOpen = refl
at_number Waiting = refl
at_number SentBack = refl
at_number AllOpen = refl
at_number NoNumberLeft = refl
at_number Running = refl
at_number (BadLine First) = refl
at_number (BadLine Second) = refl
at_number (BadLine Third) = refl
at_number (BadLine Fourth) = refl
at_number StartedAtZero = refl
at_number TooManyLines = refl
at_number JobOutside = refl
at_number Ended = refl
at_number ShortOrder = refl
at_number NoRoom = refl
at_number TooLong = refl
at_number ShortList = refl
at_number NoRetry = refl

-- EQUAL NUMBER AND FIELD, EQUAL REFUSALS: the two together tell refusals apart (02, No. 5)
pub same_number : (r s : Refusal) → number_of r ≡ number_of s → field_of r ≡ field_of s → r ≡ s
same_number r s e f = sym (at_number r) ∙ ap₂ refusal_at e f ∙ at_number s

-- each is from 1 to 19
pub within_table : (r : Refusal) → (1 ≤ number_of r) × (number_of r ≤ 19)
within_table UnknownKind = (lit≤ tt, lit≤ tt)
within_table CellAbove = (lit≤ tt, lit≤ tt)
within_table NotOpen = (lit≤ tt, lit≤ tt)
within_table Waiting = (lit≤ tt, lit≤ tt)
within_table SentBack = (lit≤ tt, lit≤ tt)
within_table AllOpen = (lit≤ tt, lit≤ tt)
within_table NoNumberLeft = (lit≤ tt, lit≤ tt)
within_table Running = (lit≤ tt, lit≤ tt)
within_table (BadLine field) = (lit≤ tt, lit≤ tt)
within_table StartedAtZero = (lit≤ tt, lit≤ tt)
within_table TooManyLines = (lit≤ tt, lit≤ tt)
within_table JobOutside = (lit≤ tt, lit≤ tt)
within_table Ended = (lit≤ tt, lit≤ tt)
within_table ShortOrder = (lit≤ tt, lit≤ tt)
within_table NoRoom = (lit≤ tt, lit≤ tt)
within_table TooLong = (lit≤ tt, lit≤ tt)
within_table ShortList = (lit≤ tt, lit≤ tt)
within_table NoRetry = (lit≤ tt, lit≤ tt)

-- a field's number is from 1 to 4
pub field_within : (f : Field) → (1 ≤ field_number f) × (field_number f ≤ 4)
field_within First = (lit≤ tt, lit≤ tt)
field_within Second = (lit≤ tt, lit≤ tt)
field_within Third = (lit≤ tt, lit≤ tt)
field_within Fourth = (lit≤ tt, lit≤ tt)

-- so what stands beside a refusal's number is at most 4
pub beside_at_most_4 : (r : Refusal) → field_of r ≤ 4
beside_at_most_4 UnknownKind = lit≤ tt
beside_at_most_4 CellAbove = lit≤ tt
beside_at_most_4 NotOpen = lit≤ tt
beside_at_most_4 Waiting = lit≤ tt
beside_at_most_4 SentBack = lit≤ tt
beside_at_most_4 AllOpen = lit≤ tt
beside_at_most_4 NoNumberLeft = lit≤ tt
beside_at_most_4 Running = lit≤ tt
beside_at_most_4 (BadLine field) = (field_within field).1
beside_at_most_4 StartedAtZero = lit≤ tt
beside_at_most_4 TooManyLines = lit≤ tt
beside_at_most_4 JobOutside = lit≤ tt
beside_at_most_4 Ended = lit≤ tt
beside_at_most_4 ShortOrder = lit≤ tt
beside_at_most_4 NoRoom = lit≤ tt
beside_at_most_4 TooLong = lit≤ tt
beside_at_most_4 ShortList = lit≤ tt
beside_at_most_4 NoRetry = lit≤ tt

-- ONLY A REFUSAL 9 HAS A FIELD BESIDE ITS NUMBER (02, No. 5)
pub only_nine : (r : Refusal) → (number_of r ≡ 9) ↔ (1 ≤ field_of r)
only_nine UnknownKind = (λ e. absurd (omega arith), λ h. absurd (omega arith))
only_nine CellAbove = (λ e. absurd (omega arith), λ h. absurd (omega arith))
only_nine NotOpen = (λ e. absurd (omega arith), λ h. absurd (omega arith))
only_nine Waiting = (λ e. absurd (omega arith), λ h. absurd (omega arith))
only_nine SentBack = (λ e. absurd (omega arith), λ h. absurd (omega arith))
only_nine AllOpen = (λ e. absurd (omega arith), λ h. absurd (omega arith))
only_nine NoNumberLeft = (λ e. absurd (omega arith), λ h. absurd (omega arith))
only_nine Running = (λ e. absurd (omega arith), λ h. absurd (omega arith))
only_nine (BadLine field) = (λ e. (field_within field).0, λ h. refl)
only_nine StartedAtZero = (λ e. absurd (omega arith), λ h. absurd (omega arith))
only_nine TooManyLines = (λ e. absurd (omega arith), λ h. absurd (omega arith))
only_nine JobOutside = (λ e. absurd (omega arith), λ h. absurd (omega arith))
only_nine Ended = (λ e. absurd (omega arith), λ h. absurd (omega arith))
only_nine ShortOrder = (λ e. absurd (omega arith), λ h. absurd (omega arith))
only_nine NoRoom = (λ e. absurd (omega arith), λ h. absurd (omega arith))
only_nine TooLong = (λ e. absurd (omega arith), λ h. absurd (omega arith))
only_nine ShortList = (λ e. absurd (omega arith), λ h. absurd (omega arith))
only_nine NoRetry = (λ e. absurd (omega arith), λ h. absurd (omega arith))

-- so any other refusal has none
pub no_field_beside : (r : Refusal) → (number_of r ≡ 9 → ⊥) → field_of r ≡ 0
no_field_beside r other = by_test (leb 1 (field_of r)) (λ t. absurd (other ((only_nine r).1 (leb-true 1 (field_of r) t)))) (λ f. let h = leb-false 1 (field_of r) f in omega arith)
