-- THE FIELD AT FAULT, EXACTLY: for every text of bytes, a line is bad at a field exactly if that field is at fault, and good exactly if none is (02, No. 5; 01, Lines).
-- Assumes nothing.
use Prim.Native.Nat.{ℕ}
use mathlib.Core.Path.{◌≡◌, sym, subst, ◌∙◌}
use mathlib.Core.Bool.{Bool}
use mathlib.Core.Logic.{◌↔◌}
use mathlib.Core.List.{List}
use lib.ListN.{length}
use Rattle.std.specs.Prelude.{Err}
use Rattle.terms.specs.declared.letters.Letter.{Letter}
use Rattle.terms.specs.declared.refusals.Field.{Field}
use Rattle.terms.specs.declared.refusals.Field.TheVariants.{First, Second, Third, Fourth}
use Rattle.terms.specs.Letters.{has_job, has_cell}
use Rattle.text_rules.specs.FieldFaults.{fields_of, ended, field_count, LetterRight, JobRight, CellRight, EndRight, AtFault, letter_wrong, job_wrong, cell_wrong, end_wrong}
use Rattle.text_rules.specs.Lines.{Reading, read_line, good}
use Rattle.text_rules.proofs.FieldSteps.{by_right, by_end}
use Rattle.text_rules.proofs.LineWalk.{by_letter, job_bad, cell_bad, end_bad, all_good}
use Rattle.text_rules.proofs.WrittenFields.{same_good, not_bad}

-- all four are right for a letter
abbrev AllRight : (Letter → Bool) → List ℕ → Letter → Type 0
AllRight which bytes l = LetterRight which bytes l × JobRight bytes l × CellRight bytes l × EndRight bytes l

-- some field is at fault, or all fields are right for a letter
by_fault : {P : Type 0} (which : Letter → Bool) (bytes : List ℕ) → ((at : Field) → AtFault which bytes at → P) → ((l : Letter) → AllRight which bytes l → P) → P
by_fault which bytes fault right =
    by_letter which bytes
    (λ l a. by_right (has_job l) 4_294_967_295 2 (fields_of bytes)
    (λ j. by_right (has_cell l) 99 3 (fields_of bytes)
    (λ c. by_end (length (fields_of bytes)) (field_count l) (ended bytes) (λ e. right l (a, j, c, e)) (λ e. fault Fourth (end_wrong l a j c e)))
    (λ c. fault Third (cell_wrong l a j c)))
    (λ j. fault Second (job_wrong l a j)))
    (λ n e. fault First (letter_wrong n))

-- a line is bad at the field at fault
fault_bad : (which : Letter → Bool) (bytes : List ℕ) (at : Field) → AtFault which bytes at → read_line which bytes ≡ Err at
fault_bad which bytes First (letter_wrong n) = by_letter which bytes (λ l a. absurd (n l a)) (λ m e. e)
fault_bad which bytes Second (job_wrong l a n) = job_bad which bytes l a n
fault_bad which bytes Third (cell_wrong l a j n) = cell_bad which bytes l a j n
fault_bad which bytes Fourth (end_wrong l a j c n) = end_bad which bytes l a j c n

-- a line is bad at one field
same_bad : (a b : Field) → ◌≡◌ {A = Reading} (Err a) (Err b) → a ≡ b
same_bad a b e = cc

-- and is good with one letter
same_letter : (l m : Letter) (i j p q : ℕ) → good l i p ≡ good m j q → l ≡ m
same_letter l m i j p q e = (same_good l m i j p q e).0

-- the field at which a line is bad is at fault
bad_fault : (which : Letter → Bool) (bytes : List ℕ) (at : Field) → read_line which bytes ≡ Err at → AtFault which bytes at
bad_fault which bytes at e =
    by_fault which bytes
    (λ f a. subst (AtFault which bytes) (same_bad f at (sym (fault_bad which bytes f a) ∙ e)) a)
    (λ l r. let g = all_good which bytes l r.0 r.1 r.2 r.3 in not_bad (sym e ∙ g.2))

-- THE FIELD AT FAULT: a line is bad at a field exactly if the fields before it are right and it is not (02, No. 5: the lowest faulty field counts)
pub field_exactly : (which : Letter → Bool) (bytes : List ℕ) (at : Field) → (read_line which bytes ≡ Err at) ↔ AtFault which bytes at
field_exactly which bytes at = (bad_fault which bytes at, fault_bad which bytes at)

-- no two fields are at fault: only the lowest is
pub one_fault : (which : Letter → Bool) (bytes : List ℕ) (a b : Field) → AtFault which bytes a → AtFault which bytes b → a ≡ b
one_fault which bytes a b x y = same_bad a b (sym (fault_bad which bytes a x) ∙ fault_bad which bytes b y)

-- 1: the first field is not a letter of such lines
pub first_at_fault : (which : Letter → Bool) (bytes : List ℕ) → (read_line which bytes ≡ Err First) ↔ ((l : Letter) → LetterRight which bytes l → ⊥)
first_at_fault which bytes = (λ e. told (bad_fault which bytes First e), λ n. fault_bad which bytes First (letter_wrong n))
  where
    told : AtFault which bytes First → (l : Letter) → LetterRight which bytes l → ⊥
    told (letter_wrong n) = n

-- 2: the first field is a letter that has a job, and the second is not a job
pub second_at_fault : (which : Letter → Bool) (bytes : List ℕ) → (read_line which bytes ≡ Err Second) ↔ ((l : Letter) × LetterRight which bytes l × (JobRight bytes l → ⊥))
second_at_fault which bytes = (λ e. told (bad_fault which bytes Second e), λ w. job_bad which bytes w.0 w.1 w.2)
  where
    told : AtFault which bytes Second → (l : Letter) × LetterRight which bytes l × (JobRight bytes l → ⊥)
    told (job_wrong l a n) = (l, a, n)

-- 3: letter and job are right, the letter has a cell, and the third field is not a cell
pub third_at_fault : (which : Letter → Bool) (bytes : List ℕ) → (read_line which bytes ≡ Err Third) ↔ ((l : Letter) × LetterRight which bytes l × JobRight bytes l × (CellRight bytes l → ⊥))
third_at_fault which bytes = (λ e. told (bad_fault which bytes Third e), λ w. cell_bad which bytes w.0 w.1 w.2 w.3)
  where
    told : AtFault which bytes Third → (l : Letter) × LetterRight which bytes l × JobRight bytes l × (CellRight bytes l → ⊥)
    told (cell_wrong l a j n) = (l, a, j, n)

-- 4: letter, job and cell are right, and what stands after them is not one newline and nothing else
pub fourth_at_fault : (which : Letter → Bool) (bytes : List ℕ) → (read_line which bytes ≡ Err Fourth) ↔ ((l : Letter) × LetterRight which bytes l × JobRight bytes l × CellRight bytes l × (EndRight bytes l → ⊥))
fourth_at_fault which bytes = (λ e. told (bad_fault which bytes Fourth e), λ w. end_bad which bytes w.0 w.1 w.2 w.3 w.4)
  where
    told : AtFault which bytes Fourth → (l : Letter) × LetterRight which bytes l × JobRight bytes l × CellRight bytes l × (EndRight bytes l → ⊥)
    told (end_wrong l a j c n) = (l, a, j, c, n)

-- NOTHING IS AT FAULT: a line is good, with this letter, exactly if all four are right
pub right_exactly : (which : Letter → Bool) (bytes : List ℕ) (l : Letter) → ((job cell : ℕ) × (read_line which bytes ≡ good l job cell)) ↔ (LetterRight which bytes l × JobRight bytes l × CellRight bytes l × EndRight bytes l)
right_exactly which bytes l = (
  λ g. by_fault which bytes (λ f a. not_bad (sym (fault_bad which bytes f a) ∙ g.2))
      (λ m r.
      let h = all_good which bytes m r.0 r.1 r.2 r.3 in
      subst (AllRight which bytes) (same_letter m l h.0 g.0 h.1 g.1 (sym h.2 ∙ g.2)) r),
  λ r. all_good which bytes l r.0 r.1 r.2 r.3,
)
