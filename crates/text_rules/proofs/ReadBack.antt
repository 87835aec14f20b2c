-- A written record is read back: the reader's answer is the letter and the fields that were written.
-- Assumes nothing.
use Prim.Native.Nat.{ℕ, ◌≤◌}
use mathlib.Core.Path.{◌≡◌, refl, sym, ap, ap₂, ◌∙◌}
use mathlib.Core.Bool.{Bool, true, false}
use mathlib.Core.List.{[], ◌∷◌, ◌++◌}
use Rattle.laws.specs.Choice.{by_test}
use Rattle.terms.specs.declared.letters.Letter.{Letter}
use Rattle.terms.specs.declared.refusals.Field.TheVariants.{Second, Third}
use Rattle.terms.specs.Letters.{has_job, has_cell}
use Rattle.terms.specs.Words.{newline}
use Rattle.terms.specs.Limits.{last_number}
use Rattle.terms.proofs.Alphabet.{letter_of_byte}
use Rattle.text_rules.specs.Records.{field, line_record}
use Rattle.text_rules.specs.Lines.{parts, last_cell, ending, cell_part, job_part, letter_in, letter_part, read_line, good}
use Rattle.text_rules.specs.Fields.{end_ahead}
use Rattle.text_rules.proofs.FieldLaws.{line_is}
use Rattle.text_rules.proofs.FieldParts.{letter_before}
use Rattle.text_rules.proofs.WrittenFields.{reads_number}

-- after a field comes a tab or a newline
field_stops : (there : Bool) (n : ℕ) → end_ahead (field there n ++ newline ∷ []) ≡ true
unfolding end_ahead field parts
field_stops true n = refl
field_stops false n = refl

-- a written cell and the newline are read back
reads_cell : (l : Letter) (job cell : ℕ) → cell ≤ last_cell → (has_cell l ≡ false → cell ≡ 0) → cell_part l job (field (has_cell l) cell ++ newline ∷ []) ≡ good l job cell
unfolding cell_part field ending end_ahead parts
reads_cell l job cell small unused =
    by_test (has_cell l) (λ h. rw h (reads_number last_cell cell Third (newline ∷ []) _ small refl))
    (λ h. rw h (ap (good l job) (sym (unused h))))

-- a written job and what follows it are read back
reads_job : (l : Letter) (job cell : ℕ) → job ≤ last_number → cell ≤ last_cell → (has_job l ≡ false → job ≡ 0) → (has_cell l ≡ false → cell ≡ 0) → job_part l (field (has_job l) job ++ (field (has_cell l) cell ++ newline ∷ [])) ≡ good l job cell
unfolding job_part field
reads_job l job cell jobs cells no_job no_cell =
    by_test (has_job l)
    (λ h. rw h (reads_number last_number job Second (field (has_cell l) cell ++ newline ∷ []) (cell_part l) jobs (field_stops (has_cell l) cell) ∙ reads_cell l job cell cells no_cell))
    (λ h. rw h (reads_cell l 0 cell cells no_cell ∙ ap (λ j. good l j cell) (sym (no_job h))))

-- after the letter comes a tab or a newline
letter_stops : (a b : Bool) (m n : ℕ) → end_ahead (field a m ++ (field b n ++ newline ∷ [])) ≡ true
unfolding end_ahead field parts
letter_stops true b m n = refl
letter_stops false b m n = field_stops b n

-- reading a written record gives back what was written
pub reads_record : (which : Letter → Bool) (l : Letter) (job cell : ℕ) → which l ≡ true → job ≤ 4_294_967_295 → cell ≤ 99 → (has_job l ≡ false → job ≡ 0) → (has_cell l ≡ false → cell ≡ 0) → read_line which (line_record l job cell) ≡ good l job cell
unfolding read_line letter_part letter_in
reads_record which l job cell w jobs cells no_job no_cell =
    let t = field (has_job l) job ++ (field (has_cell l) cell ++ newline ∷ []) in
    let e = letter_before l t (letter_stops (has_job l) (has_cell l) job cell) in
    ap (read_line which) (line_is l job cell) ∙ ap₂ (λ f u. letter_part which (letter_in f) u) e.0 e.1
    ∙ (rw (letter_of_byte l, w) (reads_job l job cell jobs cells no_job no_cell))
