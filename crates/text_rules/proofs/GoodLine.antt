-- A line is good only if it is the record of its letter and fields: what is read was written that way, and all else is bad.
-- Assumes nothing.
use Rattle.std.specs.Prelude.{Option, None, Some, Err, Ok}
use Prim.Native.Nat.{ℕ, ◌≤◌}
use mathlib.Core.Path.{◌≡◌, ap, ap₂, refl, sym, ◌∙◌}
use mathlib.Core.Bool.{Bool, true, false}
use mathlib.Core.Logic.{◌↔◌}
use mathlib.Core.List.{List, [], ◌∷◌, ◌++◌}
use native.Mathlib.Omega.{arith}
use Rattle.laws.specs.Choice.{by_test, not_both}
use Rattle.terms.specs.declared.letters.Letter.{Letter}
use Rattle.terms.specs.declared.refusals.Field.{Field}
use Rattle.terms.specs.declared.refusals.Field.TheVariants.{Second, Third}
use Rattle.terms.specs.declared.refusals.Refusal.TheVariants.{BadLine}
use Rattle.terms.specs.Letters.{has_job, has_cell}
use Rattle.terms.specs.Words.{newline}
use Rattle.terms.specs.Limits.{last_number}
use Rattle.text_rules.specs.Records.{field, line_record}
use Rattle.text_rules.specs.GoodLine.{GoodLine}
use Rattle.text_rules.specs.Lines.{refusal_of, last_cell, field_ahead, after_field, ending, cell_part, job_part, letter_in, letter_part, read_line, Reading, good}
use Rattle.text_rules.proofs.FieldLaws.{line_is}
use Rattle.text_rules.proofs.FieldParts.{field_then, letter_field}
use Rattle.text_rules.proofs.ReadBack.{reads_record}
use Rattle.text_rules.proofs.WrittenFields.{NumberField, same_good, number_written, ending_written, not_bad}

-- what reading a cell and the end of a line tells
record CellWritten (l m : Letter) (given job cell : ℕ) (t : List ℕ) : Type 0 where
  letter : l ≡ m
  job_is : given ≡ job
  written : t ≡ field (has_cell l) cell ++ newline ∷ []
  small : cell ≤ last_cell
  unused : has_cell l ≡ false → cell ≡ 0

-- a cell that is read was written, and the line ends after it
cell_there : (l m : Letter) (given job cell : ℕ) (t : List ℕ) → has_cell l ≡ true → NumberField last_cell t (λ n u. ending u (good l given n)) (good m job cell) → CellWritten l m given job cell t
unfolding field
cell_there l m given job cell t h f =
    let g = ending_written f.left (good l given f.number) m job cell f.goes_on in
    let s = same_good l m given job f.number cell g.1 in
    record {
      letter = s.0;
      job_is = s.1;
      written = rw h (f.written ∙ rw (s.2, g.0));
      small = rw s.2 at f.small;
      unused = λ k. not_both h k;
    }

-- a line without a cell ends where its cell would be
cell_not_there : (l m : Letter) (given job cell : ℕ) (t : List ℕ) → has_cell l ≡ false → ending t (good l given 0) ≡ good m job cell → CellWritten l m given job cell t
unfolding field
cell_not_there l m given job cell t h e =
    let g = ending_written t (good l given 0) m job cell e in
    let s = same_good l m given job 0 cell g.1 in
    record { letter = s.0; job_is = s.1; written = rw h g.0; small = omega arith; unused = λ k. sym s.2 }

-- the rest of a good line after its job was written
cell_written : (l m : Letter) (given job cell : ℕ) (t : List ℕ) → cell_part l given t ≡ good m job cell → CellWritten l m given job cell t
unfolding cell_part
cell_written l m given job cell t e =
    by_test (has_cell l) (λ h. cell_there l m given job cell t h (number_written last_cell Third t _ m job cell (rw h at e)))
    (λ h. cell_not_there l m given job cell t h (rw h at e))

-- what reading the fields of a line tells
record FieldsWritten (l m : Letter) (job cell : ℕ) (t : List ℕ) : Type 0 where
  letter : l ≡ m
  written : t ≡ field (has_job l) job ++ (field (has_cell l) cell ++ newline ∷ [])
  jobs : job ≤ last_number
  cells : cell ≤ last_cell
  no_job : has_job l ≡ false → job ≡ 0
  no_cell : has_cell l ≡ false → cell ≡ 0

-- a job that is read was written, and so was what follows it
job_there : (l m : Letter) (job cell : ℕ) (t : List ℕ) → has_job l ≡ true → NumberField last_number t (cell_part l) (good m job cell) → FieldsWritten l m job cell t
unfolding field
job_there l m job cell t h f =
    let w = cell_written l m f.number job cell f.left f.goes_on in
    record {
      letter = w.letter;
      written = rw h (f.written ∙ rw (w.job_is, w.written));
      jobs = rw w.job_is at f.small;
      cells = w.small;
      no_job = λ k. not_both h k;
      no_cell = w.unused;
    }

-- a line without a job
job_not_there : (l m : Letter) (job cell : ℕ) (t : List ℕ) → has_job l ≡ false → CellWritten l m 0 job cell t → FieldsWritten l m job cell t
unfolding field
job_not_there l m job cell t h w =
    let j : 0 ≡ job = w.job_is in
    record {
      letter = w.letter;
      written = rw h w.written;
      jobs = omega arith;
      cells = w.small;
      no_job = λ k. sym j;
      no_cell = w.unused;
    }

-- the rest of a good line after its letter was written
fields_written : (l m : Letter) (job cell : ℕ) (t : List ℕ) → job_part l t ≡ good m job cell → FieldsWritten l m job cell t
unfolding job_part
fields_written l m job cell t e =
    by_test (has_job l) (λ h. job_there l m job cell t h (number_written last_number Second t _ m job cell (rw h at e)))
    (λ h. job_not_there l m job cell t h (cell_written l m 0 job cell t (rw h at e)))

-- the letter of a good line
letter_written : (which : Letter → Bool) (bytes : List ℕ) (n : Option Letter) (m : Letter) (job cell : ℕ) → letter_in (field_ahead bytes) ≡ n → letter_part which n (after_field bytes) ≡ good m job cell → GoodLine which bytes m job cell
unfolding letter_part
letter_written which bytes None m job cell k e = not_bad e
letter_written which bytes (Some l) m job cell k e =
    by_test (which l)
    (λ w.
    let f = fields_written l m job cell (after_field bytes) (rw w at e) in
    let line : bytes ≡ line_record l job cell = sym (field_then bytes) ∙ ap₂ (λ a b. a ++ b) (letter_field (field_ahead bytes) l k) f.written ∙ sym (line_is l job cell) in
    rw (← f.letter) (line, w, f.jobs, f.cells, f.no_job, f.no_cell))
    (λ w. not_bad (rw w at e))

-- a good line is the record of its letter and fields
pub good_is_record : (which : Letter → Bool) (bytes : List ℕ) (l : Letter) (job cell : ℕ) → read_line which bytes ≡ good l job cell → GoodLine which bytes l job cell
unfolding read_line
good_is_record which bytes l job cell e = letter_written which bytes (letter_in (field_ahead bytes)) l job cell refl e

-- and the record of a letter and fields is good: a line is good exactly if it is one
pub good_exactly : (which : Letter → Bool) (bytes : List ℕ) (l : Letter) (job cell : ℕ) → (read_line which bytes ≡ good l job cell) ↔ GoodLine which bytes l job cell
good_exactly which bytes l job cell = (
  good_is_record which bytes l job cell,
  λ g. ap (read_line which) g.0 ∙ reads_record which l job cell g.1 g.2 g.3 g.4 g.5,
)

-- in the paper's numbers: a job of at most 4,294,967,295, and a cell of one or two digits
pub good_numbers : (which : Letter → Bool) (bytes : List ℕ) (l : Letter) (job cell : ℕ) →
    (read_line which bytes ≡ good l job cell) ↔ ((bytes ≡ line_record l job cell) × (which l ≡ true) × (job ≤ 4_294_967_295) × (cell ≤ 99) × (has_job l ≡ false → job ≡ 0) × (has_cell l ≡ false → cell ≡ 0))
good_numbers = good_exactly

-- all else is bad, at some field
pub all_else_bad : (which : Letter → Bool) (bytes : List ℕ) → ((l : Letter) (job cell : ℕ) → GoodLine which bytes l job cell → ⊥) → (at : Field) × (read_line which bytes ≡ Err at)
all_else_bad which bytes other = go (read_line which bytes) refl
  where
    go : (r : Reading) → read_line which bytes ≡ r → (at : Field) × (read_line which bytes ≡ Err at)
    go (Ok line) e = absurd (other line.letter line.job line.cell (good_is_record which bytes line.letter line.job line.cell e))
    go (Err at) e = (at, e)

-- a bad line is not a good line
pub bad_no_good : (which : Letter → Bool) (bytes : List ℕ) (at : Field) → read_line which bytes ≡ Err at → (l : Letter) (job cell : ℕ) → GoodLine which bytes l job cell → ⊥
bad_no_good which bytes at e l job cell g = not_bad (sym e ∙ (good_exactly which bytes l job cell).1 g)

-- only a refusal 9 has a field at fault
pub nine_field : (r : Reading) (at : Field) → refusal_of r ≡ Some (BadLine at) → r ≡ Err at
nine_field (Ok line) at e = let z : ◌≡◌ {A = ℕ} 0 1 = cc in absurd (omega arith)
nine_field (Err field) at e = cc

-- ALL ELSE IS REFUSAL 9: a line is refused with 9, at some field, exactly if it is not a good line
pub nine_exactly : (which : Letter → Bool) (bytes : List ℕ) → ((at : Field) × (refusal_of (read_line which bytes) ≡ Some (BadLine at))) ↔ ((l : Letter) (job cell : ℕ) → GoodLine which bytes l job cell → ⊥)
nine_exactly which bytes = (
  λ p. bad_no_good which bytes p.0 (nine_field (read_line which bytes) p.0 p.1),
  λ other. let b = all_else_bad which bytes other in (b.0, ap refusal_of b.1),
)
