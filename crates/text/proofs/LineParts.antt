-- A line is read part by part, as the code reads it: its first letter, then the job and the cell found at their places.
-- Assumes nothing.
use Rattle.std.specs.Prelude.{Option, None, Some, Err}
use Prim.Native.Nat.{ℕ}
use mathlib.Core.Path.{◌≡◌, refl, sym, ap, ◌∙◌}
use mathlib.Core.Bool.{Bool, true, false}
use mathlib.Core.List.{List, [], ◌∷◌}
use lib.Dec.{eqb}
use borrow.Author.Tests.{eqb-true}
use lib.ListN.{drop}
use Rattle.laws.specs.Choice.{by_test, not_both}
use Rattle.laws.proofs.Choosing.{pick_then, pick_else}
use Rattle.terms.specs.Words.{tab, newline}
use Rattle.terms.specs.declared.letters.Letter.{Letter}
use Rattle.terms.specs.declared.refusals.Field.TheVariants.{First, Second, Third}
use Rattle.terms.specs.Letters.{letter_of, has_job, has_cell}
use Rattle.terms.specs.Limits.{last_number}
use Rattle.text_rules.specs.declared.Numeral.{Numeral}
use Rattle.text_rules.specs.Lines.{parts, field_ahead, after_field, ending, last_cell, cell_part, job_part, letter_in, letter_part, read_line, Reading, good}
use Rattle.text_rules.specs.Fields.{end_ahead, first_letter, number_at, number}
use Rattle.text_rules.proofs.FieldParts.{field_none}
use Rattle.text.proofs.NumberFields.{going_on, field_at}

-- a line that has a cell
pub cell_read : (l : Letter) (job at v next : ℕ) (line : List ℕ) (n : Option Numeral) (r : Reading) → has_cell l ≡ true → n ≡ number_at last_cell at (drop at line) → n ≡ number v next → r ≡ ending (drop next line) (good l job v) → r ≡ cell_part l job (drop at line)
unfolding cell_part going_on
cell_read l job at v next line n r h e f g =
    rw h (g ∙ sym (ap (going_on line Third (λ cell rest. ending rest (good l job cell))) (sym e ∙ f)) ∙ field_at last_cell Third at line _)

-- a line that lacks its cell
pub cell_missing : (l : Letter) (job at : ℕ) (line : List ℕ) (n : Option Numeral) → has_cell l ≡ true → n ≡ number_at last_cell at (drop at line) → n ≡ None → Err Third ≡ cell_part l job (drop at line)
unfolding cell_part going_on
cell_missing l job at line n h e f =
    rw h (sym (ap (going_on line Third (λ cell rest. ending rest (good l job cell))) (sym e ∙ f)) ∙ field_at last_cell Third at line _)

-- a line that has no cell
pub cell_none : (l : Letter) (job at : ℕ) (line : List ℕ) (r : Reading) → has_cell l ≡ false → r ≡ ending (drop at line) (good l job 0) → r ≡ cell_part l job (drop at line)
unfolding cell_part
cell_none l job at line r h g = rw h g

-- a line that has a job
pub job_read : (l : Letter) (v next : ℕ) (line : List ℕ) (n : Option Numeral) (r : Reading) → has_job l ≡ true → n ≡ number_at last_number 1 (drop 1 line) → n ≡ number v next → r ≡ cell_part l v (drop next line) → r ≡ job_part l (drop 1 line)
unfolding job_part going_on
job_read l v next line n r h e f g = rw h (g ∙ sym (ap (going_on line Second (cell_part l)) (sym e ∙ f)) ∙ field_at last_number Second 1 line _)

-- a line that lacks its job
pub job_missing : (l : Letter) (line : List ℕ) (n : Option Numeral) → has_job l ≡ true → n ≡ number_at last_number 1 (drop 1 line) → n ≡ None → Err Second ≡ job_part l (drop 1 line)
unfolding job_part going_on
job_missing l line n h e f = rw h (sym (ap (going_on line Second (cell_part l)) (sym e ∙ f)) ∙ field_at last_number Second 1 line _)

-- a line that has no job
pub job_none : (l : Letter) (line : List ℕ) (r : Reading) → has_job l ≡ false → r ≡ cell_part l 0 (drop 1 line) → r ≡ job_part l (drop 1 line)
unfolding job_part
job_none l line r h g = rw h g

-- what parts fields is no letter
part_no_letter : (b : ℕ) → parts b ≡ true → letter_of b ≡ None
unfolding parts
part_no_letter b p =
    by_test (eqb b tab) (λ e. rw (eqb-true b tab e))
    (λ e. by_test (eqb b newline) (λ f. rw (eqb-true b newline f)) (λ f. not_both (rw (e, f) at p) refl))

-- a first field that goes on after its first byte is no letter
goes_on_no_letter : (b : ℕ) (t : List ℕ) → end_ahead t ≡ false → letter_in (b ∷ field_ahead t) ≡ None
unfolding letter_in field_ahead end_ahead
goes_on_no_letter b [] h = not_both refl h
goes_on_no_letter b (c ∷ t) h = rw h

-- a line goes by its first letter
by_letter : (which : Letter → Bool) (line : List ℕ) → letter_part which (first_letter line) (drop 1 line) ≡ read_line which line
unfolding letter_part first_letter read_line field_ahead after_field letter_in
by_letter which [] = refl
by_letter which (b ∷ t) =
    by_test (parts b)
    (λ p. rw (p, part_no_letter b p) (by_test (end_ahead t) (λ e. rw e) (λ e. rw e)))
    (λ p. by_test (end_ahead t)
    (λ e. let n = field_none t e in rw (p, e, n.0, n.1))
    (λ e. rw (p, e, goes_on_no_letter b t e)))

-- a line of a letter that such lines have
pub line_read : (which : Letter → Bool) (l : Letter) (line : List ℕ) (n : Option Letter) (r : Reading) → n ≡ first_letter line → n ≡ Some l → which l ≡ true → r ≡ job_part l (drop 1 line) → r ≡ read_line which line
unfolding letter_part
line_read which l line n r e f w g =
    pick_then (which l) r _ (Err First) w g ∙ ap (λ x. letter_part which x (drop 1 line)) (sym f ∙ e) ∙ by_letter which line

-- a line of another letter
pub line_other : (which : Letter → Bool) (l : Letter) (line : List ℕ) (n : Option Letter) → n ≡ first_letter line → n ≡ Some l → which l ≡ false → Err First ≡ read_line which line
unfolding letter_part
line_other which l line n e f w =
    pick_else (which l) (Err First) (job_part l (drop 1 line)) (Err First) w refl ∙ ap (λ x. letter_part which x (drop 1 line)) (sym f ∙ e) ∙ by_letter which line

-- a line of no letter
pub line_unknown : (which : Letter → Bool) (line : List ℕ) (n : Option Letter) → n ≡ first_letter line → n ≡ None → Err First ≡ read_line which line
unfolding letter_part
line_unknown which line n e f = ap (λ x. letter_part which x (drop 1 line)) (sym f ∙ e) ∙ by_letter which line
