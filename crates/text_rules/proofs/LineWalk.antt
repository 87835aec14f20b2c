-- The reader's way along a line: what it reads if the fields are right up to one that is not, and if all of them are.
-- Assumes nothing.
use Rattle.std.specs.Prelude.{Option, None, Some}
use Prim.Native.Nat.{ℕ, ◌+◌, ◌≤◌}
use mathlib.Core.Path.{◌≡◌, refl, sym, ap, ◌∙◌}
use mathlib.Core.Bool.{Bool, true}
use mathlib.Core.List.{List, [], ◌∷◌}
use native.Mathlib.Omega.{arith}
use lib.ListN.{length}
use Rattle.std.specs.Prelude.{Err}
use Rattle.laws.specs.Choice.{pick, by_test, not_both}
use Rattle.terms.specs.declared.letters.Letter.{Letter}
use Rattle.terms.specs.declared.letters.Letter.TheVariants.{Begin, Commit, GiveUp, Retry, Back, Asks}
use Rattle.terms.specs.declared.refusals.Field.TheVariants.{First, Second, Third, Fourth}
use Rattle.terms.specs.Letters.{byte_of, has_job, has_cell}
use Rattle.terms.specs.Limits.{last_number}
use Rattle.terms.proofs.Alphabet.{letter_of_byte}
use Rattle.text_rules.specs.FieldFaults.{fields_of, ended, field_at, LetterRight, JobRight, CellRight, EndRight}
use Rattle.text_rules.specs.Lines.{last_cell, field_ahead, after_field, ending, cell_part, job_part, letter_in, letter_part, read_line, good}
use Rattle.text_rules.proofs.FieldLists.{more, fields_are, first_is, second_is, third_is, ended_after_lem}
use Rattle.text_rules.proofs.FieldParts.{after_ends, letter_field}
use Rattle.text_rules.proofs.FieldSteps.{Past, past, not_past, ending_right, ending_wrong}
use Rattle.text_rules.proofs.NumberWords.{same_field}

-- a first field that is right is read as its letter
letter_known : (which : Letter → Bool) (bytes : List ℕ) (l : Letter) → LetterRight which bytes l → letter_in (field_ahead bytes) ≡ Some l
unfolding letter_in
letter_known which bytes l r =
    rw (same_field (field_ahead bytes) (byte_of l ∷ []) (sym (first_is bytes) ∙ r.1)) (letter_of_byte l)

-- after it the reader goes on
past_letter : (which : Letter → Bool) (bytes : List ℕ) (l : Letter) → LetterRight which bytes l → read_line which bytes ≡ job_part l (after_field bytes)
unfolding read_line letter_part
past_letter which bytes l r = rw (letter_known which bytes l r, r.0)

-- the first field is right for some letter; or for none, and then the line is bad at it
pub by_letter : {P : Type 0} (which : Letter → Bool) (bytes : List ℕ) → ((l : Letter) → LetterRight which bytes l → P) → (((l : Letter) → LetterRight which bytes l → ⊥) → read_line which bytes ≡ Err First → P) → P
unfolding read_line letter_part
by_letter {P} which bytes right wrong = go (letter_in (field_ahead bytes)) refl
  where
    go : (n : Option Letter) → letter_in (field_ahead bytes) ≡ n → P
    go None e =
        wrong (λ l r. let k = sym (letter_known which bytes l r) ∙ e in let z : ◌≡◌ {A = ℕ} 0 1 = cc in omega arith) (rw e)
    go (Some l) e =
        by_test (which l) (λ w. right l (w, first_is bytes ∙ ap Some (letter_field (field_ahead bytes) l e)))
        (λ w. wrong (λ m r. let s : l ≡ m = cc (sym e ∙ letter_known which bytes m r) in not_both r.0 (rw (← s) w)) (rw (e, w)))

-- a letter that has a cell has a job
cell_job : (l : Letter) → has_cell l ≡ true → has_job l ≡ true
cell_job Begin h = h
cell_job Commit h = refl
cell_job GiveUp h = refl
cell_job Retry h = refl
cell_job Back h = refl
cell_job (Asks a) h = refl

-- a line that begins with a letter that it may begin with
module _ (which : Letter → Bool) (bytes : List ℕ) (l : Letter) (known : LetterRight which bytes l) where
  -- the reading of a line whose job is not right
  pub job_bad : (JobRight bytes l → ⊥) → read_line which bytes ≡ Err Second
  unfolding job_part
  job_bad wrong =
      past_letter which bytes l known
      ∙ not_past (has_job l) last_number Second (after_field bytes) (cell_part l) (λ r. wrong (λ h. rw (second_is bytes) (r h)))

  -- a job that is right
  module _ (job : JobRight bytes l) where
    -- what is left after it
    behind_job : Past (has_job l) last_number Second (after_field bytes) (cell_part l)
    behind_job = past (has_job l) last_number Second (after_field bytes) (cell_part l) (after_ends bytes) (λ h. rw (second_is bytes) at (job h))

    -- the reader goes on there
    past_job : read_line which bytes ≡ cell_part l behind_job.number behind_job.left
    unfolding job_part
    past_job = past_letter which bytes l known ∙ behind_job.reads

    -- the third field is the next there
    cell_is : has_cell l ≡ true → field_at 3 (fields_of bytes) ≡ field_at 1 (more behind_job.left)
    cell_is h = third_is bytes ∙ behind_job.others (cell_job l h)

    -- the reading of a line whose cell is not right
    pub cell_bad : (CellRight bytes l → ⊥) → read_line which bytes ≡ Err Third
    unfolding cell_part
    cell_bad wrong =
        past_job ∙ not_past (has_cell l) last_cell Third behind_job.left _ (λ r. wrong (λ h. rw (cell_is h) (r h)))

    -- a cell that is right
    module _ (cell : CellRight bytes l) where
      -- what is left after it
      behind_cell : Past (has_cell l) last_cell Third behind_job.left (λ n t. ending t (good l behind_job.number n))
      behind_cell = past (has_cell l) last_cell Third behind_job.left _ behind_job.stops (λ h. rw (cell_is h) at (cell h))

      -- the line ends there or is bad
      past_cell : read_line which bytes ≡ ending behind_cell.left (good l behind_job.number behind_cell.number)
      unfolding cell_part
      past_cell = past_job ∙ behind_cell.reads

      -- the fields of the line are those of the letter and of what is left
      all_fields : length (fields_of bytes) ≡ 1 + pick (has_job l) 1 0 + pick (has_cell l) 1 0 + length (more behind_cell.left)
      all_fields = omega (arith, ap length (fields_are bytes), behind_job.count, behind_cell.count)

      -- the line ends with its newline exactly if what is left does
      all_ended : ended bytes ≡ ended behind_cell.left
      all_ended = ended_after_lem bytes ∙ behind_job.ends ∙ behind_cell.ends

      -- the reading of a line whose end is not right
      pub end_bad : (EndRight bytes l → ⊥) → read_line which bytes ≡ Err Fourth
      end_bad wrong =
          past_cell ∙ ending_wrong behind_cell.left _ (λ r. let few = r.0 in wrong (omega (arith, all_fields), all_ended ∙ r.1))

      -- the reading of a line that is all right
      pub all_good : EndRight bytes l → (job cell : ℕ) × (read_line which bytes ≡ good l job cell)
      all_good end =
          let few = end.0 in
          let stop : length (more behind_cell.left) ≤ 0 = omega (arith, all_fields) in
          (behind_job.number, behind_cell.number, past_cell ∙ ending_right behind_cell.left _ behind_cell.stops stop (sym all_ended ∙ end.1))
