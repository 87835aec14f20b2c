-- One line by the table and in the paper's words: both call it faultless or neither does, and both give the same refusal (01, Refusals by number).
-- Assumes nothing.
use Rattle.std.specs.Prelude.{Option, None, Some, Err, Ok}
use Prim.Native.Nat.{ℕ, ◌≤◌, ◌<◌}
use mathlib.Core.Path.{◌≡◌, refl, sym, ap, ◌∙◌, subst}
use mathlib.Core.Logic.{◌≢◌, ◌⊎◌, inl, inr, ⊎_elim}
use mathlib.Core.Bool.{Bool, true, false, not, ◌&&◌}
use mathlib.Core.List.{List}
use native.Mathlib.Omega.{arith}
use lib.Dec.{eqb, leb}
use borrow.Author.Tests.{eqb-true, eqb-false, eq-eqb, ne_eqb, leb-true, leb-false, le-leb, lt-leb}
use Rattle.laws.specs.Choice.{pick, by_test, not_both}
use Rattle.laws.proofs.Parts.{and_second}
use Rattle.laws.specs.Lists.{first_of}
use Rattle.terms.specs.declared.letters.Letter.{Letter}
use Rattle.terms.specs.declared.refusals.Refusal.{Refusal}
use Rattle.terms.specs.declared.refusals.Refusal.TheVariants.{BadLine, CellAbove, TooManyLines, JobOutside, Ended}
use Rattle.terms.specs.Letters.{has_cell}
use Rattle.terms.specs.Refusals.{number_of, field_number, field_of}
use Rattle.terms.proofs.Numbers.{same_number}
use Rattle.text_rules.specs.Split.{lines_of}
use Rattle.judge_rules.specs.HistoryText.{readings_of}
use Rattle.judge_rules.specs.LineTable.{reading_at, lines_before, ended_in, holds, order, table_says, Faultless, Due}
use Rattle.judge_rules.specs.AsWorded.{LineIs, Sound, RefusedAs}
use Rattle.judge_rules.specs.AsWorded.RefusedAs.{too_many, bad, outside, above, over}
use Rattle.judge_rules.proofs.FewJobs.{not_outside}
use Rattle.judge_rules.proofs.CleanLines.{Clean, clean_line, line_clean}
use Rattle.judge_rules.proofs.OverBefore.{good_at, at_good, ended_over, over_ended}
use Rattle.judge_rules.proofs.BadLines.{bad_says, bad_at_lem, at_bad}
use Rattle.text_rules.specs.Lines.{Reading, good}

-- a job from 1 to 255 is not outside
inside : (job : ℕ) → 1 ≤ job → job ≤ 255 → not (leb 1 job && leb job 255) ≡ false
inside job a b = rw (le-leb 1 job a, le-leb job 255 b)

-- one that is 0 or above 255 is
not_inside : (job : ℕ) → (job ≡ 0) ⊎ (255 < job) → not (leb 1 job && leb job 255) ≡ true
not_inside job = ⊎_elim (λ z. rw (lt-leb 1 job (omega arith))) (λ h. by_test (leb 1 job) (λ t. rw (t, lt-leb job 255 h)) (λ f. rw f))

-- and the other way round
which_side : (job : ℕ) → not (leb 1 job && leb job 255) ≡ true → (job ≡ 0) ⊎ (255 < job)
which_side job e =
    by_test (eqb job 0) (λ t. inl (eqb-true job 0 t))
    (λ f. let some_job : job ≢ 0 = eqb-false job 0 f in
    by_test (leb job 255) (λ t. not_both e (inside job (omega arith) (leb-true job 255 t))) (λ g. inr (leb-false job 255 g)))

-- if row 2 does not hold for a good line, its cell is at most 63
cell_low : (l : Letter) (cell : ℕ) → (has_cell l ≡ false → cell ≡ 0) → (has_cell l && leb 64 cell) ≡ false → cell ≤ 63
cell_low l cell z e = by_test (has_cell l) (λ t. let h : cell < 64 = leb-false 64 cell (rw t at e) in omega arith) (λ f. let q : cell ≡ 0 = z f in omega arith)

-- if the cell is at most 63, row 2 does not hold
low_cell : (l : Letter) (cell : ℕ) → cell ≤ 63 → (has_cell l && leb 64 cell) ≡ false
low_cell l cell h = by_test (has_cell l) (λ t. rw (t, lt-leb 64 cell (omega arith))) (λ f. rw f)

-- if the cell is above 63, row 2 holds
high_cell : (l : Letter) (cell : ℕ) → (has_cell l ≡ false → cell ≡ 0) → 63 < cell → (has_cell l && leb 64 cell) ≡ true
high_cell l cell z h = by_test (has_cell l) (λ t. rw (t, le-leb 64 cell (omega arith))) (λ f. let q : cell ≡ 0 = z f in absurd (omega arith))

-- the rows of a line that reads as good, from the second on
rows_of : Bool → Bool → Bool → Option Refusal
rows_of a b c = pick a (Some JobOutside) (pick b (Some CellAbove) (pick c (Some Ended) None))

-- the refusal is that of the first row that holds
by_rows : {P : Type 0} (a b c : Bool) (why : Refusal) → rows_of a b c ≡ Some why → (a ≡ true → why ≡ JobOutside → P) → (a ≡ false → b ≡ true → why ≡ CellAbove → P) →
    (a ≡ false → b ≡ false → c ≡ true → why ≡ Ended → P) → P
unfolding rows_of
by_rows true b c why e one' two' three' = one' refl cc
by_rows false true c why e one' two' three' = two' refl refl cc
by_rows false false true why e one' two' three' = three' refl refl refl cc
by_rows false false false why e one' two' three' = let z : ◌≡◌ {A = ℕ} 0 1 = cc in absurd (omega arith)

module _ (text : List ℕ) (n : ℕ) where
  -- a faultless line by its reading
  read_sound : (r : Reading) → reading_at (readings_of text) n ≡ r → Clean n (lines_before (readings_of text) n) r → Sound (lines_of text) n
  read_sound (Err at) e c = not_both (eq-eqb (field_number at) (field_number at) refl) (c.good at)
  read_sound (Ok line) e c =
      let g = good_at text n line.letter line.job line.cell e in
      let j = not_outside line.job c.inside in
      record {
        letter = line.letter;
        job = line.job;
        cell = line.cell;
        good = g;
        first = j.0;
        last = j.1;
        below = cell_low line.letter line.cell g.5 c.below;
        open' = λ o. let z : ◌≡◌ {A = ℕ} 0 1 = absurd (not_both (over_ended text n line.job o) c.open') in omega arith;
      }

  -- a line of which the table says nothing is faultless
  pub faultless_sound : Faultless (readings_of text) n → Sound (lines_of text) n
  faultless_sound f = read_sound (reading_at (readings_of text) n) refl (clean_line n (lines_before (readings_of text) n) (reading_at (readings_of text) n) f)

  -- and of a faultless line up to 4,096 the table says nothing
  pub sound_faultless : n ≤ 4_096 → Sound (lines_of text) n → Faultless (readings_of text) n
  sound_faultless h s =
      let r : reading_at (readings_of text) n ≡ good s.letter s.job s.cell = at_good text n s.letter s.job s.cell s.good in
      subst (λ x. table_says n (lines_before (readings_of text) n) x ≡ None) (sym r) (line_clean n (lines_before (readings_of text) n) (good s.letter s.job s.cell)
      (record {
        few = ne_eqb n 4_097 (omega arith);
        good = λ at. refl;
        inside = inside s.job s.first s.last;
        below = low_cell s.letter s.cell s.below;
        open' = by_test (ended_in s.job (lines_before (readings_of text) n)) (λ t. absurd (s.open' (ended_over text n s.job t))) (λ f. f);
      }))

  -- what a good line is refused with
  good_refused : n ≤ 4_096 → (l : Letter) (job cell : ℕ) (why : Refusal) → LineIs (lines_of text) n l job cell →
      rows_of (not (leb 1 job && leb job 255)) (has_cell l && leb 64 cell) (ended_in job (lines_before (readings_of text) n)) ≡ Some why →
      RefusedAs (lines_of text) n (number_of why) (field_of why)
  good_refused h l job cell why g e =
      by_rows (not (leb 1 job && leb job 255)) (has_cell l && leb 64 cell) (ended_in job (lines_before (readings_of text) n)) why e
      (λ a q. rw q (outside l job cell h g (which_side job a)))
      (λ a b q. let j = not_outside job a in rw q (above l job cell h g j.0 j.1 (leb-true 64 cell (and_second (has_cell l) (leb 64 cell) b))))
      (λ a b c q. let j = not_outside job a in rw q (over l job cell h g j.0 j.1 (cell_low l cell g.5 b) (ended_over text n job c)))

  -- what a line is refused with, by its reading
  read_refused : n ≤ 4_096 → (r : Reading) (why : Refusal) → reading_at (readings_of text) n ≡ r → table_says n (lines_before (readings_of text) n) r ≡ Some why →
      RefusedAs (lines_of text) n (number_of why) (field_of why)
  unfolding table_says first_of holds order
  read_refused h (Err at) why e d =
      let q : Some (BadLine at) ≡ Some why = sym (bad_says n (lines_before (readings_of text) n) at h) ∙ d in
      let w : why ≡ BadLine at = cc in
      rw w (bad h at (bad_at_lem text n at e))
  read_refused h (Ok line) why e d =
      good_refused h line.letter line.job line.cell why (good_at text n line.letter line.job line.cell e) (unfold rows_of in rw (ne_eqb n 4_097 (omega arith)) at d)

  -- a refusal that is due for a line up to 4,097 is the paper's
  pub due_worded : n ≤ 4_097 → (why : Refusal) → Due (readings_of text) n why → RefusedAs (lines_of text) n (number_of why) (field_of why)
  unfolding table_says first_of holds order
  due_worded h why d =
      by_test (eqb n 4_097)
      (λ t.
      let q : Some TooManyLines ≡ Some why = rw t at d in
      let w : why ≡ TooManyLines = cc in
      rw w (too_many (eqb-true n 4_097 t)))
      (λ f. let other' : n ≢ 4_097 = eqb-false n 4_097 f in read_refused (omega arith) (reading_at (readings_of text) n) why refl d)

  -- the rows of a line up to 4,096 that reads as good
  good_says : n ≤ 4_096 → (l : Letter) (job cell : ℕ) → LineIs (lines_of text) n l job cell →
      table_says n (lines_before (readings_of text) n) (reading_at (readings_of text) n) ≡ rows_of (not (leb 1 job && leb job 255)) (has_cell l && leb 64 cell) (ended_in job (lines_before (readings_of text) n))
  unfolding table_says first_of holds order rows_of
  good_says h l job cell g = rw (at_good text n l job cell g, ne_eqb n 4_097 (omega arith))

  -- and the paper's refusal of a line is due for it
  pub worded_due : {k m : ℕ} → RefusedAs (lines_of text) n k m → (why : Refusal) → number_of why ≡ k → field_of why ≡ m → Due (readings_of text) n why
  unfolding table_says first_of holds order rows_of
  worded_due (too_many e) why q f = rw (eq-eqb n 4_097 e) (ap Some (sym (same_number why TooManyLines q f)))
  worded_due (bad h at b) why q f =
      ap (table_says n (lines_before (readings_of text) n)) (at_bad text n at b) ∙ bad_says n (lines_before (readings_of text) n) at h ∙ ap Some (sym (same_number why (BadLine at) q f))
  worded_due (outside l job cell h g o) why q f = good_says h l job cell g ∙ rw (not_inside job o) (ap Some (sym (same_number why JobOutside q f)))
  worded_due (above l job cell h g a b c) why q f =
      good_says h l job cell g ∙ rw (inside job a b, high_cell l cell g.5 c) (ap Some (sym (same_number why CellAbove q f)))
  worded_due (over l job cell h g a b c o) why q f =
      good_says h l job cell g ∙ rw (inside job a b, low_cell l cell c, over_ended text n job o) (ap Some (sym (same_number why Ended q f)))
