-- A job is over before a line by the table exactly if a line before it is a c or an a of that job (01, refusal 13).
-- Assumes nothing.
use Prim.Native.Nat.{ℕ, zero, suc, ◌-◌, ◌<◌}
use mathlib.Core.Path.{◌≡◌, refl, sym, ap, ◌∙◌, subst}
use mathlib.Core.Logic.{inl, inr, ⊎_elim}
use mathlib.Core.Bool.{true}
use mathlib.Core.List.{List, [], ◌∷◌}
use native.Mathlib.Omega.{arith}
use lib.ListN.{get_or, take}
use borrow.Author.Tests.{eqb-true, eq-eqb}
use Rattle.std.specs.Prelude.{Err, Ok}
use Rattle.laws.specs.Choice.{not_both}
use Rattle.laws.proofs.Parts.{or_either, or_first, or_second}
use Rattle.terms.specs.declared.letters.Letter.{Letter}
use Rattle.terms.specs.declared.letters.Letter.TheVariants.{Begin, Commit, GiveUp, Retry, Back, Asks}
use Rattle.terms.specs.declared.refusals.Field.TheVariants.{First}
use Rattle.terms.specs.Letters.{of_histories}
use Rattle.text_rules.specs.Split.{lines_of}
use Rattle.text_rules.proofs.GoodLine.{good_is_record, good_exactly}
use Rattle.judge_rules.specs.HistoryText.{readings_of, line_at}
use Rattle.judge_rules.specs.LineTable.{reading_at, lines_before, ends, ended_in}
use Rattle.judge_rules.specs.AsWorded.{LineIs, OverBefore}
use Rattle.judge_rules.proofs.Readings.{reading_at_lem}
use Rattle.text_rules.specs.Lines.{Reading, good}

-- a good line that ends a job is a c or an a of it
ends_good : {P : Type 0} (j : ℕ) (l : Letter) (job cell : ℕ) → ends j (good l job cell) ≡ true → ((cell' : ℕ) → good l job cell ≡ good Commit j cell' → P) → ((cell' : ℕ) → good l job cell ≡ good GiveUp j cell' → P) → P
unfolding ends
ends_good j Begin job cell e one' two' = not_both e refl
ends_good j Commit job cell e one' two' = one' cell (ap (λ i. good Commit i cell) (eqb-true job j e))
ends_good j GiveUp job cell e one' two' = two' cell (ap (λ i. good GiveUp i cell) (eqb-true job j e))
ends_good j Retry job cell e one' two' = not_both e refl
ends_good j Back job cell e one' two' = not_both e refl
ends_good j (Asks a) job cell e one' two' = not_both e refl

-- a reading that ends a job is a c or an a of it
ends_letter : {P : Type 0} (j : ℕ) (r : Reading) → ends j r ≡ true → ((cell : ℕ) → r ≡ good Commit j cell → P) → ((cell : ℕ) → r ≡ good GiveUp j cell → P) → P
unfolding ends
ends_letter j (Err at) e one' two' = not_both e refl
ends_letter j (Ok line) e one' two' = ends_good j line.letter line.job line.cell e one' two'

-- a job that has ended on the first k lines has done so on one of them
ended_at : (j k : ℕ) (rs : List Reading) → ended_in j (take k rs) ≡ true → (i : ℕ) × (i < k) × (ends j (get_or rs i (Err First)) ≡ true)
unfolding ended_in
ended_at j zero rs e = not_both e refl
ended_at j (suc k) [] e = not_both e refl
ended_at j (suc k) (r ∷ rs) e =
    or_either (ends j r) (ended_in j (take k rs)) e (λ t. (0, omega arith, t)) (λ t. let p = ended_at j k rs t in (suc p.0, omega (arith, p.1), p.2))

-- and one such line is enough
at_ended : (j k i : ℕ) (rs : List Reading) → i < k → ends j (get_or rs i (Err First)) ≡ true → ended_in j (take k rs) ≡ true
unfolding ended_in ends
at_ended j zero i rs h e = absurd (omega arith)
at_ended j (suc k) i [] h e = not_both e refl
at_ended j (suc k) zero (r ∷ rs) h e = or_first (ends j r) (ended_in j (take k rs)) e
at_ended j (suc k) (suc i) (r ∷ rs) h e = or_second (ends j r) (ended_in j (take k rs)) (at_ended j k i rs (omega arith) e)

module _ (text : List ℕ) where
  -- the good line behind a reading that is good
  pub good_at : (n : ℕ) (l : Letter) (job cell : ℕ) → reading_at (readings_of text) n ≡ good l job cell → LineIs (lines_of text) n l job cell
  good_at n l job cell e = good_is_record of_histories (line_at (lines_of text) n) l job cell (sym (reading_at_lem text n) ∙ e)

  -- and a good line reads as good
  pub at_good : (n : ℕ) (l : Letter) (job cell : ℕ) → LineIs (lines_of text) n l job cell → reading_at (readings_of text) n ≡ good l job cell
  at_good n l job cell g = reading_at_lem text n ∙ (good_exactly of_histories (line_at (lines_of text) n) l job cell).1 g

  -- a letter without a cell has cell 0
  no_cell : (n : ℕ) (l : Letter) (job cell : ℕ) → LineIs (lines_of text) n l job cell → cell ≡ 0 → LineIs (lines_of text) n l job 0
  no_cell n l job cell g z = subst (LineIs (lines_of text) n l job) z g

  -- a job that is over by the table has a c or an a on a line before
  pub ended_over : (n job : ℕ) → ended_in job (lines_before (readings_of text) n) ≡ true → OverBefore (lines_of text) n job
  ended_over n job e =
      let p = ended_at job (n - 1) (readings_of text) e in
      let m : ℕ = suc p.0 in
      let q : ends job (reading_at (readings_of text) m) ≡ true = subst (λ i. ends job (get_or (readings_of text) i (Err First)) ≡ true) (less_one p.0) p.2 in
      record {
        at = m;
        from = omega arith;
        before = omega (arith, p.1);
        ends =
            ends_letter job (reading_at (readings_of text) m) q
            (λ cell r. let g = good_at m Commit job cell r in inl (no_cell m Commit job cell g (g.5 refl)))
            (λ cell r. let g = good_at m GiveUp job cell r in inr (no_cell m GiveUp job cell g (g.5 refl)));
      }
    where
      less_one : (k : ℕ) → k ≡ suc k - 1
      less_one k = omega arith

  -- a c of a job ends it
  commit_ends : (m job : ℕ) → LineIs (lines_of text) m Commit job 0 → ends job (reading_at (readings_of text) m) ≡ true
  unfolding ends
  commit_ends m job g = rw (at_good m Commit job 0 g) (eq-eqb job job refl)

  -- and so does an a of it
  give_up_ends : (m job : ℕ) → LineIs (lines_of text) m GiveUp job 0 → ends job (reading_at (readings_of text) m) ≡ true
  unfolding ends
  give_up_ends m job g = rw (at_good m GiveUp job 0 g) (eq-eqb job job refl)

  -- and a job that has one is over by the table
  pub over_ended : (n job : ℕ) → OverBefore (lines_of text) n job → ended_in job (lines_before (readings_of text) n) ≡ true
  over_ended n job o =
      let less : o.at - 1 < n - 1 = omega (arith, o.from, o.before) in
      at_ended job (n - 1) (o.at - 1) (readings_of text) less (⊎_elim (commit_ends o.at job) (give_up_ends o.at job) o.ends)
