-- The desk programs read 1,000,000 lines and stop: every line up to there has its answer, and later lines write nothing and change nothing (01, Lines).
-- Assumes nothing.
use Prim.Native.Nat.{ℕ, zero, suc, ◌+◌, ◌≤◌, ◌<◌}
use mathlib.Core.Path.{◌≡◌, refl, sym, ap, ◌∙◌}
use mathlib.Core.Bool.{Bool, true}
use mathlib.Core.List.{List, [], ◌∷◌, drop_last}
use native.Mathlib.Omega.{arith}
use lib.Dec.{ltb}
use lib.ListN.{length, take}
use borrow.Author.Tests.{lt-ltb, le-ltb}
use Rattle.laws.specs.Choice.{by_test}
use Rattle.laws.proofs.Parts.{and_first, and_second, and_both}
use Rattle.terms.specs.Limits.{request_lines}
use Rattle.text_rules.specs.Split.{lines_of, joined, one_line, has_newline, every}
use Rattle.text_rules.proofs.TextLines.{lines_one, lines_end, lines_only}
use Rattle.desk_rules.specs.Desk.{fresh_desk}
use Rattle.stamp_rules.specs.Desk.{fresh_desk as stamp-fresh}
use Rattle.stamp_rules.specs.Step.{step as stamp-step}
use Rattle.program_rules.specs.declared.Method.{Method}
use Rattle.program_rules.specs.declared.Method.TheVariants.{Locks, Stamps}
use Rattle.program_rules.specs.declared.View.{View}
use Rattle.program_rules.specs.declared.View.TheVariants.{Answers, History, Chains}
use Rattle.desk_rules.specs.Step.{step}
use Rattle.desk_rules.specs.Chain.{all_chains}
use Rattle.desks.specs.Stepping.{Stepping}
use Rattle.program_rules.specs.OverLines.{Told, line_by, run_of, answer_lines, history_lines, written}
use Rattle.program_rules.specs.Chains.{desk_over, chain_text}
use Rattle.program_rules.specs.Programs.{first_number, run_on, stamp_run_on, run_by, desk_on, answers_of, history_of, chains_of, stamp_answers_of, stamp_history_of, program_of}

-- what holds of every line holds of the first ones
first_every : (f : List ℕ → Bool) (n : ℕ) (ls : List (List ℕ)) → every f ls ≡ true → every f (take n ls) ≡ true
unfolding every
first_every f zero ls h = refl
first_every f (suc n) [] h = refl
first_every f (suc n) (l ∷ ls) h = and_both (f l) (every f (take n ls)) (and_first (f l) (every f ls) h) (first_every f n ls (and_second (f l) (every f ls) h))

-- what holds of all but the last holds of the first ones but their last
first_but_last : (f : List ℕ → Bool) (n : ℕ) (ls : List (List ℕ)) → every f (drop_last ls) ≡ true → every f (drop_last (take n ls)) ≡ true
unfolding every
first_but_last f zero ls h = refl
first_but_last f (suc zero) [] h = refl
first_but_last f (suc zero) (l ∷ ls) h = refl
first_but_last f (suc (suc n)) [] h = refl
first_but_last f (suc (suc n)) (l ∷ []) h = refl
first_but_last f (suc (suc n)) (l ∷ k ∷ ls) h =
    and_both (f l) (every f (drop_last (take (suc n) (k ∷ ls)))) (and_first (f l) (every f (drop_last (k ∷ ls))) h) (first_but_last f (suc n) (k ∷ ls) (and_second (f l) (every f (drop_last (k ∷ ls))) h))

-- the lines of the text of the first lines are these
first_lines : (n : ℕ) (text : List ℕ) → lines_of (joined (take n (lines_of text))) ≡ take n (lines_of text)
first_lines n text = lines_only (take n (lines_of text)) (first_every one_line n (lines_of text) (lines_one text)) (first_but_last has_newline n (lines_of text) (lines_end text))

module _ {S : Type 0} (step : Stepping S) where
  -- a run over lines past the 1,000,000th tells nothing
  run_past : (d : S) (n : ℕ) (ls : List (List ℕ)) → request_lines < n → run_of step d n ls ≡ []
  unfolding run_of
  run_past d n [] h = refl
  run_past d n (l ∷ ls) h = rw (lt-ltb request_lines n h)

  -- a run looks at no line past the 1,000,000th
  run_first : (d : S) (n m : ℕ) (ls : List (List ℕ)) → request_lines < n + m → run_of step d n (take m ls) ≡ run_of step d n ls
  unfolding run_of
  run_first d n zero ls h = sym (run_past d n ls (omega arith))
  run_first d n (suc m) [] h = refl
  run_first d n (suc m) (l ∷ ls) h =
      by_test (ltb request_lines n) (λ e. rw e)
      (λ e. rw e (ap (λ (ts : List Told). (line_by step d n l).told ∷ ts) (run_first (line_by step d n l).desk (n + 1) m ls (omega arith))))

  -- nor does the desk after it
  over_first : (d : S) (n m : ℕ) (ls : List (List ℕ)) → request_lines < n + m → desk_over step d n (take m ls) ≡ desk_over step d n ls
  unfolding desk_over
  over_first d n zero [] h = refl
  over_first d n zero (l ∷ ls) h = rw (lt-ltb request_lines n (omega arith))
  over_first d n (suc m) [] h = refl
  over_first d n (suc m) (l ∷ ls) h =
      by_test (ltb request_lines n) (λ e. rw e)
      (λ e. rw e (over_first (line_by step d n l).desk (n + 1) m ls (omega arith)))

  -- up to there each line has its answer
  run_all : (d : S) (n : ℕ) (ls : List (List ℕ)) → n + length ls ≤ request_lines + 1 → length (run_of step d n ls) ≡ length ls
  unfolding run_of
  run_all d n [] h = refl
  run_all d n (l ∷ ls) h = rw (le-ltb request_lines n (omega arith)) (ap suc (run_all (line_by step d n l).desk (n + 1) ls (omega arith)))

-- EACH LINE HAS ITS ANSWER: of a text of at most 1,000,000 lines as many answers are told as it has lines, by either method
pub all_lines_told : (m : Method) (text : List ℕ) → length (lines_of text) ≤ 1_000_000 → length (run_by m text) ≡ length (lines_of text)
unfolding run_by run_on stamp_run_on
all_lines_told Locks text h = run_all step (fresh_desk first_number) 1 (lines_of text) (omega arith)
all_lines_told Stamps text h = run_all stamp-step (stamp-fresh first_number) 1 (lines_of text) (omega arith)

-- the run of the lines of a text is that of its first 1,000,000 lines, on any desk
run_million : {S : Type 0} (step : Stepping S) (d : S) (text : List ℕ) → run_of step d 1 (lines_of text) ≡ run_of step d 1 (lines_of (joined (take 1_000_000 (lines_of text))))
run_million step d text = sym (run_first step d 1 1_000_000 (lines_of text) (omega arith)) ∙ ap (run_of step d 1) (sym (first_lines 1_000_000 text))

-- so is that on the fresh desk of a method
by_million : (m : Method) (text : List ℕ) → run_by m text ≡ run_by m (joined (take 1_000_000 (lines_of text)))
unfolding run_by run_on stamp_run_on
by_million Locks text = run_million step (fresh_desk first_number) text
by_million Stamps text = run_million stamp-step (stamp-fresh first_number) text

-- and so is the paper's desk after it
desk_million : (text : List ℕ) → desk_on text ≡ desk_on (joined (take 1_000_000 (lines_of text)))
unfolding desk_on
desk_million text =
    sym (over_first step (fresh_desk first_number) 1 1_000_000 (lines_of text) (omega arith)) ∙ ap (desk_over step (fresh_desk first_number) 1) (sym (first_lines 1_000_000 text))

-- A MILLION LINES: each program writes of a text what it writes of the text's first 1,000,000 lines
pub million_lines : (m : Method) (view : View) (text : List ℕ) → program_of m view text ≡ program_of m view (joined (take 1_000_000 (lines_of text)))
unfolding program_of answers_of history_of chains_of stamp_answers_of stamp_history_of run_by
million_lines Locks Answers text = ap (written answer_lines) (by_million Locks text)
million_lines Locks History text = ap (written history_lines) (by_million Locks text)
million_lines Locks Chains text = ap (λ d. chain_text (all_chains d)) (desk_million text)
million_lines Stamps Answers text = ap (written answer_lines) (by_million Stamps text)
million_lines Stamps History text = ap (written history_lines) (by_million Stamps text)
million_lines Stamps Chains text = refl
