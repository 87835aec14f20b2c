-- End to end for the timestamp desk, over texts alone: for any input, the text that `stamp_history` writes is read back, its conflicting actions stand in number order, and the judge never finds a knot in it. Within the judge's limits, if it is not dirty, the judge and `verdict` tell the committed jobs in ascending numbers (02, No. 6).
-- Assumes nothing.
use Prim.Native.Nat.{ℕ, ◌+◌, ◌≤◌}
use mathlib.Core.Path.{◌≡◌, sym, subst}
use mathlib.Core.Logic.{◌⊎◌, ◌↔◌}
use mathlib.Core.Bool.{true}
use mathlib.Core.List.{List, [], ◌∷◌, ◌++◌, map}
use native.Mathlib.Omega.{arith}
use lib.ListN.{length}
use Rattle.laws.specs.Lists.{member, distinct, Fills}
use Rattle.laws.specs.Sorted.{sorted}
use Rattle.terms.specs.declared.refusals.Refusal.{Refusal}
use Rattle.terms.specs.declared.refusals.Refusal.TheVariants.{TooManyLines, JobOutside}
use Rattle.conflict.specs.Schedule.{Equivalent, serial}
use Rattle.conflict.specs.History.{History, is_commit, marked, line_of, committed_part, commit_order}
use Rattle.conflict.specs.Dirty.{IsDirty, FirstDirty}
use Rattle.conflict.specs.NumberOrder.{ActsInNumberOrder}
use Rattle.conflict.proofs.NumberOrder.{number_order_serial, ascending_commits_once, ascending_commits}
use Rattle.text_rules.specs.Decimal.{decimal}
use Rattle.text_rules.specs.EventRecords.{text_of}
use Rattle.text_rules.specs.Split.{lines_of, joined}
use Rattle.desks.specs.Started.{fresh}
use Rattle.stamp_rules.specs.Desk.{Desk, fresh_desk}
use Rattle.stamp_rules.specs.Step.{step, Started}
use Rattle.stamp_rules.proofs.Numbers.{step_gives}
use Rattle.stamp_rules.proofs.NoEventAfterEnd.{started_over}
use Rattle.stamp_rules.proofs.RecordLimits.{recorded_jobs, recorded_cells, one_record}
use Rattle.stamp_rules.proofs.Serial.{number_history}
use Rattle.judge_rules.specs.declared.verdict.Verdict.TheVariants.{Orderly, Knot, Dirty, No}
use Rattle.judge_rules.specs.HistoryText.{readings_of, events_in}
use Rattle.judge_rules.specs.Judged.{jobs_of}
use Rattle.judge_rules.specs.Judgement.{judgement_of}
use Rattle.judge_rules.specs.LineTable.{AllReadBack, AllFaultless}
use Rattle.judge_rules.specs.KeepsLimits.{KeepsLimits}
use Rattle.judge_rules.specs.VerdictLine.{verdict_of}
use Rattle.judge_rules.proofs.JudgedTexts.{dirty_said_exactly}
use Rattle.judge_rules.proofs.NumberOrder.{number_order_never_knot, number_order_told, number_order_orderly, number_order_fills, number_order_verdict}
use Rattle.program_rules.specs.Chains.{desk_over}
use Rattle.program_rules.specs.Programs.{first_number, stamp_run_on, stamp_history_of}
use Rattle.program_rules.specs.Shown.{history_of_run, given_in}
use Rattle.program_rules.proofs.SameShown.{stamp_history_is}
use Rattle.program_rules.proofs.StartedHistory.{run_started, run_next}
use Rattle.program_rules.proofs.HistoryLength.{run_few}
use Rattle.program_rules.proofs.PlainTexts.{Plain, plain_read_back, plain_says, plain_refused, plain_fits, plain_faultless}

module _ (text : List ℕ) where
  -- the history of the run of the text on a fresh timestamp desk: what `stamp_history` writes the text of
  abbrev pub stamp_history_on : History
  stamp_history_on = history_of_run (stamp_run_on text)

  -- the desk after the lines of the text
  abbrev pub stamp_desk_on : Desk
  stamp_desk_on = desk_over step (fresh_desk first_number) 1 (lines_of text)

  -- what is written is the history of a started timestamp desk
  pub stamp_history_started : Started stamp_desk_on stamp_history_on
  unfolding stamp_run_on
  stamp_history_started = run_started (fresh first_number (omega arith) (omega arith)) 1 (lines_of text)

  -- so it can be read back
  plain : Plain stamp_history_on
  plain = record { jobs = recorded_jobs stamp_history_started; at = recorded_cells stamp_history_started; ends = (number_history stamp_history_started).no_event_after_end }

  -- what holds of the text of that history holds of what `stamp_history` writes
  of_written : (P : List ℕ → Type 0) → P (text_of stamp_history_on) → P (stamp_history_of text)
  of_written P = subst P (sym (stamp_history_is text))

  -- THE HISTORY IS READ BACK: no line that `stamp_history` writes is a bad line, has a cell above 63, or is for a job that has committed or given up before it
  pub stamp_history_read_back : AllReadBack (readings_of (stamp_history_of text))
  stamp_history_read_back = of_written (λ t. AllReadBack (readings_of t)) (plain_read_back plain)

  -- and its lines say what the desk did
  pub stamp_history_says : events_in (readings_of (stamp_history_of text)) ≡ stamp_history_on
  stamp_history_says = of_written (λ t. events_in (readings_of t) ≡ stamp_history_on) (plain_says plain)

  -- the history that is read in what is written
  abbrev pub read_in : History
  read_in = events_in (readings_of (stamp_history_of text))

  -- NUMBER ORDER, OF TEXTS ALONE: whatever comes in, conflicting actions in what `stamp_history` writes stand in number order
  pub stamp_history_in_order : ActsInNumberOrder read_in
  stamp_history_in_order = subst ActsInNumberOrder (sym stamp_history_says) (number_history stamp_history_started).all_in_order

  -- so the committed part is conflict-equivalent to the committed jobs one after another in ascending numbers, each of them once
  pub stamp_history_serial : Equivalent (committed_part read_in) (serial (sorted (commit_order read_in)) (committed_part read_in)) × (distinct (sorted (commit_order read_in)) ≡ true) × ((j : ℕ) → member j (sorted (commit_order read_in)) ≡ marked is_commit j read_in)
  stamp_history_serial = (number_order_serial read_in stamp_history_in_order, ascending_commits_once read_in, ascending_commits read_in)

  -- where the order buffer has its 255 places, the judge refuses it only for line 4,097 or a job outside 1 to 255
  pub stamp_history_refused : (buffer : List ℕ) → 255 ≤ length buffer → (n : ℕ) (why : Refusal) → (judgement_of (stamp_history_of text) buffer).said ≡ No n why → (why ≡ TooManyLines) ⊎ (why ≡ JobOutside)
  stamp_history_refused buffer room n why = of_written (λ t. (judgement_of t buffer).said ≡ No n why → (why ≡ TooManyLines) ⊎ (why ≡ JobOutside)) (plain_refused plain buffer room n why)

  -- NEVER A KNOT
  pub stamp_history_no_knot : (buffer : List ℕ) (n : ℕ) → (judgement_of (stamp_history_of text) buffer).said ≡ Knot n → ⊥
  stamp_history_no_knot = number_order_never_knot (stamp_history_of text) stamp_history_in_order

  -- whenever the judge says orderly of it, the committed jobs fill the buffer's first places in ascending numbers
  pub stamp_history_told : (buffer : List ℕ) (n : ℕ) → (judgement_of (stamp_history_of text) buffer).said ≡ Orderly n → (n ≡ length (jobs_of read_in)) × Fills (jobs_of read_in) buffer (judgement_of (stamp_history_of text) buffer).order
  stamp_history_told = number_order_told (stamp_history_of text) stamp_history_in_order

  -- its jobs are numbered from 1 on, one for each begin that goes: so no number is above how many they are
  stamp_history_jobs : (j : ℕ) → line_of j stamp_history_on ≡ true → j ≤ length (given_in (stamp_run_on text))
  stamp_history_jobs j l = omega (arith, (started_over stamp_history_started).given j l, next_is)
    where
      next_is : stamp_desk_on.next ≡ first_number + length (given_in (stamp_run_on text))
      next_is = unfold stamp_run_on fresh_desk in run_next step (λ d. d.next) step_gives (fresh_desk first_number) 1 (lines_of text)

  -- the history of a text has no more records than the text has lines
  stamp_history_no_longer : length stamp_history_on ≤ length (lines_of text)
  stamp_history_no_longer = unfold stamp_run_on in omega (arith, run_few step (λ d. 0) (λ d r. omega (arith, one_record d r)) (fresh_desk first_number) 1 (lines_of text))

  -- the judge's limits by what comes in alone: at most 255 begins that go, and at most 4,096 lines
  pub stamp_small_input : length (given_in (stamp_run_on text)) ≤ 255 → length (lines_of text) ≤ 4_096 → KeepsLimits stamp_history_on
  stamp_small_input begun lines = record { jobs = λ j l. omega (arith, stamp_history_jobs j l); events = omega (arith, stamp_history_no_longer) }

  module _ (limits : KeepsLimits stamp_history_on) where
    -- within the judge's limits no line of it is faulty
    pub stamp_history_faultless : AllFaultless (readings_of (stamp_history_of text))
    stamp_history_faultless = of_written (λ t. AllFaultless (readings_of t)) (plain_faultless plain limits)

    -- it is no longer than the verdict program reads
    pub stamp_history_fits : length (stamp_history_of text) ≤ 65_536
    stamp_history_fits = of_written (λ t. length t ≤ 65_536) (plain_fits plain limits)

    -- the judge says dirty of it, with reader and writer of its first dirty read, exactly where it is (02, No. 2)
    pub stamp_history_dirty : (buffer : List ℕ) → 255 ≤ length buffer → (i j : ℕ) → ((judgement_of (stamp_history_of text) buffer).said ≡ Dirty i j) ↔ FirstDirty read_in i j
    stamp_history_dirty buffer room i j = dirty_said_exactly (stamp_history_of text) buffer room stamp_history_faultless i j

    module _ (clean : IsDirty read_in → ⊥) where
      -- THE HISTORY IS ORDERLY where it is not dirty: the judge says so, with the number of committed jobs
      pub stamp_history_orderly : (buffer : List ℕ) → 255 ≤ length buffer → (judgement_of (stamp_history_of text) buffer).said ≡ Orderly (length (jobs_of read_in))
      stamp_history_orderly = number_order_orderly (stamp_history_of text) stamp_history_in_order stamp_history_faultless clean

      -- and the committed jobs, ascending, fill the buffer's first places
      pub stamp_history_order : (buffer : List ℕ) → 255 ≤ length buffer → Fills (jobs_of read_in) buffer (judgement_of (stamp_history_of text) buffer).order
      stamp_history_order = number_order_fills (stamp_history_of text) stamp_history_in_order stamp_history_faultless clean

      -- THE VERDICT ON IT: the program `verdict` prints `orderly` and the committed jobs in ascending numbers, a tab before each
      pub stamp_history_verdict : verdict_of (stamp_history_of text) ≡ 111 ∷ 114 ∷ 100 ∷ 101 ∷ 114 ∷ 108 ∷ 121 ∷ joined (map (λ j. 9 ∷ decimal j) (jobs_of read_in)) ++ 10 ∷ []
      stamp_history_verdict = number_order_verdict (stamp_history_of text) stamp_history_in_order stamp_history_faultless clean stamp_history_fits
