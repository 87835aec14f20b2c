-- End to end, over texts alone: for any input, the judge's reader reads back the text that `history` writes; within the judge's limits the judge says orderly, and so does `verdict` (01, What is delivered; demand 2).
-- Assumes nothing.
use Prim.Native.Nat.{ℕ, ◌≤◌}
use mathlib.Core.Path.{◌≡◌, sym, ◌∙◌, subst}
use mathlib.Core.Logic.{◌⊎◌}
use mathlib.Core.Bool.{true}
use mathlib.Core.List.{List, [], ◌∷◌, ◌++◌, map, append-nil}
use native.Mathlib.Omega.{arith}
use lib.ListN.{length}
use Rattle.terms.specs.declared.refusals.Refusal.{Refusal}
use Rattle.terms.specs.declared.refusals.Refusal.TheVariants.{TooManyLines, JobOutside}
use Rattle.laws.specs.Lists.{member, distinct}
use Rattle.conflict.specs.Schedule.{Equivalent, serial, edge}
use Rattle.conflict.specs.History.{History, is_commit, marked, committed_part, commit_order}
use Rattle.conflict.specs.Dirty.{IsDirty}
use Rattle.conflict.proofs.Marks.{listed}
use Rattle.text_rules.specs.Decimal.{decimal}
use Rattle.text_rules.specs.EventRecords.{text_of}
use Rattle.text_rules.specs.Split.{lines_of, joined}
use Rattle.desk_rules.specs.Step.{Started}
use Rattle.desk_rules.proofs.RecordLimits.{recorded_jobs, recorded_cells}
use Rattle.desk_rules.proofs.Serial.{serial_history}
use Rattle.judge_rules.specs.declared.verdict.Verdict.TheVariants.{Orderly, Knot, Dirty, No}
use Rattle.judge_rules.specs.HistoryText.{readings_of, events_in}
use Rattle.judge_rules.specs.Judged.{jobs_of}
use Rattle.judge_rules.specs.Judgement.{judgement_of}
use Rattle.judge_rules.specs.Meant.{SmallestFirst}
use Rattle.judge_rules.specs.LineTable.{FirstFault, AllReadBack, AllFaultless}
use Rattle.judge_rules.specs.Answers.{InOrder}
use Rattle.judge_rules.specs.KeepsLimits.{KeepsLimits}
use Rattle.judge_rules.specs.VerdictLine.{verdict_of}
use Rattle.program_rules.specs.Programs.{run_on, history_of}
use Rattle.program_rules.specs.Shown.{given_in, history_on}
use Rattle.program_rules.proofs.SameShown.{history_is}
use Rattle.program_rules.proofs.StartedHistory.{history_started, history_jobs}
use Rattle.program_rules.proofs.HistoryLength.{history_no_longer}
use Rattle.program_rules.proofs.PlainTexts.{Plain, plain_read_back, plain_says, plain_fault, plain_refused, plain_not_dirty, plain_no_knot, plain_fits, plain_faultless, plain_verdict, plain_orderly, plain_order}

module _ (text : List ℕ) where
  -- what is written is the history of a started desk
  started : Started (history_started text).0 (history_on text)
  started = (history_started text).1

  -- so it can be read back
  pub history_plain : Plain (history_on text)
  history_plain = record { jobs = recorded_jobs started; at = recorded_cells started; ends = (serial_history started).no_event_after_end }

  -- what holds of the text of that history holds of what `history` writes
  of_written : (P : List ℕ → Type 0) → P (text_of (history_on text)) → P (history_of text)
  of_written P = subst P (sym (history_is text))

  -- it is not dirty
  clean : IsDirty (history_on text) → ⊥
  clean = (serial_history started).never_dirty (history_on text) [] (sym (append-nil (history_on text)))

  -- THE HISTORY IS READ BACK: no line that `history` writes is a bad line, has a cell above 63, or is for a job that has committed or given up before it
  pub history_read_back : AllReadBack (readings_of (history_of text))
  history_read_back = of_written (λ t. AllReadBack (readings_of t)) (plain_read_back history_plain)

  -- and its lines say what the desk did
  pub history_says : events_in (readings_of (history_of text)) ≡ history_on text
  history_says = of_written (λ t. events_in (readings_of t) ≡ history_on text) (plain_says history_plain)

  -- the history that is read in what is written
  abbrev pub read_in : History
  read_in = events_in (readings_of (history_of text))

  -- its order of commits names each job with a c once, and no other job
  pub history_commits_once : (distinct (commit_order read_in) ≡ true) × ((j : ℕ) → member j (commit_order read_in) ≡ marked is_commit j read_in)
  history_commits_once = (subst (λ h. distinct (commit_order h) ≡ true) (sym history_says) (serial_history started).commits_once, λ j. listed j read_in)

  -- DEMAND 2, OF TEXTS ALONE: whatever comes in, the history that is read in what `history` writes has a committed part that is conflict-equivalent to its jobs
  -- one after another in the order of their commits, and that order names each of them once
  pub history_serial : Equivalent (committed_part read_in) (serial (commit_order read_in) (committed_part read_in)) × (distinct (commit_order read_in) ≡ true) × ((j : ℕ) → member j (commit_order read_in) ≡ marked is_commit j read_in)
  history_serial = (subst (λ h. Equivalent (committed_part h) (serial (commit_order h) (committed_part h))) (sym history_says) (serial_history started).serial_by_commits, history_commits_once.0, history_commits_once.1)

  -- NEVER DIRTY, OF TEXTS ALONE: whatever comes in, the history that is read in what `history` writes is not dirty, nor is any part of it from its start on (02, No. 2)
  pub history_never_dirty : (x y : History) → read_in ≡ x ++ y → IsDirty x → ⊥
  history_never_dirty x y e = (serial_history started).never_dirty x y (sym history_says ∙ e)

  -- since every line is read back, the first faulty one, if there is one, is line 4,097 or is for a job outside 1 to 255
  pub history_fault : (n : ℕ) (why : Refusal) → FirstFault (readings_of (history_of text)) n why → (why ≡ TooManyLines) ⊎ (why ≡ JobOutside)
  history_fault n why = of_written (λ t. FirstFault (readings_of t) n why → (why ≡ TooManyLines) ⊎ (why ≡ JobOutside)) (plain_fault history_plain n why)

  -- and where the order buffer has its 255 places, the judge has no other refusal for it
  pub history_refused : (buffer : List ℕ) → 255 ≤ length buffer → (n : ℕ) (why : Refusal) → (judgement_of (history_of text) buffer).said ≡ No n why → (why ≡ TooManyLines) ⊎ (why ≡ JobOutside)
  history_refused buffer room n why = of_written (λ t. (judgement_of t buffer).said ≡ No n why → (why ≡ TooManyLines) ⊎ (why ≡ JobOutside)) (plain_refused history_plain buffer room n why)

  -- and the judge never says of it that it is dirty
  pub history_not_dirty : (buffer : List ℕ) (i j : ℕ) → (judgement_of (history_of text) buffer).said ≡ Dirty i j → ⊥
  history_not_dirty buffer i j = of_written (λ t. (judgement_of t buffer).said ≡ Dirty i j → ⊥) (plain_not_dirty history_plain clean buffer i j)

  -- nor does it ever find a knot in it
  pub history_no_knot : (buffer : List ℕ) (n : ℕ) → (judgement_of (history_of text) buffer).said ≡ Knot n → ⊥
  history_no_knot buffer n = of_written (λ t. (judgement_of t buffer).said ≡ Knot n → ⊥) (plain_no_knot history_plain (serial_history started).serializable buffer n)

  -- the judge's limits by what comes in alone: at most 255 begins that go, and at most 4,096 lines
  pub small_input : length (given_in (run_on text)) ≤ 255 → length (lines_of text) ≤ 4_096 → KeepsLimits (history_on text)
  small_input begun lines = record { jobs = λ j l. omega (arith, history_jobs text j l); events = omega (arith, history_no_longer text) }

  module _ (limits : KeepsLimits (history_on text)) where
    -- within the judge's limits no line of it is faulty
    pub history_faultless : AllFaultless (readings_of (history_of text))
    history_faultless = of_written (λ t. AllFaultless (readings_of t)) (plain_faultless history_plain limits)

    -- THE HISTORY IS ORDERLY: the judge says so, with the number of committed jobs
    pub history_orderly : (buffer : List ℕ) → 255 ≤ length buffer → (judgement_of (history_of text) buffer).said ≡ Orderly (length (commit_order (history_on text)))
    history_orderly buffer room =
        of_written (λ t. (judgement_of t buffer).said ≡ Orderly (length (commit_order (history_on text)))) (plain_orderly history_plain limits (serial_history started).serializable clean buffer room)

    -- and their serial order, smallest first, fills the buffer's first places
    pub history_order : (buffer : List ℕ) → 255 ≤ length buffer → InOrder (history_on text) buffer (judgement_of (history_of text) buffer).order (length (commit_order (history_on text)))
    history_order buffer room =
        of_written (λ t. InOrder (history_on text) buffer (judgement_of t buffer).order (length (commit_order (history_on text)))) (plain_order history_plain limits (serial_history started).serializable clean buffer room)

    -- it is no longer than the verdict program reads
    pub history_fits : length (history_of text) ≤ 65_536
    history_fits = of_written (λ t. length t ≤ 65_536) (plain_fits history_plain limits)

    -- THE VERDICT ON IT: the program `verdict` prints `orderly` and the order that takes at each place the smallest number whose predecessors all stand already, a tab before each job
    pub history_verdict : (order : List ℕ) × SmallestFirst (edge (committed_part (history_on text))) (jobs_of (history_on text)) order
        × (verdict_of (history_of text) ≡ 111 ∷ 114 ∷ 100 ∷ 101 ∷ 114 ∷ 108 ∷ 121 ∷ joined (map (λ j. 9 ∷ decimal j) order) ++ 10 ∷ [])
    history_verdict =
        of_written (λ t. (order : List ℕ) × SmallestFirst (edge (committed_part (history_on text))) (jobs_of (history_on text)) order × (verdict_of t ≡ 111 ∷ 114 ∷ 100 ∷ 101 ∷ 114 ∷ 108 ∷ 121 ∷ joined (map (λ j. 9 ∷ decimal j) order) ++ 10 ∷ []))
        (plain_verdict history_plain limits (serial_history started).serializable clean)
