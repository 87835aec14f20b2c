-- For a faultless text, dirty is said with a reader and a writer exactly if they are those of the first dirty read by runs and of the latest line that makes it dirty (02, No. 2).
-- Assumes nothing.
use Prim.Native.Nat.{ℕ, ◌≤◌}
use mathlib.Core.Path.{◌≡◌}
use mathlib.Core.Logic.{◌↔◌}
use mathlib.Core.List.{List}
use lib.ListN.{length}
use Rattle.conflict.specs.DirtyRuns.{FirstByRuns}
use Rattle.conflict.proofs.DirtyRuns.{first_by_runs}
use Rattle.judge_rules.specs.declared.verdict.Verdict.TheVariants.{Dirty}
use Rattle.judge_rules.specs.HistoryText.{readings_of, events_in}
use Rattle.judge_rules.specs.Judgement.{judgement_of}
use Rattle.judge_rules.specs.LineTable.{AllFaultless}
use Rattle.judge_rules.proofs.JudgedTexts.{dirty_said_exactly}

-- DIRTY BY RUNS: it is said with this reader and this writer exactly if the runs of the history that the lines say have them
pub dirty_told_by_runs : (text buffer : List ℕ) → 255 ≤ length buffer → AllFaultless (readings_of text) → (i j : ℕ) → ((judgement_of text buffer).said ≡ Dirty i j) ↔ FirstByRuns (events_in (readings_of text)) i j
dirty_told_by_runs text buffer room all i j =
    let said = dirty_said_exactly text buffer room all i j in
    let runs = first_by_runs (events_in (readings_of text)) i j in
    (λ e. runs.0 (said.0 e), λ f. said.1 (runs.1 f))
