-- The judge on any lines kept as numbers: what the table says of the buffer, then of the lines in order, else the verdict (01, Refusals by number).
use Rattle.std.specs.Prelude.{ℕ, suc, ◌<◌, ◌≡◌, Bool, false, not, ◌&&◌, List, [], ◌∷◌, ◌++◌, ltb, leb, length, get_or, Result, Ok, Err, Option, None, Some}
use Rattle.laws.specs.Choice.{pick}
use Rattle.terms.specs.declared.refusals.Refusal.{Refusal}
use Rattle.terms.specs.declared.refusals.Refusal.TheVariants.{CellAbove, TooManyLines, JobOutside, Ended, ShortOrder}
use Rattle.terms.specs.Limits.{cells, judged_jobs, judged_lines}
use Rattle.conflict.specs.declared.action.Mark.{Mark}
use Rattle.conflict.specs.declared.action.Event.{Event}
use Rattle.conflict.specs.declared.action.Event.TheVariants.{Does, Ends}
use Rattle.conflict.specs.History.{History, is_back, marked}
use Rattle.conflict.specs.Dirty.{dirty_of}
use Rattle.judge_rules.specs.declared.verdict.Verdict.TheVariants.{No}
use Rattle.judge_rules.specs.Judgement.{Judgement, say_history}
use Rattle.judge_rules.specs.Arrays.{event_by, history_by}
use Rattle.judge_core.specs.declared.kept.FaultyLine.{FaultyLine}
use Rattle.judge_core.specs.Sizes.{slots}

-- the job of a line
unfoldable pub job_of : Event → ℕ
job_of (Does a) = a.job
job_of (Ends m j) = j

-- whether the line has a cell above 63; only actions have a cell (01, refusal 2)
unfoldable pub above : Event → Bool
above (Does a) = leb cells a.cell
above (Ends m j) = false

-- whether the mark ends its job for good: a commit or a give-up (01, refusal 13)
unfoldable pub ends_job : Mark → Bool
ends_job m = not (is_back m)

-- the fault of line n, given the lines before it: 11, then 12, 2, 13; 9 cannot occur, since any three numbers are a line (01, Refusals by number)
unfoldable pub event_fault : ℕ → History → Event → Option Refusal
event_fault n before e =
    pick (ltb judged_lines n) (Some TooManyLines)
    (pick (not (leb 1 (job_of e) && leb (job_of e) judged_jobs)) (Some JobOutside)
    (pick (above e) (Some CellAbove) (pick (marked ends_job (job_of e) before) (Some Ended) None)))

-- what is found in lines: nothing, or the first faulty one
abbrev pub Found : Type 0
Found = Result (Unit {0}) FaultyLine

-- this line's fault with its number, if it has one, else what is found in the lines after it
unfoldable pub or_later : Option Refusal → ℕ → Found → Found
or_later None n later = later
or_later (Some why) n later = Err (record { line = n; why = why })

-- the lines in order, from line n on; the first faulty line decides (01, Refusals by number)
unfoldable pub first_fault : ℕ → History → History → Found
first_fault n before [] = Ok tt
first_fault n before (e ∷ h) =
    let later = first_fault (suc n) (before ++ e ∷ []) h in
    or_later (event_fault n before e) n later

-- a refusal with its line number; the buffer is unchanged
unfoldable pub refused_at : List ℕ → ℕ → Refusal → Judgement
refused_at buffer line why = record { said = No line why; order = buffer; line = [] }

-- the first faulty line's refusal, or the verdict on the history
unfoldable pub say_found : List ℕ → History → Found → Judgement
say_found buffer h (Ok all) = say_history buffer h (dirty_of h)
say_found buffer h (Err faulty) = refused_at buffer faulty.line faulty.why

-- the judgement on the first n lines: 14 first, with line number 0; then the lines in order
unfoldable pub kept_judgement : List ℕ → List ℕ → List ℕ → List ℕ → ℕ → Judgement
kept_judgement codes jobs cells buffer n =
    pick (ltb (length buffer) judged_jobs) (refused_at buffer 0 ShortOrder)
    (say_found buffer (history_by codes jobs cells n) (first_fault 1 [] (history_by codes jobs cells n)))

-- the event of line p
unfoldable pub event_at : List ℕ → List ℕ → List ℕ → ℕ → Event
event_at codes jobs cells p = event_by (get_or codes p 0) (get_or jobs p 0) (get_or cells p 0)

-- the flags of jobs 0 to 255 say which have committed or given up
pub record Flagged (flags : List Bool) (h : History) : Type 0 where
  pub wide : length flags ≡ slots
  pub says : (j : ℕ) → j < slots → get_or flags j false ≡ marked ends_job j h
