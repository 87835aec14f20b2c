-- A history as text: how its lines read, the first faulty one with its refusal, and the events that faultless lines say (01, Refusals by number; 01, Lines).
use Rattle.std.specs.Prelude.{ℕ, suc, ◌-◌, ◌&&◌, ◌||◌, List, [], ◌∷◌, ◌++◌, map, eqb, ltb, leb, get_or, Option, None, Some, Err, Ok}
use Rattle.laws.specs.Choice.{pick}
use Rattle.laws.specs.Lists.{member}
use Rattle.terms.specs.declared.letters.Letter.{Letter}
use Rattle.terms.specs.declared.letters.Letter.TheVariants.{Begin, Commit, GiveUp, Retry, Back, Asks}
use Rattle.terms.specs.declared.refusals.Refusal.{Refusal}
use Rattle.terms.specs.declared.refusals.Refusal.TheVariants.{CellAbove, TooManyLines, JobOutside, Ended}
use Rattle.terms.specs.Letters.{of_histories, has_cell}
use Rattle.terms.specs.Limits.{cells, judged_jobs, judged_lines}
use Rattle.terms.specs.Words.{newline}
use Rattle.conflict.specs.declared.action.Mark.TheVariants.{Commit as commits, GiveUp as gives_up, Back as goes_back}
use Rattle.conflict.specs.declared.action.Event.TheVariants.{Does, Ends}
use Rattle.conflict.specs.Modes.{recorded}
use Rattle.conflict.specs.History.{History}
use Rattle.text_rules.specs.Lines.{refusal_of, read_line, Reading}
use Rattle.text_rules.specs.Split.{lines_of}
use Rattle.judge_rules.specs.LineTable.{FirstFault, AllFaultless}

-- how the reader reads each line of a history text; everything about the lines is said of these readings (01, Lines)
unfoldable pub readings_of : List ℕ → List Reading
readings_of text = map (read_line of_histories) (lines_of text)

-- line n as it stands, numbered from 1
abbrev pub line_at : List (List ℕ) → ℕ → List ℕ
line_at ls n = get_or ls (n - 1) []

-- the fault of a good line, given the jobs that have committed or given up: 12, then 2, then 13 (01, Refusals by number)
unfoldable pub fault_of_good : List ℕ → Letter → ℕ → ℕ → Option Refusal
fault_of_good ended l job cell =
    pick (eqb job 0 || ltb judged_jobs job) (Some JobOutside)
    (pick (has_cell l && leb cells cell) (Some CellAbove) (pick (member job ended) (Some Ended) None))

-- the fault of a line, given how it reads: 9 if it is bad, at the field that the reader tells (02, No. 5)
unfoldable pub fault_of : List ℕ → Reading → Option Refusal
fault_of ended (Err at) = refusal_of (Err at)
fault_of ended (Ok line) = fault_of_good ended line.letter line.job line.cell

-- the fault of line n: 11 if it is line 4,097, before anything else on it
unfoldable pub line_fault : ℕ → List ℕ → Reading → Option Refusal
line_fault n ended r = pick (ltb judged_lines n) (Some TooManyLines) (fault_of ended r)

-- the jobs that have committed or given up, after one more good line of this letter and job
abbrev pub ended_by : List ℕ → Letter → ℕ → List ℕ
ended_by ended Begin job = ended
ended_by ended Commit job = job ∷ ended
ended_by ended GiveUp job = job ∷ ended
ended_by ended Retry job = ended
ended_by ended Back job = ended
ended_by ended (Asks a) job = ended

-- the same, by how the line reads
unfoldable pub ended_after : List ℕ → Reading → List ℕ
ended_after ended (Err at) = ended
ended_after ended (Ok line) = ended_by ended line.letter line.job

-- a faulty line: its number from 1, and its refusal
pub record Faulty : Type 0 where
  pub number : ℕ
  pub why : Refusal

-- the fault of this line if it has one, else what the lines after it say
unfoldable pub or_later : Option Refusal → ℕ → Option Faulty → Option Faulty
or_later None n later = later
or_later (Some why) n later = Some (record { number = n; why = why })

-- lines in order, and the first faulty line decides (01, Refusals by number)
unfoldable pub first_faulty : ℕ → List ℕ → List Reading → Option Faulty
first_faulty n ended [] = None
first_faulty n ended (r ∷ rs) =
    let later = first_faulty (suc n) (ended_after ended r) rs in
    or_later (line_fault n ended r) n later

-- the event that a good line says, by its letter, job and cell: an action, or the end of a run
abbrev pub event_with : Letter → ℕ → ℕ → History
event_with Begin job cell = []
event_with Commit job cell = Ends commits job ∷ []
event_with GiveUp job cell = Ends gives_up job ∷ []
event_with Retry job cell = []
event_with Back job cell = Ends goes_back job ∷ []
event_with (Asks a) job cell = Does (record { kind = recorded a; job = job; cell = cell }) ∷ []

-- the event that a line says, if it is good
unfoldable pub event_of : Reading → History
event_of (Err at) = []
event_of (Ok line) = event_with line.letter line.job line.cell

-- the history that lines say
unfoldable pub events_in : List Reading → History
events_in [] = []
events_in (r ∷ rs) = event_of r ++ events_in rs

-- a line without its newline (01, Lines: the line handed back)
unfoldable pub bare : List ℕ → List ℕ
bare [] = []
bare (b ∷ l) = pick (eqb b newline) [] (b ∷ bare l)

-- what is found agrees with the table: the first faulty line, or that there is none
abbrev pub Tells : List Reading → Option Faulty → Type 0
Tells rs None = AllFaultless rs
Tells rs (Some f) = FirstFault rs f.number f.why
