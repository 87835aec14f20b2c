-- What a line's answer records show, and what its history records show: grants to jobs, and ends of their runs (01, Lines).
use Rattle.std.specs.Prelude.{ℕ, List, [], ◌∷◌, ◌++◌, Option, None, Some}
use Rattle.terms.specs.declared.letters.Letter.{Letter}
use Rattle.terms.specs.declared.letters.Letter.TheVariants.{Begin, Commit as commit, GiveUp as give-up, Retry, Back as no-request, Asks}
use Rattle.terms.specs.Letters.{letter_of}
use Rattle.conflict.specs.declared.action.Action.{Action}
use Rattle.conflict.specs.declared.action.Mark.{Mark}
use Rattle.conflict.specs.declared.action.Mark.TheVariants.{Commit, GiveUp, Back}
use Rattle.conflict.specs.declared.action.Event.TheVariants.{Does, Ends}
use Rattle.conflict.specs.History.{History}
use Rattle.desks.specs.declared.Answer.{Answer}
use Rattle.desks.specs.declared.Answer.TheVariants.{Go, Wait, Back as goes_back, No}
use Rattle.desks.specs.Records.{records_of}
use Rattle.desks.specs.Requests.{given_by}
use Rattle.program_rules.specs.OverLines.{Told}
use Rattle.program_rules.specs.Programs.{run_on}

-- a job was granted a read, write, increment or u, or its run ended by a commit, a give-up or being sent back
pub data Shown : Type 0 where
  granted : ℕ → Shown
  ended : Mark → ℕ → Shown

-- a go shows a grant if the request is a read, write, increment or u, and an end if it is a commit or a give-up
unfoldable pub go_shows : ℕ → Option Letter → List Shown
go_shows j None = []
go_shows j (Some no-request) = []
go_shows j (Some Begin) = []
go_shows j (Some commit) = ended Commit j ∷ []
go_shows j (Some give-up) = ended GiveUp j ∷ []
go_shows j (Some Retry) = []
go_shows j (Some (Asks a)) = granted j ∷ []

-- a back shows an end; a wait and a refusal show nothing
unfoldable pub answer_shows : Option Letter → Answer → List Shown
answer_shows l (Go j) = go_shows j l
answer_shows l (Wait j) = []
answer_shows l (goes_back j) = ended Back j ∷ []
answer_shows l (No why) = []

-- each wake shows a grant
unfoldable pub wakes_show : List Action → List Shown
wakes_show [] = []
wakes_show (a ∷ rest) = granted a.job ∷ wakes_show rest

-- the answer records of a line, in order
unfoldable pub answers_show : Told → List Shown
answers_show t = answer_shows (letter_of t.request.kind) t.said ++ wakes_show t.wakes

-- the answer records of a run
unfoldable pub answers_show_all : List Told → List Shown
answers_show_all [] = []
answers_show_all (t ∷ ts) = answers_show t ++ answers_show_all ts

-- each record of a history shows a grant or an end
unfoldable pub history_shows : History → List Shown
history_shows [] = []
history_shows (Does a ∷ h) = granted a.job ∷ history_shows h
history_shows (Ends m j ∷ h) = ended m j ∷ history_shows h

-- the history of a run
unfoldable pub history_of_run : List Told → History
history_of_run [] = []
history_of_run (t ∷ ts) = records_of t.request t.said t.wakes ++ history_of_run ts

-- the numbers that a run gives: one for each begin that goes (01, Jobs and their numbers)
unfoldable pub given_in : List Told → List ℕ
given_in [] = []
given_in (t ∷ ts) = given_by t.request t.said ++ given_in ts

-- the history of the run of a text on a fresh desk: the program `history` writes it as text
abbrev pub history_on : List ℕ → History
history_on text = history_of_run (run_on text)
