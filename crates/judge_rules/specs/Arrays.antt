-- A faultless history as the judge keeps it: three numbers for each line (what it says, the job, the cell).
use Rattle.std.specs.Prelude.{ℕ, zero, suc, List, [], ◌∷◌, ◌++◌, eqb, get_or}
use Rattle.laws.specs.Choice.{pick}
use Rattle.conflict.specs.declared.action.Kind.TheVariants.{Read, Write, Increment}
use Rattle.conflict.specs.declared.action.Mark.TheVariants.{Commit, GiveUp, Back}
use Rattle.conflict.specs.declared.action.Event.{Event}
use Rattle.conflict.specs.declared.action.Event.TheVariants.{Does, Ends}
use Rattle.conflict.specs.History.{History}

-- the event that a number stands for: 0 read, 1 write, 2 increment, 3 commit, 4 give-up, any other sent back
unfoldable pub event_by : ℕ → ℕ → ℕ → Event
event_by code job cell =
    pick (eqb code 0) (Does (record { kind = Read; job = job; cell = cell }))
    (pick (eqb code 1) (Does (record { kind = Write; job = job; cell = cell }))
    (pick (eqb code 2) (Does (record { kind = Increment; job = job; cell = cell }))
    (pick (eqb code 3) (Ends Commit job) (pick (eqb code 4) (Ends GiveUp job) (Ends Back job)))))

-- the history of the first n lines kept
unfoldable pub history_by : List ℕ → List ℕ → List ℕ → ℕ → History
history_by codes jobs cells zero = []
history_by codes jobs cells (suc n) = history_by codes jobs cells n ++ event_by (get_or codes n 0) (get_or jobs n 0) (get_or cells n 0) ∷ []
