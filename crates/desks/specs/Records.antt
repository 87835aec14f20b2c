-- What the history records of a step, by its request, its answer and its wakes: the same for every desk (01, Lines).
use Rattle.std.specs.Prelude.{ℕ, List, [], ◌∷◌, ◌++◌, Option, None, Some}
use Rattle.terms.specs.declared.letters.Letter.{Letter}
use Rattle.terms.specs.declared.letters.Letter.TheVariants.{Begin, Commit as commits, GiveUp as gives_up, Retry, Back as no-request, Asks}
use Rattle.terms.specs.Letters.{letter_of}
use Rattle.conflict.specs.declared.action.Action.{Action}
use Rattle.conflict.specs.declared.action.Mark.TheVariants.{Commit, GiveUp, Back}
use Rattle.conflict.specs.declared.action.Event.TheVariants.{Does, Ends}
use Rattle.conflict.specs.Modes.{recorded}
use Rattle.conflict.specs.History.{History}
use Rattle.desks.specs.declared.Answer.{Answer}
use Rattle.desks.specs.declared.Answer.TheVariants.{Go, Wait, Back as sent_back, No}
use Rattle.desks.specs.Request.{Request}
use Rattle.desks.specs.Stepping.{Stepping}

-- what the history records for a request that goes: an action when it is granted, c and a when given; begin and retry write none (01, Lines)
unfoldable pub went_by : Request → ℕ → Option Letter → History
went_by r j None = []
went_by r j (Some no-request) = []
went_by r j (Some Begin) = []
went_by r j (Some commits) = Ends Commit j ∷ []
went_by r j (Some gives_up) = Ends GiveUp j ∷ []
went_by r j (Some Retry) = []
went_by r j (Some (Asks a)) = Does (record { kind = recorded a; job = j; cell = r.cell }) ∷ []

-- what the history records for a request and its answer: k for a sending back, none for a wait or a refusal (01, Lines)
unfoldable pub own_records : Request → Answer → History
own_records r (Go j) = went_by r j (letter_of r.kind)
own_records r (Wait j) = []
own_records r (sent_back j) = Ends Back j ∷ []
own_records r (No why) = []

-- a granted action for each wake
unfoldable pub wake_records : List Action → History
wake_records [] = []
wake_records (a ∷ rest) = Does a ∷ wake_records rest

-- the history records of a step: its own record first, c, a and k among them, and then one for each wake (01, Lines)
unfoldable pub records_of : Request → Answer → List Action → History
records_of r said wakes = own_records r said ++ wake_records wakes

-- the history records of a step on any desk
unfoldable pub records_by : {S : Type 0} → Stepping S → S → Request → History
records_by step d r = records_of r (step d r).said (step d r).wakes
