-- Calls on one lent desk of either kind: each call finds the desk as the call before left it (02, No. 7).
use Rattle.std.specs.Prelude.{◌≡◌, List, [], ◌∷◌, ◌++◌}
use Rattle.conflict.specs.History.{History}
use Rattle.desks.specs.Request.{Request}
use Rattle.desks.specs.Stepping.{Stepped, Stepping, through}
use Rattle.desks.specs.Records.{records_of}
use Rattle.desks.specs.Requests.{writes}
use Rattle.desks.specs.Told.{Said, step_told, answers_of}

-- the calls, one after another: `call d r o` says that a call that finds desk d and request r may give o; the next call finds the desk that o leaves
pub data Lent {S O : Type 0} (leaves : O → S) (call : S → Request → O → Type 0) : S → List Request → List O → Type 0 where
  over : (d : S) → Lent leaves call d [] []
  next : {d : S} {r : Request} {o : O} {rs : List Request} {os : List O} → call d r o → Lent leaves call (leaves o) rs os → Lent leaves call d (r ∷ rs) (o ∷ os)

-- the desk after all calls, from what each call left
unfoldable pub left_by : {S : Type 0} → S → List (Stepped S) → S
left_by d [] = d
left_by d (o ∷ os) = left_by o.desk os

-- the answers, each with its wakes behind it, from what each call told
unfoldable pub answers_by : {S : Type 0} → List (Stepped S) → List Said
answers_by [] = []
answers_by (o ∷ os) = step_told o.said o.wakes ++ answers_by os

-- the history, from what each call was asked and told (01, Lines)
unfoldable pub wrote_by : {S : Type 0} → List Request → List (Stepped S) → History
wrote_by [] os = []
wrote_by (r ∷ rs) [] = []
wrote_by (r ∷ rs) (o ∷ os) = records_of r o.said o.wakes ++ wrote_by rs os

-- what a desk's steps leave and tell for these requests, one after another
unfoldable pub steps_of : {S : Type 0} → Stepping S → S → List Request → List (Stepped S)
steps_of step d [] = []
steps_of step d (r ∷ rs) = step d r ∷ steps_of step (step d r).desk rs

-- the calls have the result of the steps, for the same requests: each call leaves, answers and wakes the same, and so desk, answers and history are the same
pub record AsSteps {S : Type 0} (step : Stepping S) (d : S) (rs : List Request) (os : List (Stepped S)) : Type 0 where
  pub each : os ≡ steps_of step d rs
  pub desk : left_by d os ≡ through step d rs
  pub answers : answers_by os ≡ answers_of step d rs
  pub history : wrote_by rs os ≡ writes step d rs
