-- A call on a desk that is lent to the library, and what it means that the call tells, in numbers, what a step by value gives, or what the paper's desk says (02, No. 7). Calls one after another are those of `Rattle.lent.specs.Calls`.
use Rattle.std.specs.Prelude.{◌≡◌, List, [], ◌∷◌, length}
use Rattle.conflict.specs.declared.action.Action.{Action}
use Rattle.desks.specs.declared.Answer.{Answer}
use Rattle.desks.specs.Request.{Request}
use Rattle.desk_arrays.specs.declared.state.Desk.{Desk}
use Rattle.desk_arrays.specs.declared.state.Outcome.{Outcome}
use Rattle.desk_arrays.specs.Steps as locks
use Rattle.desk_arrays.specs.Stands.{wakes_told}
use Rattle.stamp_arrays.specs.declared.state.Stamps.{Stamps}
use Rattle.stamp_arrays.specs.declared.state.Stamped.{Stamped}
use Rattle.stamp_arrays.specs.Steps as stamps
use Rattle.tuyenlomac.specs.declared.answers.Answered.{Answered}
use Rattle.tuyenlomac.specs.Numbers.{in_three}
use Rattle.tuyenlomac.specs.Desks.{Lists, wakes_in}

-- the result of a call on a lock desk: the desk that it leaves, the lists lent for the wakes before and after, and the answer
pub record LocksCall : Type 0 where
  pub desk : Desk
  pub lent : Lists
  pub told : Lists
  pub answer : Answered

-- these four as one record
abbrev pub locks_call : Desk → Lists → Lists → Answered → LocksCall
locks_call after lent told r = record { desk = after; lent = lent; told = told; answer = r }

-- it tells, in numbers, what a step by value gives: the same desk, the answer, and the wakes in the lists
pub record TellsLocks (o : Outcome) (k : LocksCall) : Type 0 where
  pub desk : k.desk ≡ o.desk
  pub answer : k.answer ≡ in_three o.said.answer o.said.count
  pub wakes : k.told ≡ wakes_in (wakes_told o.said) k.lent

-- a call that finds the desk d and gets request r tells what the step by value gives
abbrev pub OnLocks : Desk → Request → LocksCall → Type 0
OnLocks d r = TellsLocks (locks.step_of d r.kind r.job r.cell)

-- the result of a call on a timestamp desk; no job wakes there
pub record StampsCall : Type 0 where
  pub desk : Stamps
  pub answer : Answered

-- both as one record
abbrev pub stamps_call : Stamps → Answered → StampsCall
stamps_call after r = record { desk = after; answer = r }

-- it tells, in numbers, what a step by value gives
pub record TellsStamps (o : Stamped) (k : StampsCall) : Type 0 where
  pub desk : k.desk ≡ o.stamps
  pub answer : k.answer ≡ in_three o.answer 0

-- the same for a call that finds the timestamp desk d and gets request r
abbrev pub OnStamps : Stamps → Request → StampsCall → Type 0
OnStamps d r = TellsStamps (stamps.step_of d r.kind r.job r.cell)

-- a call on a lock desk says, in numbers, an answer with wakes: the answer, how many jobs wake, and the wakes in the lists
pub record SaysLocks (a : Answer) (ws : List Action) (k : LocksCall) : Type 0 where
  pub answer : k.answer ≡ in_three a (length ws)
  pub wakes : k.told ≡ wakes_in ws k.lent

-- and a call on a timestamp desk, which has no lists
abbrev pub SaysStamps : Answer → List Action → StampsCall → Type 0
SaysStamps a ws k = k.answer ≡ in_three a (length ws)

-- each call of a list tells what the step in its turn gives
pub data Each {O K : Type 0} (tells : O → K → Type 0) : List O → List K → Type 0 where
  none_left : Each tells [] []
  one_more : {o : O} {k : K} {os : List O} {ks : List K} → tells o k → Each tells os ks → Each tells (o ∷ os) (k ∷ ks)
