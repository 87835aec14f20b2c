-- What stands in a history, and the lock that an action is done under (01, Lines; 01, The desk's rules; demand 2).
use Rattle.std.specs.Prelude.{ℕ, ◌+◌, ◌≡◌, ◌≢◌, true, [], ◌∷◌, eqb, Some}
use Rattle.laws.specs.Choice.{pick}
use Rattle.terms.specs.declared.letters.Ask.{Ask}
use Rattle.terms.specs.declared.letters.Letter.TheVariants.{Asks}
use Rattle.terms.specs.Letters.{letter_of}
use Rattle.conflict.specs.declared.action.Action.{Action}
use Rattle.conflict.specs.declared.action.Event.TheVariants.{Does, Ends}
use Rattle.conflict.specs.Modes.{needed, recorded, covers, beside, lets}
use Rattle.conflict.specs.History.{History}
use Rattle.desks.specs.Request.{Request}
use Rattle.desk_rules.specs.Desk.{waiting, Desk}

-- the request that an action of a step was asked by: the step's own, or, for a wake, the one that its job waits with
pub data AskedBy (d : Desk) (r : Request) (x : Action) (a : Ask) : Type 0 where
  request : letter_of r.kind ≡ Some (Asks a) → x.job ≡ r.job → x.cell ≡ r.cell → AskedBy d r x a
  waiter : d.stat x.job ≡ waiting x.cell a → AskedBy d r x a

-- an action asked with a is done under a lock: its job holds on its cell a mode that covers its need, lets it be done, and may stand beside every other job's (01, The desk's rules)
pub record UnderLock (d : Desk) (x : Action) (a : Ask) : Type 0 where
  pub kind : x.kind ≡ recorded a
  pub covered : covers ((d.row x.cell).held x.job) (needed a) ≡ true
  pub lawful : lets ((d.row x.cell).held x.job) x.kind ≡ true
  pub besides : (i : ℕ) → i ≢ x.job → beside ((d.row x.cell).held i) ((d.row x.cell).held x.job) ≡ true

-- how many records of a job a history has
unfoldable pub records_for : ℕ → History → ℕ
records_for j [] = 0
records_for j (Does x ∷ h) = pick (eqb x.job j) 1 0 + records_for j h
records_for j (Ends m i ∷ h) = pick (eqb i j) 1 0 + records_for j h
