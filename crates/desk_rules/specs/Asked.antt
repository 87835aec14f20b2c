-- A running job asks for a cell: what rules 2 and 3 look at; and the fields of a request that its kind uses (01, rules 2 and 3; 01, Refusals by number).
use Rattle.std.specs.Prelude.{ℕ, ◌<◌, ◌≡◌, ◌≢◌, true, false, List, Some}
use Rattle.terms.specs.declared.letters.Ask.{Ask}
use Rattle.terms.specs.declared.letters.Letter.TheVariants.{Asks}
use Rattle.terms.specs.Letters.{letter_of}
use Rattle.terms.specs.Limits.{cells}
use Rattle.conflict.specs.declared.modes.Mode.{Mode}
use Rattle.conflict.specs.Modes.{needed, covers, grants, asked, is_free}
use Rattle.desks.specs.Request.{Request}
use Rattle.laws.specs.Standing.{In}
use Rattle.desk_rules.specs.Desk.{running, Waiter, Desk}
use Rattle.desk_rules.specs.Locks.{older_than_holders, older_than_waiters}

-- a running job asks for a cell from 0 to 63
pub record Asking (d : Desk) (r : Request) (a : Ask) : Type 0 where
  pub letter : letter_of r.kind ≡ Some (Asks a)
  pub runs : d.stat r.job ≡ running
  pub within : r.cell < cells

-- a job older than the asking one stands in its way: a holder, or, for a job new to the cell, a waiter
pub data Elder (d : Desk) (j c : ℕ) : Type 0 where
  holder : older_than_holders d.jobs (d.row c).held j ≡ false → Elder d j c
  waiter : is_free ((d.row c).held j) ≡ true → older_than_waiters (d.row c).queue j ≡ false → Elder d j c

-- what each job holds of the cell that a request names
abbrev pub held_there : Desk → Request → ℕ → Mode
held_there d r = (d.row r.cell).held

-- what the request's own job holds of it
abbrev pub own_mode : Desk → Request → Mode
own_mode d r = held_there d r r.job

-- the mode that the request's job asks for there (01, rules 2 and 3; 02, No. 1)
abbrev pub asked_there : Desk → Request → Ask → Mode
asked_there d r a = asked (own_mode d r) (needed a)

-- the request's job with what it asks, as it stands in a queue
abbrev pub asker : Request → Ask → Waiter
asker r a = record { job = r.job; ask = a }

-- the queue of that cell
abbrev pub queue_there : Desk → Request → List Waiter
queue_there d r = (d.row r.cell).queue

-- a holder of the cell other than the request's job
pub record OtherHolder (d : Desk) (r : Request) (i : ℕ) : Type 0 where
  pub other : i ≢ r.job
  pub holds : is_free (held_there d r i) ≡ false

-- another holder of the cell whose mode does not let the mode asked for be granted
pub record Opposed (d : Desk) (r : Request) (m : Mode) (i : ℕ) : Type 0 where
  pub holder : OtherHolder d r i
  pub disagrees : grants (held_there d r i) m ≡ false

-- the job asks for a promotion: it holds the cell, but not in a mode that covers its need
pub record Promotes (d : Desk) (r : Request) (a : Ask) : Type 0 where
  pub asking : Asking d r a
  pub holds : is_free (own_mode d r) ≡ false
  pub not_covered : covers (own_mode d r) (needed a) ≡ false

-- the job does not hold the cell
pub record Enters (d : Desk) (r : Request) (a : Ask) : Type 0 where
  pub asking : Asking d r a
  pub holds_nothing : is_free (own_mode d r) ≡ true

-- a job new to the cell cannot have it at once: some job waits for it, or some job holds it in a mode that does not agree
pub data Hindered (d : Desk) (r : Request) (a : Ask) : Type 0 where
  waits_already : (w : Waiter) → In w (queue_there d r) → Hindered d r a
  disagrees : (i : ℕ) → Opposed d r (needed a) i → Hindered d r a
