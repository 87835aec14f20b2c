-- What holds for every started desk: for each row, and for the desk as a whole. It is stated here; the files that cite it prove that every step keeps it.
use Rattle.std.specs.Prelude.{ℕ, ◌<◌, ◌≡◌, ◌≢◌, true, false, List, [], ◌∷◌, length}
use Rattle.terms.specs.declared.letters.Ask.{Ask}
use Rattle.terms.specs.Limits.{cells, places}
use Rattle.conflict.specs.declared.modes.Mode.{Mode}
use Rattle.conflict.specs.Modes.{needed, covers, beside, grants, is_free}
use Rattle.laws.specs.Lists.{member}
use Rattle.laws.specs.Standing.{In}
use Rattle.desk_rules.specs.Desk.{Status, closed, waiting, Waiter, Row, Desk, is_open, is_live}
use Rattle.desk_rules.specs.Locks.{wants}
use Rattle.desks.specs.Places.{Once}

-- the queue runs from younger to older
abbrev pub Falling : List Waiter → Type 0
Falling [] = Unit {0}
Falling (w ∷ q) = ((v : Waiter) → In v q → v.job < w.job) × Falling q

-- the first waiter, if there is one, has a job in its way: another job whose mode does not grant what it wants
abbrev pub FirstBlocked : (ℕ → Mode) → List Waiter → Type 0
FirstBlocked held [] = Unit {0}
FirstBlocked held (w ∷ q) = (i : ℕ) × (i ≢ w.job) × (grants (held i) (wants held w) ≡ false)

-- for one cell
pub record RowInv (stat : ℕ → Status) (c : ℕ) (r : Row) : Type 0 where
  -- modes held by different jobs may be held together
  pub pairs : (i j : ℕ) → i ≢ j → beside (r.held i) (r.held j) ≡ true
  -- a waiter is older than every other holder
  pub elder : (w : Waiter) (i : ℕ) → In w r.queue → i ≢ w.job → is_free (r.held i) ≡ false → w.job < i
  pub down : Falling r.queue
  pub blocked : FirstBlocked r.held r.queue
  -- a waiter does not hold what it waits for
  pub lacks : (w : Waiter) → In w r.queue → covers (r.held w.job) (needed w.ask) ≡ false
  -- a waiter's status agrees: it waits for this cell with this ask
  pub stands : (w : Waiter) → In w r.queue → stat w.job ≡ waiting c w.ask
  -- a holder is live
  pub holds : (j : ℕ) → is_free (r.held j) ≡ false → is_live (stat j) ≡ true
  -- only cells 0 to 63 have waiters
  pub within : (w : Waiter) → In w r.queue → c < cells

-- for the desk
pub record Inv (d : Desk) : Type 0 where
  pub rows : (c : ℕ) → RowInv d.stat c (d.row c)
  -- a job's status is waiting for a cell exactly if it stands in that queue
  pub queues : (j c : ℕ) (a : Ask) → d.stat j ≡ waiting c a → In (record { job = j; ask = a }) (d.row c).queue
  -- the open jobs are those in the places
  pub seats : (j : ℕ) → is_open (d.stat j) ≡ true → member j d.jobs ≡ true
  pub opens : (j : ℕ) → j ≢ 0 → member j d.jobs ≡ true → is_open (d.stat j) ≡ true
  pub nobody : d.stat 0 ≡ closed
  pub once : Once d.jobs
  pub size : length d.jobs ≡ places
  -- every open job's number was given
  pub below : (j : ℕ) → is_open (d.stat j) ≡ true → j < d.next
  pub some : 0 < d.next
