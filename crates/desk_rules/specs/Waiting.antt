-- Waiting: which jobs are in a waiter's way, chains of waits, and what it means to go on waiting for the same request, and to be served (demand 3).
use Rattle.std.specs.Prelude.{ℕ, ◌<◌, ◌≤◌, zero, suc, ◌+◌, ◌≡◌, ◌≢◌, true, false, List, [], ◌∷◌, ◌++◌, length, Some}
use Rattle.terms.specs.declared.letters.Ask.{Ask}
use Rattle.terms.specs.declared.letters.Letter.TheVariants.{GiveUp}
use Rattle.terms.specs.Letters.{letter_of}
use Rattle.terms.specs.Limits.{cells}
use Rattle.conflict.specs.declared.modes.Mode.{Mode}
use Rattle.conflict.specs.Modes.{needed, covers, is_free}
use Rattle.laws.specs.Lists.{member, distinct}
use Rattle.conflict.specs.Runs.{ended}
use Rattle.desks.specs.Request.{Request}
use Rattle.laws.specs.Standing.{In}
use Rattle.desk_rules.specs.Desk.{running, waiting, Waiter, Row, Desk, is_open, is_live}
use Rattle.desk_rules.specs.Locks.{wants}
use Rattle.desk_rules.specs.Rules.{Outcome, wake}
use Rattle.desks.specs.Course.{now}
use Rattle.desk_rules.specs.Course.{Course}

-- v stands ahead of w in the queue
pub data Ahead (v w : Waiter) : List Waiter → Type 0 where
  in_front : {q : List Waiter} → In w q → Ahead v w (v ∷ q)
  further : {u : Waiter} {q : List Waiter} → Ahead v w q → Ahead v w (u ∷ q)

-- job i is in the way of waiter w at a cell: it is another job that holds the cell, or one that stands ahead of w in the queue (demand 3)
pub data InWay (r : Row) (w : Waiter) (i : ℕ) : Type 0 where
  holds_it : i ≢ w.job → is_free (r.held i) ≡ false → InWay r w i
  ahead : (v : Waiter) → v.job ≡ i → Ahead v w r.queue → InWay r w i

-- job i was in the way of a request's job when that one asked: another job that held the cell, or one that stood in the queue, if the asking job held nothing and so waits last (demand 3)
pub data WasInWay (d : Desk) (r : Request) (i : ℕ) : Type 0 where
  held_it : i ≢ r.job → is_free ((d.row r.cell).held i) ≡ false → WasInWay d r i
  stood_ahead : is_free ((d.row r.cell).held r.job) ≡ true → (v : Waiter) → v.job ≡ i → In v (d.row r.cell).queue → WasInWay d r i

-- the waiter waits for the cell with what it asked
abbrev pub IsWaiting : Desk → ℕ → Waiter → Type 0
IsWaiting d c w = d.stat w.job ≡ waiting c w.ask

-- job j waits, and job i is in its way there
pub record WaitsFor (d : Desk) (j i : ℕ) : Type 0 where
  pub cell : ℕ
  pub ask : Ask
  pub waits : IsWaiting d cell (record { job = j; ask = ask })
  pub way : InWay (d.row cell) (record { job = j; ask = ask }) i

-- a chain of waits: the first job waits for the second, that for the third, and so on to the last
pub data Chain (d : Desk) : ℕ → ℕ → Type 0 where
  link : {j i : ℕ} → WaitsFor d j i → Chain d j i
  links : {j i k : ℕ} → WaitsFor d j i → Chain d i k → Chain d j k

-- older than every other live job: smaller is older (demand 3)
abbrev pub OldestLive : Desk → ℕ → Type 0
OldestLive d j = (i : ℕ) → i ≢ j → is_live (d.stat i) ≡ true → j < i

-- older than every other open job
abbrev pub OldestOpen : Desk → ℕ → Type 0
OldestOpen d j = (i : ℕ) → i ≢ j → is_open (d.stat i) ≡ true → j < i

-- the waiter waits for one and the same request now and after each of the requests: a waiting job is refused everything but give-up, so it asks nothing in between
abbrev pub Waits : (List Request → Desk) → ℕ → Waiter → List Request → Type 0
Waits seen c w [] = IsWaiting (seen []) c w
Waits seen c w (r ∷ rs) = IsWaiting (seen []) c w × Waits (λ more. seen (r ∷ more)) c w rs

-- the request is the job's give-up
abbrev pub GivesUp : ℕ → Request → Type 0
GivesUp j r = (letter_of r.kind ≡ Some GiveUp) × (r.job ≡ j)

-- the waiter does not give up while it waits for that request
abbrev pub Patient : Course → ℕ → Waiter → List Request → Type 0
Patient k c w rs = (before : List Request) (r : Request) (rest : List Request) → rs ≡ before ++ r ∷ rest → Waits k.seen c w before → GivesUp w.job r → ⊥

-- every run that is in the waiter's way now ends in the requests: what they write has a c, an a or a k of its job
abbrev pub AllEnd : Course → ℕ → Waiter → List Request → Type 0
AllEnd k c w rs = (i : ℕ) → InWay ((now k).row c) w i → ended i (k.wrote [] rs) ≡ true

-- the step gives the waiter the cell in this mode: the wakes have it for the cell with what it asked, it runs, and it holds the mode, which covers its need
pub record Granted (o : Outcome) (c : ℕ) (w : Waiter) (m : Mode) : Type 0 where
  pub woken : In (wake c w) o.wakes
  pub runs : o.desk.stat w.job ≡ running
  pub holds : (o.desk.row c).held w.job ≡ m
  pub enough : covers m (needed w.ask) ≡ true

-- one of the requests gives the waiter its cell in the mode it asked for
pub record Served (k : Course) (c : ℕ) (w : Waiter) (rs : List Request) : Type 0 where
  pub before : List Request
  pub request : Request
  pub rest : List Request
  pub split : rs ≡ before ++ request ∷ rest
  -- until then it waited for that request
  pub waited : Waits k.seen c w before
  -- some run that was in its way had not ended before this step: so this is at the latest the step that ends the last of them
  pub in_time : (i : ℕ) × InWay ((now k).row c) w i × (ended i (k.wrote [] before) ≡ false)
  pub granted : Granted (k.does before request) c w (wants ((now k).row c).held w)

-- at most n jobs are in the waiter's way: a list of such jobs that names none twice has at most n
abbrev pub AtMostInWay : ℕ → Row → Waiter → Type 0
AtMostInWay n r w = (is : List ℕ) → distinct is ≡ true → ((i : ℕ) → member i is ≡ true → InWay r w i) → length is ≤ n

-- the second sentence of demand 3 for a waiter, from right after it asked
pub record ServedInTime (k : Course) (c : ℕ) (w : Waiter) : Type 0 where
  pub waits : IsWaiting (now k) c w
  -- the jobs in its way are each in a run, and there are at most 31
  pub in_a_run : (i : ℕ) → InWay ((now k).row c) w i → is_live ((now k).stat i) ≡ true
  pub at_most : AtMostInWay 31 ((now k).row c) w
  -- whatever is requested from then on: if it does not give up while it waits, then once all those runs have ended, it was given its cell in the mode it asked for, at the latest in the step that ended the last of them
  pub served : (rs : List Request) → Patient k c w rs → AllEnd k c w rs → Served k c w rs

-- how many jobs stand in the queues of the first n cells
unfoldable pub standing_in : (ℕ → Row) → ℕ → ℕ
standing_in rows zero = 0
standing_in rows (suc n) = standing_in rows n + length (rows n).queue

-- how many jobs stand in the queues of a desk
abbrev pub waiters_of : Desk → ℕ
waiters_of d = standing_in d.row cells
