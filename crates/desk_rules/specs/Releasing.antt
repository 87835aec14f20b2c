-- Rule 4 at one cell: the row after a run has ended, compared with the row before (01, rule 4).
use Rattle.std.specs.Prelude.{ℕ, ◌<◌, ◌≡◌, ◌≢◌, true, false, List, ◌++◌}
use Rattle.laws.specs.Lists.{member}
use Rattle.conflict.specs.declared.modes.Mode.{Mode}
use Rattle.conflict.specs.declared.modes.Mode.TheVariants.{Free}
use Rattle.conflict.specs.Modes.{covers, beside, grants, is_free}
use Rattle.desks.specs.Request.{Request}
use Rattle.laws.specs.Standing.{In}
use Rattle.desk_rules.specs.Desk.{Waiter, Row, Desk}
use Rattle.desk_rules.specs.Locks.{without, Settled, wants}
use Rattle.desk_rules.specs.Invariant.{Falling, FirstBlocked}
use Rattle.desk_rules.specs.Rules.{Outcome, wakes_of}
use Rattle.desk_rules.specs.Waiting.{Ahead}
use Rattle.terms.specs.Limits.{cells}

-- every holder is among the jobs listed
abbrev pub Seated : List ℕ → (ℕ → Mode) → Type 0
Seated js held = (i : ℕ) → is_free (held i) ≡ false → member i js ≡ true

-- a row after job j's run has ended
pub record Releases (js : List ℕ) (j : ℕ) (r : Row) (s : Settled) : Type 0 where
  -- the job holds nothing
  pub dropped : s.row.held j ≡ Free
  -- those woken stood ahead of those left, once the job's own place is gone
  pub parted : without j r.queue ≡ s.woken ++ s.row.queue
  -- another job that is not woken holds what it held
  pub kept : (i : ℕ) → i ≢ j → ((w : Waiter) → In w s.woken → w.job ≢ i) → s.row.held i ≡ r.held i
  -- a woken job holds what it wanted
  pub takes : (w : Waiter) → In w s.woken → s.row.held w.job ≡ wants r.held w
  -- a woken job's mode was granted beside every other holder that was not woken, and beside those woken ahead of it
  pub fits : (w : Waiter) → In w s.woken → (i : ℕ) → i ≢ w.job → i ≢ j → ((v : Waiter) → In v s.woken → v.job ≢ i) → grants (r.held i) (wants r.held w) ≡ true
  pub in_turn : (v w : Waiter) → Ahead v w s.woken → grants (wants r.held v) (wants r.held w) ≡ true
  -- the others' locks only grow
  pub grown : (i : ℕ) → i ≢ j → covers (s.row.held i) (r.held i) ≡ true
  -- a woken job is another job, and it waited
  pub woken_was : (w : Waiter) → In w s.woken → In w r.queue
  pub woken_other : (w : Waiter) → In w s.woken → w.job ≢ j
  -- and so did every job left in the queue
  pub left_was : (w : Waiter) → In w s.row.queue → In w r.queue
  pub left_other : (w : Waiter) → In w s.row.queue → w.job ≢ j
  -- every job left is older than every job woken
  pub across : (v w : Waiter) → In v s.woken → In w s.row.queue → w.job < v.job
  -- holders are listed, may hold together and are younger than the waiters left; the queue falls; and the first waiter left is blocked
  pub seats : Seated js s.row.held
  pub pairs : (i k : ℕ) → i ≢ k → beside (s.row.held i) (s.row.held k) ≡ true
  pub elder : (w : Waiter) (i : ℕ) → In w s.row.queue → i ≢ w.job → is_free (s.row.held i) ≡ false → w.job < i
  pub down : Falling s.row.queue
  pub blocked : FirstBlocked s.row.held s.row.queue

-- the step carries out rule 4 for the request's job: every cell is released, and the jobs granted there, cell by cell from 0 to 63, are the step's wakes (01, rule 4)
pub record AllReleased (d : Desk) (o : Outcome) (r : Request) : Type 0 where
  pub settled : ℕ → Settled
  pub rows : (c : ℕ) → o.desk.row c ≡ (settled c).row
  pub wakes : o.wakes ≡ wakes_of settled cells
  pub releases : (c : ℕ) → Releases d.jobs r.job (d.row c) (settled c)
