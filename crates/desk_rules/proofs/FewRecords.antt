-- A step writes at most one record of its own and one for each waiter that it takes from a queue. So requests never write more records than there are requests (01, Lines; 01, rule 4).
-- Assumes nothing.
use Rattle.std.specs.Prelude.{Option, None, Some}
use Prim.Native.Nat.{ℕ, zero, suc, ◌+◌, ◌≤◌}
use mathlib.Core.Path.{◌≡◌, refl, ap}
use mathlib.Core.Logic.{◌≢◌}
use mathlib.Core.List.{List, [], ◌∷◌}
use native.Mathlib.Omega.{arith}
use lib.ListN.{length, length-append}
use borrow.Author.Tests.{eqb-true, eqb-false}
use lib.Dec.{eqb}
use Rattle.laws.specs.Choice.{by_test}
use Rattle.terms.specs.declared.letters.Letter.{Letter}
use Rattle.terms.specs.declared.letters.Ask.{Ask}
use Rattle.terms.specs.declared.letters.Letter.TheVariants.{Begin, Commit, GiveUp, Retry, Back as no-request, Asks}
use Rattle.terms.specs.Letters.{letter_of}
use Rattle.terms.specs.Limits.{cells}
use Rattle.conflict.specs.declared.modes.Mode.{Mode}
use Rattle.conflict.specs.declared.modes.Mode.TheVariants.{Free}
use Rattle.conflict.specs.declared.action.Action.{Action}
use Rattle.desks.specs.declared.Answer.{Answer}
use Rattle.desks.specs.declared.Answer.TheVariants.{Go, Wait, Back, No}
use Rattle.desks.specs.Request.{Request}
use Rattle.laws.specs.Functions.{at}
use Rattle.desk_rules.specs.Desk.{Status, Waiter, Row, Desk, idle, fresh_desk}
use Rattle.desk_rules.specs.Locks.{without, agrees, wants, woken_first, settle, released}
use Rattle.desks.specs.Begin.{refused}
use Rattle.desk_rules.specs.Rules.{Outcome, with_row, with_status, wakes_at, wakes_of, rows_after, rule4}
use Rattle.desks.specs.Records.{records_by, went_by, own_records, wake_records, records_of}
use Rattle.desk_rules.specs.Step.{step, events}
use Rattle.desk_rules.specs.Moves.{Moved, refuses, begins, commits, gives_up, retries, has_it, promotes, waits_in_front, enters, waits_last, goes_back, taking, standing}
use Rattle.desk_rules.specs.Waiting.{standing_in, waiters_of}
use Rattle.desk_rules.proofs.Moved.{step_moved}
use Rattle.laws.proofs.Functions.{at_same, at_other}

-- on a fresh desk no job stands in a queue
pub none_standing : (m n : ℕ) → standing_in (fresh_desk m).row n ≡ 0
unfolding standing_in fresh_desk idle
none_standing m zero = refl
none_standing m (suc n) = omega (arith, none_standing m n)

-- another row for a cell does not change the cells before it
before_cell : (rows : ℕ → Row) (c : ℕ) (x : Row) (n : ℕ) → n ≤ c → standing_in (at rows c x) n ≡ standing_in rows n
unfolding standing_in
before_cell rows c x zero h = refl
before_cell rows c x (suc n) h = rw (before_cell rows c x n (omega arith), at_other rows c x n (λ e. omega arith))

-- a row with at most k waiters more adds at most k
at_most_more : (k : ℕ) (rows : ℕ → Row) (c : ℕ) (x : Row) → length x.queue ≤ k + length (rows c).queue → (n : ℕ) → standing_in (at rows c x) n ≤ k + standing_in rows n
unfolding standing_in
at_most_more k rows c x h zero = omega arith
at_most_more k rows c x h (suc n) =
    by_test (eqb n c)
    (λ t. let e : n ≡ c = eqb-true n c t in rw (e, at_same rows c x, before_cell rows c x c (omega arith)) (omega arith))
    (λ f. let o : n ≢ c = eqb-false n c f in let m : standing_in (at rows c x) n ≤ k + standing_in rows n = at_most_more k rows c x h n in rw (at_other rows c x n o) (omega arith))

-- a job that leaves a queue does not make it longer
without_size : (j : ℕ) (q : List Waiter) → length (without j q) ≤ length q
unfolding without
without_size j [] = omega arith
without_size j (w ∷ q) = let m : length (without j q) ≤ length q = without_size j q in by_test (eqb w.job j) (λ t. rw t (omega arith)) (λ f. rw f (omega arith))

-- a job that stood in a queue is granted or still stands in it
settle_size : (js : List ℕ) (held : ℕ → Mode) (q : List Waiter) → length (settle js held q).woken + length (settle js held q).row.queue ≡ length q
unfolding settle woken_first
settle_size js held [] = omega arith
settle_size js held (w ∷ q) =
    by_test (agrees js held w.job (wants held w))
    (λ t. rw t (omega (arith, settle_size js (at held w.job (wants held w)) q))) (λ f. rw f (omega arith))

-- the same for a row that is released
released_size : (js : List ℕ) (j : ℕ) (r : Row) → length (released js j r).woken + length (released js j r).row.queue ≤ length r.queue
unfolding released
released_size js j r = omega (arith, settle_size js (at r.held j Free) (without j r.queue), without_size j r.queue)

-- each waiter granted is a wake
wakes_size : (c : ℕ) (q : List Waiter) → length (wakes_at c q) ≡ length q
unfolding wakes_at
wakes_size c [] = refl
wakes_size c (w ∷ q) = ap suc (wakes_size c q)

-- when a run ends, the wakes and those still in queues are no more than stood in queues before
ended_size : (d : Desk) (j n : ℕ) → length (wakes_of (rows_after d j) n) + standing_in (λ c. (rows_after d j c).row) n ≤ standing_in d.row n
unfolding wakes_of standing_in rows_after
ended_size d j zero = omega arith
ended_size d j (suc n) =
    omega (
      arith,
      ended_size d j n,
      length-append (wakes_of (rows_after d j) n) (wakes_at n (rows_after d j n).woken),
      wakes_size n (rows_after d j n).woken,
      released_size d.jobs j (d.row n),
    )

-- each wake has a record
wake_size : (ws : List Action) → length (wake_records ws) ≡ length ws
unfolding wake_records
wake_size [] = refl
wake_size (a ∷ ws) = ap suc (wake_size ws)

-- a request that goes has at most one record
went_size : (r : Request) (j : ℕ) (l : Option Letter) → length (went_by r j l) ≤ 1
unfolding went_by
went_size r j None = omega arith
went_size r j (Some no-request) = omega arith
went_size r j (Some Begin) = omega arith
went_size r j (Some Commit) = omega arith
went_size r j (Some GiveUp) = omega arith
went_size r j (Some Retry) = omega arith
went_size r j (Some (Asks a)) = omega arith

-- and so does any answer
pub own_size : (r : Request) (a : Answer) → length (own_records r a) ≤ 1
unfolding own_records
own_size r (Go j) = went_size r j (letter_of r.kind)
own_size r (Wait j) = omega arith
own_size r (Back j) = omega arith
own_size r (No why) = omega arith

-- the records of a step are its own and one for each wake
pub records_size : (r : Request) (a : Answer) (ws : List Action) → length (records_of r a ws) ≡ length (own_records r a) + length ws
unfolding records_of
records_size r a ws = omega (arith, length-append (own_records r a) (wake_records ws), wake_size ws)

-- the records of a step and the waiters after it are together at most one more than the waiters before
abbrev Few : Desk → Request → Outcome → Type 0
Few d r o = length (records_of r o.said o.wakes) + waiters_of o.desk ≤ suc (waiters_of d)

module _ (d : Desk) (r : Request) where
  -- a step that takes no job from a queue and puts none into one
  stays : (a : Answer) → length (records_of r a []) + waiters_of d ≤ suc (waiters_of d)
  stays a = omega (arith, records_size r a [], own_size r a)

  -- a grant
  granted : (m : Mode) → Few d r (taking d r.job r.cell m)
  unfolding with_row
  granted m = omega (arith, stays (Go r.job), at_most_more 0 d.row r.cell (record { held = at (d.row r.cell).held r.job m; queue = (d.row r.cell).queue }) (omega arith) cells)

  -- a wait
  waited : (a : Ask) (q : List Waiter) → length q ≤ suc (length (d.row r.cell).queue) → Few d r (standing d r.job r.cell a q)
  unfolding with_status with_row records_of own_records wake_records
  waited a q h = omega (arith, at_most_more 1 d.row r.cell (record { held = (d.row r.cell).held; queue = q }) (omega arith) cells)

  -- the end of a run
  ends : (j : ℕ) (s : Status) (js : List ℕ) (a : Answer) → Few d r (rule4 d j s js a)
  unfolding rule4
  ends j s js a = omega (arith, records_size r a (wakes_of (rows_after d j) cells), own_size r a, ended_size d j cells)

  -- every move
  by_move : {o : Outcome} → Moved d r o → Few d r o
  by_move (refuses why x) = unfold refused in stays (No why)
  by_move (begins l m k) = stays (Go d.next)
  by_move (commits l s) = ends r.job _ _ _
  by_move (gives_up l s) = ends r.job _ _ _
  by_move (retries l s) = unfold with_status in stays (Go r.job)
  by_move (has_it b k x) = stays (Go r.job)
  by_move (promotes b k x f z) = granted _
  by_move (waits_in_front b k x f z w) = waited b _ (omega arith)
  by_move (enters b k f z w) = granted _
  by_move (waits_last b k f z w u) = waited b _ (omega (arith, length-append (d.row r.cell).queue (record { job = r.job; ask = b } ∷ [])))
  by_move (goes_back b k x) = ends r.job _ _ _

  -- the records of a step and the waiters after it are together at most one more than the waiters before
  pub few_records : length (events d r) + waiters_of (step d r).desk ≤ suc (waiters_of d)
  unfolding records_by
  few_records = by_move (step_moved d r)
