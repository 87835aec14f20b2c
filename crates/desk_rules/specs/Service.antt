-- What is promised of waiting: some job is in a waiter's way; each such job is live and younger; they are at most 31; waits never run in a circle; and a waiter that does not give up is served in time (demand 3, first and second sentence).
use Rattle.std.specs.Prelude.{ℕ, ◌<◌, ◌≡◌, ◌↔◌, ◌⊎◌, true, false, List, [], Some}
use Rattle.terms.specs.declared.letters.Ask.{Ask}
use Rattle.terms.specs.declared.letters.Letter.TheVariants.{Asks}
use Rattle.terms.specs.Letters.{letter_of}
use Rattle.conflict.specs.Modes.{needed, covers, is_free}
use Rattle.conflict.specs.Runs.{ended}
use Rattle.desks.specs.declared.Answer.TheVariants.{Wait}
use Rattle.desks.specs.Request.{Request}
use Rattle.laws.specs.Standing.{In}
use Rattle.desk_rules.specs.Desk.{running, waiting, Waiter, is_live}
use Rattle.desk_rules.specs.Locks.{wants}
use Rattle.desks.specs.Course.{now, to, later}
use Rattle.desk_rules.specs.Course.{Course}
use Rattle.desk_rules.specs.Waiting.{Ahead, InWay, WasInWay, IsWaiting, Chain, Waits, GivesUp, Patient, AllEnd, AtMostInWay, Granted, Served, ServedInTime}
use Rattle.desk_rules.specs.Asked.{asker}
use Rattle.desk_rules.specs.GetsItsCell.{GetsItsCell}

-- what is promised of a waiter of a cell
pub record Waiters (k : Course) (c : ℕ) (w : Waiter) : Type 0 where
  -- some job is in its way
  pub somebody_in_way : (i : ℕ) × InWay ((now k).row c) w i
  -- it does not hold what it waits for; and if it holds the cell it is at the front of its queue, so at most the front is a promotion (01, rule 2; 02, No. 1)
  pub lacks_it : covers (((now k).row c).held w.job) (needed w.ask) ≡ false
  pub holder_in_front : is_free (((now k).row c).held w.job) ≡ false → (v : Waiter) → Ahead v w ((now k).row c).queue → ⊥
  -- it is older than each job in its way, each of those is in a run, and they are at most 31 (01, rules 2 and 3; 01, Slips to rule out, 1)
  pub is_older : (i : ℕ) → InWay ((now k).row c) w i → w.job < i
  pub in_way_live : (i : ℕ) → InWay ((now k).row c) w i → is_live ((now k).stat i) ≡ true
  pub at_most_31 : AtMostInWay 31 ((now k).row c) w
  -- through any requests, if it does not give up, it still waits or has been served; once all runs that were in its way have ended, it has been served
  pub waits_or_served : (rs : List Request) → Patient k c w rs → Waits k.seen c w rs ⊎ Served k c w rs
  pub waiter_served : (rs : List Request) → Patient k c w rs → AllEnd k c w rs → Served k c w rs
  -- as long as it waits, some job that was in its way when it began still is, in the same run; so once all those runs have ended, it no longer waits for that request
  pub still_in_way : (rs : List Request) → Waits k.seen c w rs → (i : ℕ) × InWay ((now k).row c) w i × (ended i (k.wrote [] rs) ≡ false) × InWay ((k.seen rs).row c) w i
  pub not_forgotten : (rs : List Request) → AllEnd k c w rs → Waits k.seen c w rs → ⊥
  -- when it stops waiting in a step that is not its give-up, that step woke it and gave it its cell in the mode it asked for
  pub granted_at_last : (rs : List Request) → Waits k.seen c w rs → (r : Request) → (GivesUp w.job r → ⊥) → (IsWaiting (k.does rs r).desk c w → ⊥) → Granted (k.does rs r) c w (wants ((now k).row c).held w)

pub record Service (k : Course) : Type 0 where
  -- whenever a job waits, some younger job is live and not waiting: it runs (demand 3)
  pub somebody_runs : (j c : ℕ) (a : Ask) → (now k).stat j ≡ waiting c a → (i : ℕ) × (j < i) × ((now k).stat i ≡ running)
  -- no job waits for itself, through any chain of waits (01, Slips to rule out, 1)
  pub no_circle : (j : ℕ) → Chain (now k) j j → ⊥
  -- a job waits for a cell exactly if it stands in its queue
  pub waiting_is_standing : (c : ℕ) (w : Waiter) → IsWaiting (now k) c w ↔ In w ((now k).row c).queue
  pub waiters : (c : ℕ) (w : Waiter) → IsWaiting (now k) c w → Waiters k c w
  -- a job that asks and is answered wait waits for that cell with what it asked; the jobs in its way are then exactly those that held the cell or stood ahead when it asked; and it is served in time (demand 3)
  pub asker_waits : (r : Request) (a : Ask) → letter_of r.kind ≡ Some (Asks a) → (to k r).said ≡ Wait r.job → IsWaiting (to k r).desk r.cell (asker r a)
  pub in_way_when_asked : (r : Request) (a : Ask) → letter_of r.kind ≡ Some (Asks a) → (to k r).said ≡ Wait r.job → (i : ℕ) → InWay ((to k r).desk.row r.cell) (asker r a) i ↔ WasInWay (now k) r i
  pub served_in_time : (r : Request) (a : Ask) → letter_of r.kind ≡ Some (Asks a) → (to k r).said ≡ Wait r.job → ServedInTime (later k r) r.cell (asker r a)
  -- the second sentence of demand 3, whole, for any request that is answered wait: at most 31 jobs held its cell or stood ahead when it asked. If its job does not give up and their runs all end, the job got its cell in the mode it asked for, at the latest in the step that ended the last of them
  pub gets_its_cell : (r : Request) (j : ℕ) → (to k r).said ≡ Wait j → (j ≡ r.job) × GetsItsCell k r
