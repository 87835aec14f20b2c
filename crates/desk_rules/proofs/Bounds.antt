-- Every bound that a promise states is the least that holds: for each a desk is computed that reaches it. So a promise with a larger number would be weaker than it need be (01, What is delivered; demand 3; 02, No. 3; 01, rule 4).
-- The numbers are written out, since they are the point. Assumes nothing.
use Prim.Native.Nat.{ℕ}
use mathlib.Core.Path.{◌≡◌, refl, sym, subst}
use mathlib.Core.Bool.{true}
use mathlib.Core.List.{[], ◌++◌}
use native.Mathlib.Omega.{arith}
use Rattle.laws.specs.Lists.{member}
use Rattle.terms.specs.declared.letters.Ask.TheVariants.{Read}
use Rattle.laws.specs.Standing.{In, first}
use Rattle.laws.proofs.Standing.{in_right}
use Rattle.desks.specs.Records.{records_by}
use Rattle.desks.specs.Started.{fresh, after}
use Rattle.desks.specs.Told.{request}
use Rattle.desks.proofs.StartedThrough.{run_started}
use Rattle.desk_rules.specs.Desk.{fresh_desk}
use Rattle.desk_rules.specs.Step.{step, events, Started}
use Rattle.desk_rules.specs.Requests.{history_of}
use Rattle.desk_rules.specs.Waiting.{InWay}
use Rattle.desk_rules.specs.Chain.{in_way_of}
use Rattle.desk_rules.specs.Bounds.{Least, OpenAtMost, NumberAtMost, NextAtMost, CellAtMost, InWayAtMost, JustAskedAtMost, WereInWayAtMost, ChainAtMost, WakesAtMost, RecordsAtMost, to_the_queue, to_the_line, queue_desk, line_desk, one_more, last_commits, last, full, a_begin}
use Rattle.desk_rules.proofs.Kept.{started_inv}
use Rattle.desk_rules.proofs.InWayList.{listed_way}
use Rattle.desk_rules.proofs.RecordLimits.{recorded_cells}
use Rattle.desk_rules.proofs.Promised.{promised}
use Rattle.desk_rules.proofs.Examples.{met}

-- the two desks are started ones, and so is the first with one more waiter
queue_started : Started queue_desk (history_of (fresh_desk 1) to_the_queue)
unfolding queue_desk
queue_started = run_started (fresh 1 (omega arith) (omega arith)) to_the_queue

line_started : Started line_desk (history_of (fresh_desk 1) to_the_line)
unfolding line_desk
line_started = run_started (fresh 1 (omega arith) (omega arith)) to_the_line

full_started : Started (step queue_desk one_more).desk (history_of (fresh_desk 1) to_the_queue ++ events queue_desk one_more)
full_started = after queue_started one_more

-- all of those listed are in the way of job 1
ways_of : (i : ℕ) → member i (in_way_of full 1 5) ≡ true → InWay (full.row 5) last i
ways_of = listed_way (started_inv full_started) 5 last met.waits

-- AT MOST 32 JOBS ARE OPEN, and no smaller bound holds
pub open_least : Least OpenAtMost 32
open_least = (λ d h s. (promised s).limits.at_most_32, λ m bound. let l = bound line_desk _ line_started in omega (arith, l, met.opened))

-- THE LAST NUMBER IS 4,294,967,295
pub number_least : Least NumberAtMost 4_294_967_295
number_least = (λ d h s j o. ((promised s).limits.open_within j o).1, λ m bound. bound _ _ (after (fresh 4_294_967_295 (omega arith) (omega arith)) a_begin) 4_294_967_295 met.given)

-- AND THE NEXT NUMBER AT MOST ONE MORE
pub next_least : Least NextAtMost 4_294_967_296
next_least = (
  λ d h s. (promised s).limits.next_within.1,
  λ m bound. let l = bound _ _ (after (fresh 4_294_967_295 (omega arith) (omega arith)) a_begin) in omega (arith, l, met.next),
)

-- THE LAST CELL IS 63
pub cell_least : Least CellAtMost 63
cell_least = (
  λ d h s x i. let l = recorded_cells s x i in omega (arith, l),
  λ m bound. bound _ _ (after (after (fresh 1 (omega arith) (omega arith)) a_begin) (request 114 1 63)) _ (in_right ([] ++ events (fresh_desk 1) a_begin) (subst (In _) (sym met.cell) first)),
)

-- AT MOST 31 ARE IN A WAITER'S WAY, and no smaller bound holds (demand 3)
pub in_way_least : Least InWayAtMost 31
in_way_least = (
  λ d h s c w k. ((promised s).service.waiters c w k).at_most_31,
  λ m bound. let l = bound _ _ full_started 5 last met.waits (in_way_of full 1 5) met.once ways_of in omega (arith, l, met.ways),
)

-- AT MOST 31 ARE IN A JOB'S WAY RIGHT AFTER IT ASKED, and no smaller bound holds (demand 3)
pub just_asked_least : Least JustAskedAtMost 31
just_asked_least = (
  λ d h s r a l e. ((promised s).service.served_in_time r a l e).at_most,
  λ m bound. let l = bound _ _ queue_started one_more Read refl met.said (in_way_of full 1 5) met.once ways_of in omega (arith, l, met.ways),
)

-- AT MOST 31 HELD THE CELL OR STOOD AHEAD WHEN A JOB ASKED, and no smaller bound holds (demand 3)
pub were_in_way_least : Least WereInWayAtMost 31
were_in_way_least = (
  λ d h s r j e. ((promised s).service.gets_its_cell r j e).1.at_most_31,
  λ m bound.
      let was = (promised queue_started).service.in_way_when_asked one_more Read refl met.said in
      let l = bound _ _ queue_started one_more 1 met.said (in_way_of full 1 5) met.once (λ i t. (was i).0 (ways_of i t)) in
      omega (arith, l, met.ways),
)

-- AT MOST 32 STAND IN A CHAIN, and no smaller bound holds (02, No. 3)
pub chain_least : Least ChainAtMost 32
chain_least = (λ d h s j o. ((promised s).chains.along j o).at_most_32, λ m bound. let l = bound line_desk _ line_started 1 met.live in omega (arith, l, met.chain))

-- AT MOST 31 ARE WOKEN IN A STEP, and no smaller bound holds (01, rule 4)
pub wakes_least : Least WakesAtMost 31
wakes_least = (λ d h s r. ((promised s).wakes r).at_most_31, λ m bound. let l = bound _ _ full_started last_commits in omega (arith, l, met.woken))

-- A STEP WRITES AT MOST 32 RECORDS, and no smaller bound holds (01, Lines)
pub records_least : Least RecordsAtMost 32
unfolding records_by
records_least = (λ d h s r. ((promised s).wakes r).records_at_most_32, λ m bound. let l = bound _ _ full_started last_commits in omega (arith, l, met.written))
