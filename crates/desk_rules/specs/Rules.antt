-- The desk's rules 1 to 5, begin, commit and give-up, in the paper's order (01, The desk's rules).
use Rattle.std.specs.Prelude.{ℕ, zero, suc, Bool, false, ◌&&◌, ◌||◌, List, [], ◌∷◌, ◌++◌, eqb}
use Rattle.laws.specs.Choice.{pick}
use Rattle.terms.specs.declared.letters.Ask.{Ask}
use Rattle.terms.specs.Limits.{cells}
use Rattle.conflict.specs.declared.modes.Mode.{Mode}
use Rattle.conflict.specs.declared.action.Action.{Action}
use Rattle.conflict.specs.Modes.{needed, recorded, covers, asked, is_free}
use Rattle.desks.specs.declared.Answer.{Answer}
use Rattle.desks.specs.declared.Answer.TheVariants.{Go, Wait, Back}
use Rattle.laws.specs.Functions.{at}
use Rattle.desks.specs.Places.{seated, vacated}
use Rattle.desk_rules.specs.Desk.{Status, running, waiting, sentback, closed, Waiter, Row, Desk}
use Rattle.desks.specs.Stepping.{Stepped}
use Rattle.desk_rules.specs.Locks.{agrees, older_than_holders, older_than_waiters, is_empty, Settled, released}

-- what a step of the paper's desk leaves and tells
abbrev pub Outcome : Type 0
Outcome = Stepped Desk

-- the desk with another row for one cell
unfoldable pub with_row : Desk → ℕ → Row → Desk
with_row d c r = record { next = d.next; jobs = d.jobs; stat = d.stat; row = at d.row c r }

-- the desk with another status for one job
unfoldable pub with_status : Desk → ℕ → Status → Desk
with_status d j s = record { next = d.next; jobs = d.jobs; stat = at d.stat j s; row = d.row }

-- a woken waiter as the action that it may now do
unfoldable pub wake : ℕ → Waiter → Action
wake c w = record { kind = recorded w.ask; job = w.job; cell = c }

-- the wakes of one cell, in the order of its queue
unfoldable pub wakes_at : ℕ → List Waiter → List Action
wakes_at c [] = []
wakes_at c (w ∷ q) = wake c w ∷ wakes_at c q

-- the wakes of the first n cells, cell by cell from 0 (01, rule 4)
unfoldable pub wakes_of : (ℕ → Settled) → ℕ → List Action
wakes_of s zero = []
wakes_of s (suc c) = wakes_of s c ++ wakes_at c (s c).woken

-- whether a job is among the wakes
unfoldable pub is_woken : ℕ → List Action → Bool
is_woken j [] = false
is_woken j (a ∷ rest) = eqb a.job j || is_woken j rest

-- the statuses when the woken jobs run again
unfoldable pub run_again : (ℕ → Status) → List Action → ℕ → Status
run_again stat wakes j = pick (is_woken j wakes) running (stat j)

-- the cells after rule 4 for job j: it drops all its locks and its place in a queue, then each queue is searched from the front
unfoldable pub rows_after : Desk → ℕ → ℕ → Settled
rows_after d j c = released d.jobs j (d.row c)

-- rule 4: a run ends. The job gets the status given, the places are those given, the cells are settled and the woken jobs run
unfoldable pub rule4 : Desk → ℕ → Status → List ℕ → Answer → Outcome
rule4 d j s js said =
    let wakes : List Action = wakes_of (rows_after d j) cells in
    record {
      desk = record { next = d.next; jobs = js; stat = run_again (at d.stat j s) wakes; row = λ c. (rows_after d j c).row };
      said = said;
      wakes = wakes;
    }

-- commit and give-up close a job and free its place (01, Jobs and their numbers)
unfoldable pub close : Desk → ℕ → Outcome
close d j = rule4 d j closed (vacated j d.jobs) (Go j)

-- sent back: the job holds nothing, waits for nothing and keeps its number and its place (01, Jobs and their numbers)
unfoldable pub send_back : Desk → ℕ → Outcome
send_back d j = rule4 d j sentback d.jobs (Back j)

-- the mode is granted, and the job runs on
unfoldable pub grant : Desk → ℕ → ℕ → Mode → Outcome
grant d j c m =
    record {
      desk = with_row d c (record { held = at (d.row c).held j m; queue = (d.row c).queue });
      said = Go j;
      wakes = [];
    }

-- the job waits in the queue given, still holding what it holds
unfoldable pub queued : Desk → ℕ → ℕ → Ask → List Waiter → Outcome
queued d j c a q =
    record {
      desk = with_status (with_row d c (record { held = (d.row c).held; queue = q })) j (waiting c a);
      said = Wait j;
      wakes = [];
    }

-- a job that holds a covering mode: go. Nothing changes (01, rule 1)
unfoldable pub rule1 : Desk → ℕ → Outcome
rule1 d j = record { desk = d; said = Go j; wakes = [] }

-- a promotion: go if its new mode agrees with the other holders; older than every other holder, it waits at the front; otherwise back (01, rule 2; 02, No. 1)
unfoldable pub rule2 : Desk → ℕ → ℕ → Ask → Outcome
rule2 d j c a =
    let held = (d.row c).held in
    let wanted = asked (held j) (needed a) in
    pick (agrees d.jobs held j wanted) (grant d j c wanted)
    (pick (older_than_holders d.jobs held j) (queued d j c a (record { job = j; ask = a } ∷ (d.row c).queue)) (send_back d j))

-- a job new to the cell: go if the queue is empty and the mode agrees with every holder; older than every holder and every waiter, it waits at the end; otherwise back (01, rule 3)
unfoldable pub rule3 : Desk → ℕ → ℕ → Ask → Outcome
rule3 d j c a =
    let held = (d.row c).held in
    pick (is_empty (d.row c).queue && agrees d.jobs held j (needed a)) (grant d j c (needed a))
    (pick (older_than_holders d.jobs held j && older_than_waiters (d.row c).queue j)
    (queued d j c a ((d.row c).queue ++ record { job = j; ask = a } ∷ []))
    (send_back d j))

-- read, write, increment or u of a running job: rule 1 if what it holds covers its need, rule 3 if it holds nothing, otherwise rule 2
unfoldable pub ask : Desk → ℕ → ℕ → Ask → Outcome
ask d j c a =
    let held = (d.row c).held j in
    pick (covers held (needed a)) (rule1 d j) (pick (is_free held) (rule3 d j c a) (rule2 d j c a))

-- retry makes a sent back job running again, holding nothing (01, rule 5)
unfoldable pub retry : Desk → ℕ → Outcome
retry d j = record { desk = with_status d j running; said = Go j; wakes = [] }

-- begin opens a running job that holds nothing, under the next number (01, Jobs and their numbers)
unfoldable pub begin : Desk → Outcome
begin d =
    record {
      desk = record { next = suc d.next; jobs = seated d.next d.jobs; stat = at d.stat d.next running; row = d.row };
      said = Go d.next;
      wakes = [];
    }
