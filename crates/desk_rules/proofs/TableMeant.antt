-- The step follows the refusal table: one walk through the letters and what the job is doing (01, Refusals by number).
-- Assumes nothing.
use Rattle.std.specs.Prelude.{Option, None, Some}
use Prim.Native.Nat.{ℕ}
use mathlib.Core.Path.{refl}
use mathlib.Core.Bool.{◌&&◌}
use lib.Dec.{ltb}
use Rattle.laws.specs.Choice.{by_test}
use Rattle.terms.specs.declared.letters.Letter.{Letter}
use Rattle.terms.specs.declared.letters.Ask.{Ask}
use Rattle.terms.specs.declared.letters.Letter.TheVariants.{Begin, Commit, GiveUp, Retry, Back, Asks}
use Rattle.terms.specs.Letters.{letter_of}
use Rattle.terms.specs.Limits.{cells}
use Rattle.conflict.specs.Modes.{needed, covers, asked, is_free}
use Rattle.laws.specs.Lists.{first_of}
use Rattle.desks.specs.Request.{Request}
use Rattle.desk_rules.specs.Desk.{Status, closed, running, waiting, sentback, is_open, Desk}
use Rattle.desk_rules.specs.Locks.{agrees, older_than_holders, older_than_waiters, is_empty}
use Rattle.desk_rules.specs.Rules.{rule4, close, send_back, grant, queued, rule1, rule2, rule3, ask, retry, begin}
use Rattle.desk_rules.specs.Step.{step_commit, step_give_up, step_retry, step_ask, step_begin, step_by, step}
use Rattle.desks.specs.Table.{Answers, named_by, goes, waits, goes_back}
use Rattle.desk_rules.specs.Table.{holds, order, due_by, due_of, named}
use Rattle.desks.proofs.TableMeant.{Meant, answered, begin_means, above}

-- rules 1 to 3 refuse nothing
ask_answered : (d : Desk) (j c : ℕ) (a : Ask) → Answers (ask d j c a).said j
unfolding ask rule1 rule2 rule3 grant queued send_back rule4
ask_answered d j c a =
    answered (covers ((d.row c).held j) (needed a)) _ _ j (goes j)
    (answered (is_free ((d.row c).held j)) _ _ j
    (answered (is_empty (d.row c).queue && agrees d.jobs (d.row c).held j (needed a)) _ _ j (goes j)
    (answered (older_than_holders d.jobs (d.row c).held j && older_than_waiters (d.row c).queue j) _ _ j (waits j) (goes_back j)))
    (answered (agrees d.jobs (d.row c).held j (asked ((d.row c).held j) (needed a))) _ _ j (goes j)
    (answered (older_than_holders d.jobs (d.row c).held j) _ _ j (waits j) (goes_back j))))

-- a begin does what the table says
begin_meant : (d : Desk) (s : Status) (c : ℕ) → Meant d d.next (due_by d (Some Begin) s c) (step_begin d)
unfolding step_begin begin due_by holds order first_of
begin_meant d s c = begin_means d d.next d.jobs (begin d) d.next (goes d.next)

-- a commit does what the table says
commit_meant : (d : Desk) (j c : ℕ) (s : Status) → Meant d j (due_by d (Some Commit) s c) (step_commit d j s)
unfolding step_commit close rule4 due_by holds order first_of is_open
commit_meant d j c closed = refl
commit_meant d j c running = goes j
commit_meant d j c (waiting c' a) = refl
commit_meant d j c sentback = refl

-- a give-up does what the table says
give_up_meant : (d : Desk) (j c : ℕ) (s : Status) → Meant d j (due_by d (Some GiveUp) s c) (step_give_up d j s)
unfolding step_give_up close rule4 due_by holds order first_of is_open
give_up_meant d j c closed = refl
give_up_meant d j c running = goes j
give_up_meant d j c (waiting c' a) = goes j
give_up_meant d j c sentback = goes j

-- a retry does what the table says
retry_meant : (d : Desk) (j c : ℕ) (s : Status) → Meant d j (due_by d (Some Retry) s c) (step_retry d j s)
unfolding step_retry retry due_by holds order first_of is_open
retry_meant d j c closed = refl
retry_meant d j c running = refl
retry_meant d j c (waiting c' a) = refl
retry_meant d j c sentback = goes j

-- a request for a cell does what the table says
ask_meant : (d : Desk) (j c : ℕ) (a : Ask) (s : Status) → Meant d j (due_by d (Some (Asks a)) s c) (step_ask d j c a s)
unfolding step_ask due_by holds order first_of is_open
ask_meant d j c a closed = refl
ask_meant d j c a running = rw (above c) (by_test (ltb c cells) (λ t. rw t (ask_answered d j c a)) (λ f. rw f refl))
ask_meant d j c a (waiting c' a') = refl
ask_meant d j c a sentback = refl

-- a request does what the table says, whatever its letter
step_by_lem : (d : Desk) (r : Request) (l : Option Letter) → Meant d (named_by d.next r.job l) (due_by d l (d.stat r.job) r.cell) (step_by d r l)
unfolding step_by
step_by_lem d r None = unfold due_by holds order first_of in refl
step_by_lem d r (Some Back) = unfold due_by holds order first_of in refl
step_by_lem d r (Some Begin) = begin_meant d (d.stat r.job) r.cell
step_by_lem d r (Some Commit) = commit_meant d r.job r.cell (d.stat r.job)
step_by_lem d r (Some GiveUp) = give_up_meant d r.job r.cell (d.stat r.job)
step_by_lem d r (Some Retry) = retry_meant d r.job r.cell (d.stat r.job)
step_by_lem d r (Some (Asks a)) = ask_meant d r.job r.cell a (d.stat r.job)

-- the step does what the table says
pub step_meant : (d : Desk) (r : Request) → Meant d (named d r) (due_of d r) (step d r)
unfolding step due_of named
step_meant d r = step_by_lem d r (letter_of r.kind)
