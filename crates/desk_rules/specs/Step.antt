-- One step of the desk: the refusals in the order of the table, then the rules; what the history records of it; and started desks (01, Refusals by number; 01, Lines).
use Rattle.std.specs.Prelude.{ℕ, ltb, Option, None, Some}
use Rattle.laws.specs.Choice.{pick}
use Rattle.terms.specs.declared.letters.Letter.{Letter}
use Rattle.terms.specs.declared.letters.Ask.{Ask}
use Rattle.terms.specs.declared.letters.Letter.TheVariants.{Begin, Commit as commits, GiveUp as gives_up, Retry, Back as no-request, Asks}
use Rattle.terms.specs.declared.refusals.Refusal.TheVariants.{UnknownKind, CellAbove, NotOpen, Waiting, SentBack, Running}
use Rattle.terms.specs.Letters.{letter_of}
use Rattle.terms.specs.Limits.{cells}
use Rattle.conflict.specs.History.{History}
use Rattle.desks.specs.Request.{Request}
use Rattle.desk_rules.specs.Desk.{Status, closed, running, waiting, sentback, Desk, fresh_desk}
use Rattle.desks.specs.Begin.{beginning, refused}
use Rattle.desk_rules.specs.Rules.{Outcome, close, ask, retry, begin}
use Rattle.desks.specs.Started.{StartedOn}
use Rattle.desks.specs.Records.{records_by}

-- commit, by what the job is doing: 3 if it is not open, 4 if it waits, 5 if it was sent back
unfoldable pub step_commit : Desk → ℕ → Status → Outcome
step_commit d j closed = refused d NotOpen
step_commit d j (waiting c a) = refused d Waiting
step_commit d j sentback = refused d SentBack
step_commit d j running = close d j

-- give-up: 3 if the job is not open
unfoldable pub step_give_up : Desk → ℕ → Status → Outcome
step_give_up d j closed = refused d NotOpen
step_give_up d j (waiting c a) = close d j
step_give_up d j sentback = close d j
step_give_up d j running = close d j

-- retry: 3 if the job is not open, 4 if it waits, 8 if it runs
unfoldable pub step_retry : Desk → ℕ → Status → Outcome
step_retry d j closed = refused d NotOpen
step_retry d j (waiting c a) = refused d Waiting
step_retry d j sentback = retry d j
step_retry d j running = refused d Running

-- read, write, increment and u: 3, 4, 5 as for commit, then 2 for a cell above 63
unfoldable pub step_ask : Desk → ℕ → ℕ → Ask → Status → Outcome
step_ask d j c a closed = refused d NotOpen
step_ask d j c a (waiting c' a') = refused d Waiting
step_ask d j c a sentback = refused d SentBack
step_ask d j c a running = pick (ltb c cells) (ask d j c a) (refused d CellAbove)

-- begin: 7 if the last number was given, then 6 if no place is free
unfoldable pub step_begin : Desk → Outcome
step_begin d = beginning d d.next d.jobs (begin d)

-- a request by its letter; 1 for k and for any other byte, which are not requests
unfoldable pub step_by : Desk → Request → Option Letter → Outcome
step_by d r None = refused d UnknownKind
step_by d r (Some no-request) = refused d UnknownKind
step_by d r (Some Begin) = step_begin d
step_by d r (Some commits) = step_commit d r.job (d.stat r.job)
step_by d r (Some gives_up) = step_give_up d r.job (d.stat r.job)
step_by d r (Some Retry) = step_retry d r.job (d.stat r.job)
step_by d r (Some (Asks a)) = step_ask d r.job r.cell a (d.stat r.job)

-- one step of the desk: 1 first, then as the letter says (01, Refusals by number)
unfoldable pub step : Desk → Request → Outcome
step d r = step_by d r (letter_of r.kind)

-- the history records of a step on the paper's desk
abbrev pub events : Desk → Request → History
events = records_by step

-- a started desk of the paper
abbrev pub Started : Desk → History → Type 0
Started = StartedOn step fresh_desk
