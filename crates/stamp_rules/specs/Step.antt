-- One step of the timestamp desk: the refusals in their order, then what the request says; and started desks (02, No. 6; 01, Refusals by number).
use Rattle.std.specs.Prelude.{ℕ, ltb, Option, None, Some}
use Rattle.laws.specs.Choice.{pick}
use Rattle.terms.specs.declared.letters.Letter.{Letter}
use Rattle.terms.specs.declared.letters.Ask.{Ask}
use Rattle.terms.specs.declared.letters.Letter.TheVariants.{Begin, Commit, GiveUp, Retry, Back, Asks}
use Rattle.terms.specs.declared.refusals.Refusal.TheVariants.{UnknownKind, CellAbove, NotOpen, NoRetry}
use Rattle.terms.specs.Letters.{letter_of}
use Rattle.terms.specs.Limits.{cells}
use Rattle.conflict.specs.History.{History}
use Rattle.desks.specs.declared.Answer.TheVariants.{Go}
use Rattle.desks.specs.Request.{Request}
use Rattle.desks.specs.Begin.{refused, beginning}
use Rattle.desks.specs.Started.{StartedOn}
use Rattle.stamp_rules.specs.Desk.{Desk, fresh_desk, is_open}
use Rattle.stamp_rules.specs.Rules.{Outcome, close, ask, begin}

-- begin: 7, then 6, as on every desk
unfoldable pub step_begin : Desk → Outcome
step_begin d = beginning d d.next d.jobs (begin d)

-- commit and give-up close the job: 3 if it is not open (01, Jobs and their numbers)
unfoldable pub step_close : Desk → ℕ → Outcome
step_close d j = pick (is_open d j) (close d j (Go j)) (refused d NotOpen)

-- retry gets 3 if the job is not open and otherwise 19 (02, No. 6)
unfoldable pub step_retry : Desk → ℕ → Outcome
step_retry d j = pick (is_open d j) (refused d NoRetry) (refused d NotOpen)

-- read, write, increment and u: 3, then 2 for a cell above 63
unfoldable pub step_ask : Desk → ℕ → ℕ → Ask → Outcome
step_ask d j c a = pick (is_open d j) (pick (ltb c cells) (ask d j c a) (refused d CellAbove)) (refused d NotOpen)

-- a request by its letter; 1 for k and for any other byte, which are not requests
unfoldable pub step_by : Desk → Request → Option Letter → Outcome
step_by d r None = refused d UnknownKind
step_by d r (Some Back) = refused d UnknownKind
step_by d r (Some Begin) = step_begin d
step_by d r (Some Commit) = step_close d r.job
step_by d r (Some GiveUp) = step_close d r.job
step_by d r (Some Retry) = step_retry d r.job
step_by d r (Some (Asks a)) = step_ask d r.job r.cell a

-- one step of the timestamp desk (02, No. 6)
unfoldable pub step : Desk → Request → Outcome
step d r = step_by d r (letter_of r.kind)

-- a started timestamp desk, and the history that it has written (01, How much a contract says)
abbrev pub Started : Desk → History → Type 0
Started = StartedOn step fresh_desk
