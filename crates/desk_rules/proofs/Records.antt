-- What the history records of a step of the lock desk, by its request and its answer: a request that asks, begins or retries and goes wakes no job, and a wait wakes none (01, Lines; 01, Slips to rule out, 5).
-- Assumes nothing.
use mathlib.Core.Path.{◌≡◌, ap}
use mathlib.Core.List.{[]}
use Rattle.terms.specs.declared.letters.Ask.{Ask}
use Rattle.desks.specs.Request.{Request}
use Rattle.desk_rules.specs.Desk.{Desk}
use Rattle.desk_rules.specs.Rules.{grant, queued, rule1, retry, begin}
use Rattle.desk_rules.specs.Step.{step}
use Rattle.desk_rules.specs.Course.{from}
use Rattle.desks.specs.Recorded.{Recorded}
use Rattle.desks.proofs.Records.{recorded_by}
use Rattle.desk_rules.proofs.AnswerTells.{AskWent, had, got, begin_went, retry_went, ask_went, ask_waited}

-- a request for a cell that goes wakes no job
none_woken : {d : Desk} {r : Request} {a : Ask} → AskWent d r a → (step d r).wakes ≡ []
none_woken (had h o) = unfold rule1 in ap (λ x. x.wakes) o
none_woken (got m h k o) = unfold grant in ap (λ x. x.wakes) o

-- what is promised of the records of a step
pub recorded : (d : Desk) (r : Request) → Recorded (from d) r
unfolding begin retry queued
recorded d r =
    recorded_by step d r (λ a j e g. none_woken (ask_went d r a j e g).1) (λ j e g. ap (λ o. o.wakes) (begin_went d r j e g).outcome)
    (λ j e g. ap (λ o. o.wakes) (retry_went d r j e g).outcome) (λ j g. ap (λ o. o.wakes) (ask_waited d r j g).outcome)
