-- What a step does, by its answer: begin, retry, commit, give-up, sending back, a request that goes, and a wait (01, The desk's rules).
-- Assumes nothing.
use mathlib.Core.Path.{ap}
use Rattle.conflict.specs.History.{History}
use Rattle.desk_rules.specs.Desk.{Desk, is_live}
use Rattle.desk_rules.specs.Step.{step, step_by, Started}
use Rattle.desk_rules.specs.Course.{from}
use Rattle.desk_rules.specs.StepEffects.{StepEffects}
use Rattle.desk_rules.proofs.Kept.{started_inv}
use Rattle.desk_rules.proofs.Statuses.{running_open}
use Rattle.desk_rules.proofs.Away.{not_live_away}
use Rattle.desk_rules.proofs.AnswerTells.{begin_went, retry_went, ask_went, ask_waited, ask_back}
use Rattle.desk_rules.proofs.Opening.{begin_begins, retry_retries}
use Rattle.desk_rules.proofs.Ending.{close_closes, back_sends, close_went}
use Rattle.desk_rules.proofs.ClosedForGood.{closed_through}
use Rattle.desk_rules.proofs.Granting.{went_grants}
use Rattle.desk_rules.proofs.ExactModes.{exactly_by}
use Rattle.desk_rules.proofs.Queueing.{waited_waits}

-- what is promised of one step by its answer
pub effects : {d : Desk} {h : History} → Started d h → StepEffects (from d)
effects {d} s = record {
  begins = λ r j e g. let c = begin_went d r j e g in rw (c.job, c.outcome) (begin_begins (started_inv s) c.was.1);
  retries = λ r j e g. let c = retry_went d r j e g in rw (c.job, c.outcome) (retry_retries (started_inv s) r.job c.was);
  closes = λ r j e g. let c = close_went d r j e g in rw (c.job, c.outcome) (close_closes (started_inv s) r.job c.was);
  sends_back = λ r j g. let c = ask_back d r j g in rw (c.job, c.outcome) (back_sends (started_inv s) r.job (running_open c.was.1.runs));
  sent_back_away = λ j e. not_live_away (started_inv s) j (unfold is_live in rw e);
  closed_for_good = λ j l e rs. closed_through (started_inv s) rs j l e;
  grants_need = λ r a j e g. let (q, w) = ask_went d r a j e g in rw q (went_grants w);
  grants_exactly = λ r a j e g. exactly_by d r a j (d.stat r.job) (unfold step step_by in ap (step_by d r) e) g;
  waits = λ r j g. let w = ask_waited d r j g in (w.ask, waited_waits w);
}
