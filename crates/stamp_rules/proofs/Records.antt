-- What the history records of a step of the timestamp desk, by its request and its answer: no step wakes a job (01, Lines; 02, No. 6).
-- Assumes nothing.
use Rattle.desks.specs.Request.{Request}
use Rattle.desks.specs.Recorded.{Recorded}
use Rattle.desks.proofs.Records.{recorded_by}
use Rattle.stamp_rules.specs.Desk.{Desk}
use Rattle.stamp_rules.specs.Step.{step}
use Rattle.stamp_rules.specs.Course.{from}
use Rattle.stamp_rules.proofs.Quiet.{nobody_woken}

-- what is promised of the records of a step
pub recorded : (d : Desk) (r : Request) → Recorded (from d) r
recorded d r = let quiet = nobody_woken d r in recorded_by step d r (λ a j e g. quiet) (λ j e g. quiet) (λ j e g. quiet) (λ j g. quiet)
