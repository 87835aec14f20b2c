-- All that a timestamp desk shows from now on, however it is kept. The promises speak of this, so each is said once for the request's desk and for every desk that runs.
use Rattle.desks.specs.Course.{Course, course}
use Rattle.stamp_rules.specs.Desk.{Desk}
use Rattle.stamp_rules.specs.Step.{step}

-- what the request's desk shows
abbrev pub from : Desk → Course Desk
from d = course (λ e. e) step d
