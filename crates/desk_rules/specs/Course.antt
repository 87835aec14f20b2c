-- All that a lock desk shows from now on, however it is kept. The words of demand 3 and the promises speak of this, so each is said once for the paper's desk and for every desk that runs.
use Rattle.desks.specs.Course as desks
use Rattle.desks.specs.Course.{course}
use Rattle.desk_rules.specs.Desk.{Desk}
use Rattle.desk_rules.specs.Step.{step}

-- what a lock desk shows, as desks of the paper
abbrev pub Course : Type 0
Course = desks.Course Desk

-- what the paper's desk shows
abbrev pub from : Desk → Course
from d = course (λ e. e) step d
