-- The desk that runs: its arrays take requests one step at a time, and show the paper's desk.
use Rattle.conflict.specs.History.{History}
use Rattle.desk_rules.specs.Desk as paper
use Rattle.desks.specs.Stepping.{Stepping}
use Rattle.desks.specs.Started.{StartedOn}
use Rattle.desk_rules.specs.Seen.{seen_by}
use Rattle.desks.specs.Course.{course}
use Rattle.desk_rules.specs.Course.{Course}
use Rattle.desk_arrays.specs.declared.state.Desk.{Desk}
use Rattle.desk_arrays.specs.Steps.{empty_desk, step_of}
use Rattle.desk_arrays.specs.Stands.{status_by, mode_by, wakes_told}

-- the paper's desk as the arrays show it
abbrev pub view : Desk → paper.Desk
view d = seen_by d.next d.number (status_by d) (mode_by d)

-- the step of the arrays: the desk left, the answer, and the wakes
abbrev pub on_arrays : Stepping Desk
on_arrays d r =
    let o = step_of d r.kind r.job r.cell in
    record { desk = o.desk; said = o.said.answer; wakes = wakes_told o.said }

-- arrays reached from a start, and the history written so far
abbrev pub Started : Desk → History → Type 0
Started = StartedOn on_arrays empty_desk

-- what the desk that runs shows from now on
abbrev pub running : Desk → Course
running = course view on_arrays
