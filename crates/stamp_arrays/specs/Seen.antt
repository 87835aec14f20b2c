-- The timestamp desk that runs: its arrays take requests one step at a time, and show the request's desk.
use Rattle.std.specs.Prelude.{[], get_or}
use Rattle.conflict.specs.History.{History}
use Rattle.desks.specs.Stepping.{Stepping}
use Rattle.desks.specs.Started.{StartedOn}
use Rattle.desks.specs.Course.{Course, course}
use Rattle.stamp_rules.specs.Desk as paper
use Rattle.stamp_arrays.specs.declared.state.Stamps.{Stamps}
use Rattle.stamp_arrays.specs.Steps.{empty_stamps, step_of}

-- the request's desk as the arrays show it
abbrev pub view : Stamps → paper.Desk
view d = record { next = d.next; jobs = d.number; reader = λ c. get_or d.reader c 0; writer = λ c. get_or d.writer c 0 }

-- the step of the arrays: the desk left and the answer; nobody is woken
abbrev pub on_stamps : Stepping Stamps
on_stamps d r =
    let o = step_of d r.kind r.job r.cell in
    record { desk = o.stamps; said = o.answer; wakes = [] }

-- arrays reached from a start, and the history written so far
abbrev pub Started : Stamps → History → Type 0
Started = StartedOn on_stamps empty_stamps

-- what the timestamp desk that runs shows from now on
abbrev pub running : Stamps → Course paper.Desk
running = course view on_stamps
