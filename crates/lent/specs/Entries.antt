-- The desk that a call on a lent desk leaves, and its answer, joined as the step by value gives them; and such a call, as the entries' contracts have it (02, No. 7).
use Rattle.std.specs.Prelude.{◌≡◌, []}
use Rattle.desks.specs.declared.Answer.{Answer}
use Rattle.desks.specs.Request.{Request}
use Rattle.desks.specs.Stepping.{Stepped}
use Rattle.desk_arrays.specs.declared.state.Desk.{Desk}
use Rattle.desk_arrays.specs.declared.state.Said.{Said}
use Rattle.desk_arrays.specs.declared.state.Outcome.{Outcome}
use Rattle.desk_arrays.specs.Steps as locks
use Rattle.desk_arrays.specs.Stands.{wakes_told}
use Rattle.stamp_arrays.specs.declared.state.Stamps.{Stamps}
use Rattle.stamp_arrays.specs.declared.state.Stamped.{Stamped}
use Rattle.stamp_arrays.specs.Steps as stamps

-- the lock desk that a call leaves, and what it says
abbrev pub leaving : Desk → Said → Outcome
leaving d s = record { desk = d; said = s }

-- the timestamp desk that a call leaves, and its answer
abbrev pub stamping : Stamps → Answer → Stamped
stamping d a = record { stamps = d; answer = a }

-- a call on the lock desk: what it leaves and says equals the step by value on the desk found
abbrev pub OnLocks : Desk → Request → Outcome → Type 0
OnLocks d r o = leaving o.desk o.said ≡ locks.step_of d r.kind r.job r.cell

-- a call on the timestamp desk, likewise
abbrev pub OnStamps : Stamps → Request → Stamped → Type 0
OnStamps d r o = stamping o.stamps o.answer ≡ stamps.step_of d r.kind r.job r.cell

-- what a call leaves and says, in terms common to all desks: the desk, the answer and the wakes
abbrev pub locks_told : Outcome → Stepped Desk
locks_told o = record { desk = o.desk; said = o.said.answer; wakes = wakes_told o.said }

-- the same for the timestamp desk, where nobody wakes
abbrev pub stamps_told : Stamped → Stepped Stamps
stamps_told o = record { desk = o.stamps; said = o.answer; wakes = [] }
