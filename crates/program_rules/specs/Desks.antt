-- The clerk's two desks as one: the method says which of them takes the requests, and the other is unchanged (02, No. 6).
use Rattle.std.specs.Prelude.{ℕ}
use Rattle.desks.specs.Request.{Request}
use Rattle.desks.specs.Stepping.{Stepped, Stepping}
use Rattle.desk_arrays.specs.declared.state.Desk.{Desk}
use Rattle.desk_arrays.specs.Steps.{empty_desk}
use Rattle.desk_arrays.specs.Seen.{on_arrays}
use Rattle.stamp_arrays.specs.declared.state.Stamps as arrays
use Rattle.stamp_arrays.specs.Steps.{empty_stamps}
use Rattle.stamp_arrays.specs.Seen.{on_stamps}
use Rattle.program_rules.specs.declared.Desks.{Desks}
use Rattle.program_rules.specs.declared.Method.{Method}
use Rattle.program_rules.specs.declared.Method.TheVariants.{Locks, Stamps}

-- the two desks under a method
abbrev pub desks_of : Method → Desk → arrays.Stamps → Desks
desks_of m locks stamps = record { method = m; locks = locks; stamps = stamps }

-- both desks empty, with this next number
unfoldable pub new_desks : Method → ℕ → Desks
new_desks m n = desks_of m (empty_desk n) (empty_stamps n)

-- a step of one desk leaves the other as it was
unfoldable pub step_by : Method → Desks → Request → Stepped Desks
step_by Locks d r = let o = on_arrays d.locks r in record { desk = desks_of Locks o.desk d.stamps; said = o.said; wakes = o.wakes }
step_by Stamps d r = let o = on_stamps d.stamps r in record { desk = desks_of Stamps d.locks o.desk; said = o.said; wakes = o.wakes }

-- one step of the desks: a step of the desk that the method names (02, No. 6)
unfoldable pub on_desks : Stepping Desks
on_desks d r = step_by d.method d r
