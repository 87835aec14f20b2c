-- `desk::wakes::tell` meets its contract. The loop's invariant: the wakes of the places passed are listed.
-- Assumes nothing.
use mathlib.Core.Path.{◌≡◌}
use mathlib.Core.List.{map}
use lib.ListN.{take}
use Rattle.desk_arrays.specs.Steps.{wake_at, listed}
use Rattle.desk.proofs.wakes.tell.Given as goal

abbrev pub invariant-loop-i : goal.invariant-loop-i
invariant-loop-i l = l.wakes ≡ listed (map (wake_at l.w.number.now l.w.cell.now l.w.ask.now) (take l.i l.woken))
