-- `tuyenlomac::locks::tell_wakes` meets its contract. The loop's invariant: the wakes of the places passed are told.
-- Assumes nothing.
use mathlib.Core.Path.{◌≡◌}
use mathlib.Core.List.{map}
use lib.ListN.{take}
use Rattle.desk_arrays.specs.Steps.{wake_at}
use Rattle.tuyenlomac.specs.Desks.{lists_of, wakes_in}
use Rattle.tuyenlomac.proofs.locks.tell_wakes.Given as goal

abbrev pub invariant-loop-i : goal.invariant-loop-i
invariant-loop-i l = lists_of l.jobs l.cells l.kinds ≡ wakes_in (map (wake_at l.w.number.now l.w.cell.now l.w.ask.now) (take l.i l.woken)) (lists_of l.initial.jobs l.initial.cells l.initial.kinds)
