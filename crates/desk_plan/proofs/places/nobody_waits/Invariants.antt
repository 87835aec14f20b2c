-- `desk_plan::places::nobody_waits` meets its contract. The loop's invariant: the flag tells whether none of the places passed waits for the cell.
-- Assumes nothing.
use mathlib.Core.Path.{◌≡◌}
use mathlib.Core.Bool.{not}
use Rattle.desk_arrays.specs.Places.{all_below, waits_at}
use Rattle.desk_plan.proofs.places.nobody_waits.Given as goal

abbrev pub invariant-loop-q : goal.invariant-loop-q
invariant-loop-q l = l.nobody ≡ all_below (λ k. not (waits_at l.b.status.now l.b.cell.now l.c k)) l.q
