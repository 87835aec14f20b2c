-- `desk_plan::places::front_of` meets its contract. The loop's invariant: the youngest waiter among the places passed, and its number.
-- Assumes nothing.
use mathlib.Core.Path.{◌≡◌}
use lib.ListN.{get_or}
use Rattle.desk_arrays.specs.Places.{youngest}
use Rattle.desk_plan.proofs.places.front_of.Given as goal

abbrev pub invariant-loop-q : goal.invariant-loop-q
invariant-loop-q l = (l.best ≡ youngest l.b.number.now l.b.status.now l.b.cell.now l.c l.q) × (l.age ≡ get_or l.b.number.now l.best 0)
