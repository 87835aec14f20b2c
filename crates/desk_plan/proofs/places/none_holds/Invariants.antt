-- `desk_plan::places::none_holds` meets its contract. The loop's invariant: the flag tells whether none of the places passed holds the cell.
-- Assumes nothing.
use mathlib.Core.Path.{◌≡◌}
use lib.Dec.{eqb}
use lib.ListN.{get_or}
use Rattle.desk_arrays.specs.Places.{spot, all_below}
use Rattle.desk_plan.proofs.places.none_holds.Given as goal

abbrev pub invariant-loop-q : goal.invariant-loop-q
invariant-loop-q l = l.none ≡ all_below (λ k. eqb (get_or l.held (spot l.c k) 0) 0) l.q
