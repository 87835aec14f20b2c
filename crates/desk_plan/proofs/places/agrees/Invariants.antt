-- `desk_plan::places::agrees` meets its contract. The loop's invariant: the test holds of every place passed.
-- Assumes nothing.
use mathlib.Core.Path.{◌≡◌}
use mathlib.Core.Bool.{true, ◌||◌}
use lib.Dec.{eqb}
use Rattle.conflict.specs.Modes.{grants}
use Rattle.desk_arrays.specs.Places.{all_below, mode_at}
use Rattle.desk_plan.proofs.places.agrees.Given as goal

abbrev pub invariant-loop-q : goal.invariant-loop-q
invariant-loop-q l = all_below (λ k. eqb k l.p || grants (mode_at l.held l.c k) l.m) l.q ≡ true
