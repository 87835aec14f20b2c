-- `desk_plan::grants::wanted_cells` meets its contract. The loop's invariant: the cells of the places passed are marked.
-- Assumes nothing.
use mathlib.Core.Path.{◌≡◌}
use Rattle.desk_plan.specs.Grants.{wanted}
use Rattle.desk_plan.proofs.grants.wanted_cells.Given as goal

abbrev pub invariant-loop-q : goal.invariant-loop-q
invariant-loop-q l = l.cells ≡ wanted l.status l.cell l.q
