-- `desk_plan::places::agrees` meets its contract: the test fails at one place, so it does not hold of all.
-- Assumes nothing.
use mathlib.Core.Path.{sym}
use Rattle.laws.specs.Choice.{was_false}
use Rattle.desk_arrays.specs.Places.{agrees_at}
use Rattle.desk_plan.proofs.Every.{all_fails}
use Rattle.desk_plan.proofs.places.agrees.Goals as goal

pub returns-then-not-grants_at : goal.returns-then-not-grants_at
unfolding agrees_at
returns-then-not-grants_at c = sym (all_fails _ _ _ c.loop-q-test.true (was_false _ c.grants_at.ensures c.if-not-grants_at.true))
