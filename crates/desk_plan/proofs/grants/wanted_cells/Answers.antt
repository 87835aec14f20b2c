-- `desk_plan::grants::wanted_cells` meets its contract: after the last place every place is passed.
-- Assumes nothing.
use mathlib.Core.Path.{◌≡◌, ap, ◌∙◌}
use native.Mathlib.Omega.{arith}
use Rattle.desk_plan.specs.Grants.{wanted}
use Rattle.desk_plan.proofs.grants.wanted_cells.Goals as goal

pub returns : goal.returns
returns c = let e : c.loop-q.q ≡ 32 = omega arith in c.loop-q.invariant ∙ ap (wanted _ _) e
