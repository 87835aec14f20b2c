-- No second result meets the contract of the plan, of a job's place, of "nobody waits", of the cells with waiters and of the next grant.
-- Assumes nothing.
use mathlib.Core.Path.{sym, ◌∙◌}
use Rattle.laws.specs.Unique.{Unique}
use Rattle.desk_plan.proofs.grants.front_grant.Reads as front-grant
use Rattle.desk_plan.proofs.grants.front_grant.Kinds as front-grantK
use Rattle.desk_plan.proofs.grants.none_waits.Reads as none-waits
use Rattle.desk_plan.proofs.grants.none_waits.Kinds as none-waitsK
use Rattle.desk_plan.proofs.grants.wanted_cells.Reads as wanted-cells
use Rattle.desk_plan.proofs.grants.wanted_cells.Kinds as wanted-cellsK
use Rattle.desk_plan.proofs.plan.find.Reads as find
use Rattle.desk_plan.proofs.plan.find.Kinds as findK
use Rattle.desk_plan.proofs.plan.plan_for.Reads as plan-for
use Rattle.desk_plan.proofs.plan.plan_for.Kinds as plan-forK

pub front_grant_unique : Unique front-grantK.ps front-grantK.r front-grant.Post
front_grant_unique κs a x y e f p q = p ∙ sym q

pub none_waits_unique : Unique none-waitsK.ps none-waitsK.r none-waits.Post
none_waits_unique κs a x y e f p q = p ∙ sym q

pub wanted_cells_unique : Unique wanted-cellsK.ps wanted-cellsK.r wanted-cells.Post
wanted_cells_unique κs a x y e f p q = p ∙ sym q

pub find_unique : Unique findK.ps findK.r find.Post
find_unique κs a x y e f p q = p.0 ∙ sym q.0

pub plan_for_unique : Unique plan-forK.ps plan-forK.r plan-for.Post
plan_for_unique κs a x y e f p q = p ∙ sym q
