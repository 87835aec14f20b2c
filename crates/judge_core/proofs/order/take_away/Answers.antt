-- `judge_core::order::take_away` meets its contract: the jobs taken stand in order, those to come are the rest of the order, and the predecessors are those of the remaining jobs.
-- Assumes nothing.
use Rattle.std.proofs.Common.{rules}
use Rattle.judge_core.proofs.Predecessors.{preceding_none, preceding_less, never_left}
use Rattle.judge_core.proofs.TakingAway.{going_none, going_fits, going_more}
use Rattle.judge_core.proofs.order.take_away.Goals as goal

pub loop-j-init : goal.loop-j-init
loop-j-init c = (going_none _ _ _ (search rules) (search rules), preceding_none _ _ c.requires, c.requires)

pub loop-j-preserved : goal.loop-j-preserved
loop-j-preserved c =
    let inv = c.loop-j.invariant in
    let found = c.in-Some.ensures.value in
    let small = (going_fits _ _ _ _ _ inv.0 _ found).0 in
    (going_more _ _ _ _ _ inv.0 _ found, preceding_less _ _ _ c.in-Some.ensures.preceding _ inv.0.flags small, never_left _ _ inv.0.flags small inv.2)
