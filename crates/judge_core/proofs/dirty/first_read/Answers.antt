-- `judge_core::dirty::first_read` meets its contract: no line passed is a dirty read, and the table has for each cell the latest end of the runs that changed it.
-- Assumes nothing.
use Rattle.std.proofs.Common.{arith, below_none, below_more, sym, ◌∙◌}
use Rattle.judge_core.proofs.DirtyPasses.{latest_none, latest_more, dirty_by}
use Rattle.judge_core.proofs.dirty.first_read.Goals as goal

pub loop-p-init : goal.loop-p-init
loop-p-init c = (latest_none _ _ _, below_none _)

pub loop-p-preserved : goal.loop-p-preserved
loop-p-preserved c = (
  latest_more _ _ _ _ _ _ c.loop-p.invariant.0 c.from-cell.ensures (omega arith) _ c.later_end.ensures,
  below_more _ _ c.loop-p.invariant.1 (sym (dirty_by _ _ _ _ _ _ c.loop-p.invariant.0 c.from-cell.ensures (omega arith) _ c.reads_dirt.ensures) ∙ c.if-reads_dirt.false),
)
