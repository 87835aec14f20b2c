-- `judge_core::kept::first_fault` meets its contract: the lines passed have no fault, and the flags say which jobs have ended on them.
-- Assumes nothing.
use Rattle.std.proofs.Common.{arith}
use Rattle.judge_core.proofs.KeptFaults.{fault_many, flags_none}
use Rattle.judge_core.proofs.Faultless.{at_start, at_found, line_passed}
use Rattle.judge_core.proofs.kept.first_fault.Goals as goal

pub loop-p-init : goal.loop-p-init
loop-p-init c = (omega arith, flags_none _ _ _, at_start _ _ _ _)

pub returns-then-line-gt-JUDGED_LINES : goal.returns-then-line-gt-JUDGED_LINES
returns-then-line-gt-JUDGED_LINES c = at_found _ _ _ _ _ _ _ (omega arith) (fault_many _ _ _ _ _ (omega arith)) c.loop-p.invariant.2

pub loop-p-preserved : goal.loop-p-preserved
loop-p-preserved c =
    let passed = line_passed _ _ _ _ _ _ _ _ _ c.in_default.ensures (omega arith) c.loop-p.invariant.1 c.loop-p.invariant.2 c.from.ensures (omega arith) c.ends_job.ensures in
    (omega arith, passed.0, passed.1)
