-- `judge_line::lines::put_jobs` meets its contract: the fields of the jobs passed are written.
-- Assumes nothing.
use Rattle.std.proofs.Common.{◌+◌, arith}
use Rattle.text_rules.proofs.WroteLaws.{wrote_as, wrote_then, wrote_length}
use Rattle.text_rules.proofs.TabbedLaws.{none_written, tabbed_next, next_length, first_shorter}
use Rattle.judge_line.proofs.lines.put_jobs.Goals as goal

pub loop-job-init : goal.loop-job-init
loop-job-init c = none_written c.args.jobs.now (omega arith)

pub put_field-next-requires : goal.put_field-next-requires
put_field-next-requires c =
    let w = c.loop-job.invariant in
    let h = first_shorter c.args.jobs.now (c.loop-job.job-index + 1) in
    rw c.from.ensures (omega (arith, next_length c.args.jobs.now c.loop-job.job-index (omega arith), h, wrote_length w, w.ends))

pub loop-job-preserved : goal.loop-job-preserved
loop-job-preserved c = wrote_as (wrote_then c.loop-job.invariant (rw c.from.ensures at c.put_field-next.ensures)) (tabbed_next _ _ (omega arith))
