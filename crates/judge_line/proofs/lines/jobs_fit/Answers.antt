-- `judge_line::lines::jobs_fit` meets its contract: the spare room and the fields of the jobs passed make the whole room.
-- Assumes nothing.
use Rattle.std.proofs.Common.{arith, length, ap, ◌∙◌}
use Rattle.text_rules.specs.Decimal.{decimal}
use Rattle.judge_line.proofs.SpareRoom.{spare_all, spare_next, spare_none}
use Rattle.judge_line.proofs.lines.jobs_fit.Goals as goal

pub loop-job-init : goal.loop-job-init
loop-job-init c = spare_all _ _

pub returns-then-spare-digits : goal.returns-then-spare-digits
returns-then-spare-digits c = spare_none _ c.loop-job.invariant (omega arith) (c.width-digits.ensures ∙ ap (λ n. length (decimal n)) c.from.ensures) c.if-spare-digits.true

pub loop-job-preserved : goal.loop-job-preserved
loop-job-preserved c = spare_next c.width-digits.result _ c.loop-job.invariant (omega arith) (c.width-digits.ensures ∙ ap (λ n. length (decimal n)) c.from.ensures) (omega arith)
