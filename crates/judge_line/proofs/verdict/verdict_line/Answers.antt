-- `judge_line::verdict::verdict_line` meets its contract: a text that is too long is refused; any other is judged with an order of 255 places.
-- Assumes nothing.
use Rattle.std.proofs.Common.{◌∙◌}
use Rattle.judge_line.proofs.Saying.{says_too_long, says_judged}
use Rattle.judge_line.proofs.verdict.verdict_line.Goals as goal

pub returns-then-text-gt-JUDGED_BYTES : goal.returns-then-text-gt-JUDGED_BYTES
returns-then-text-gt-JUDGED_BYTES c = says_too_long _ _ _ c.if-text-gt-JUDGED_BYTES.true (c.from-then-text-gt-JUDGED_BYTES.ensures ∙ c.from.ensures) c.write_no.ensures

pub returns : goal.returns
returns c = says_judged _ _ _ _ c.if-text-gt-JUDGED_BYTES.false c.judge_text-said.ensures.said c.judge_text-said.ensures.order c.write_verdict.ensures
