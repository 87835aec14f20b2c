-- `text::writer::width` meets its contract: `w` plus the digits of `rest`, less one, is the width of `n`.
-- Assumes nothing.
use Rattle.std.proofs.Common.{arith}
use Rattle.text_rules.proofs.DigitLaws.{counting_four, counting_last, counting_next, counting_two, counting_three}
use Rattle.text.proofs.writer.width.Goals as goal

pub loop-rest-preserved : goal.loop-rest-preserved
loop-rest-preserved c = counting_four _ _ _ c.loop-rest.invariant c.loop-rest-test.true

pub returns-then-rest-lt10 : goal.returns-then-rest-lt10
returns-then-rest-lt10 c = counting_last _ _ _ c.loop-rest.invariant c.if-rest-lt10.true

pub returns-then-rest-lt100 : goal.returns-then-rest-lt100
returns-then-rest-lt100 c = counting_last _ _ _ (counting_next _ _ _ c.loop-rest.invariant c.if-rest-lt10.false) (omega arith)

pub returns-then-rest-lt1000 : goal.returns-then-rest-lt1000
returns-then-rest-lt1000 c = counting_last _ _ _ (counting_two _ _ _ c.loop-rest.invariant c.if-rest-lt100.false) (omega arith)

pub returns : goal.returns
returns c = counting_last _ _ _ (counting_three _ _ _ c.loop-rest.invariant c.if-rest-lt1000.false) (omega arith)
