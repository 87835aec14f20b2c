-- `text::writer::put_number` meets its contract: the digits still to be written and the bytes already written make the whole.
-- Assumes nothing.
use Rattle.std.proofs.Common.{arith, length-set}
use Rattle.text_rules.proofs.DigitLaws.{one_more, none_to_write}
use Rattle.text.proofs.writer.put_number.Goals as goal

pub loop-i-preserved : goal.loop-i-preserved
loop-i-preserved c = (omega arith, rw length-set c.loop-i.invariant.1, one_more _ _ _ _ (omega arith) (omega arith) c.loop-i.invariant.2)

pub returns : goal.returns
returns c = record { ends = omega arith; within = omega arith; holds = none_to_write _ _ _ _ (omega arith) c.loop-i.invariant.2 }
