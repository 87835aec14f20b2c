-- `text::writer::width` meets its contract. The loop's invariant: `w` plus the digits of `rest`, less one, is the width of `n`.
-- Assumes nothing.
use Rattle.text_rules.proofs.DigitLaws.{Counting}
use Rattle.text.proofs.writer.width.Given as goal

abbrev pub invariant-loop-rest : goal.invariant-loop-rest
invariant-loop-rest l = Counting l.n l.w l.rest

abbrev pub decreases-loop-rest : goal.decreases-loop-rest
decreases-loop-rest l = l.rest
