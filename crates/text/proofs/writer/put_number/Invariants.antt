-- `text::writer::put_number` meets its contract. The loop's invariant: the digits still to be written and the bytes already written make the whole.
-- Assumes nothing.
use Prim.Native.Nat.{◌≤◌}
use mathlib.Core.Path.{◌≡◌}
use mathlib.Core.List.{◌++◌}
use lib.ListN.{length, drop}
use Rattle.text_rules.specs.Decimal.{decimal}
use Rattle.text_rules.proofs.DigitLaws.{last_digits}
use Rattle.text.proofs.writer.put_number.Given as goal

abbrev pub invariant-loop-i : goal.invariant-loop-i
invariant-loop-i l = (l.i ≤ l.digits) × (length l.part ≡ length l.initial.part) × (last_digits l.i l.rest ++ drop l.i l.part ≡ decimal l.fn.n ++ drop l.digits l.initial.part)
