-- `text::reader::digits_at` meets its contract. The loop's invariant: the digits left decide as the whole does.
-- Assumes nothing.
use Prim.Native.Nat.{◌≤◌}
use mathlib.Core.Path.{◌≡◌}
use lib.ListN.{drop}
use Rattle.text_rules.specs.Fields.{digits_at}
use Rattle.text.proofs.reader.digits_at.Given as goal

abbrev pub invariant-loop-next : goal.invariant-loop-next
invariant-loop-next l = (l.value ≤ l.most) × (digits_at l.most l.value l.next (drop l.next l.line) ≡ digits_at l.most 0 l.from (drop l.from l.line))
