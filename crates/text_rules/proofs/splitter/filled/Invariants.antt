-- `text_rules::splitter::filled` meets its contract. The loop's invariant: the first i bytes of the part are put in.
-- Assumes nothing.
use Prim.Native.Nat.{◌≤◌}
use mathlib.Core.Path.{◌≡◌}
use lib.ListN.{take}
use lib.Seq.{sets}
use Rattle.text_rules.proofs.splitter.filled.Given as goal

abbrev pub invariant-loop-i : goal.invariant-loop-i
invariant-loop-i l = (l.i ≤ l.n) × (l.all ≡ sets l.initial.all l.len (take l.i l.part))
