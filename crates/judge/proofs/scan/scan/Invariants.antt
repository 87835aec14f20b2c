-- `judge::scan::scan` meets its contract. The loop's invariant: what is left decides as the whole does, and the kept lines stand before what is left.
-- The measure is what is left of the text. Assumes nothing.
use Prim.Native.Nat.{◌-◌}
use lib.ListN.{length}
use Rattle.judge.proofs.Scanning.{Scanning}
use Rattle.judge.proofs.scan.scan.Given as goal

abbrev pub invariant-loop-from : goal.invariant-loop-from
invariant-loop-from l = Scanning l.text l.lines l.ended l.n l.from

abbrev pub decreases-loop-from : goal.decreases-loop-from
decreases-loop-from l = length l.text - l.from
