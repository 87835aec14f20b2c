-- `verdict::take_all` meets its contract. The loop's invariant: the first bytes of what was read so far are kept, as far as there is room.
-- The measure is the room that is left. Assumes nothing.
use Prim.Native.Nat.{◌-◌}
use mathlib.Core.Path.{◌≡◌}
use lib.ListN.{length}
use Rattle.verdict.specs.Taking.{Took}
use Rattle.verdict.proofs.take_all.Given as goal

abbrev pub invariant-loop-len : goal.invariant-loop-len
invariant-loop-len l = (Took l.initial.text l.text l.len) × (length l.text ≡ length l.initial.text)

abbrev pub decreases-loop-len : goal.decreases-loop-len
decreases-loop-len l = length l.initial.text - l.len
