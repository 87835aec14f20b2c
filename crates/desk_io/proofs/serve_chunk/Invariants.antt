-- `desk_io::serve_chunk` meets its contract. The loop's invariant: the front has seen the chunk up to a place, and the buffer keeps its length. The measure is what is left of the chunk.
-- Assumes nothing.
use Prim.Native.Nat.{◌-◌}
use mathlib.Core.Path.{◌≡◌}
use lib.ListN.{length, take}
use Rattle.desk_io.specs.Serving.{front_after}
use Rattle.desk_io.proofs.serve_chunk.Given as goal

abbrev pub invariant-loop-seen : goal.invariant-loop-seen
invariant-loop-seen l = (l.front ≡ front_after l.initial.front (take l.seen l.chunk)) × (length l.out ≡ length l.initial.out)

abbrev pub decreases-loop-seen : goal.decreases-loop-seen
decreases-loop-seen l = length l.chunk - l.seen
