-- `desk_io::serve_all` meets its contract. The loop's invariant: the front has seen what was read so far, and both buffers keep their lengths.
-- Assumes nothing.
use mathlib.Core.Path.{◌≡◌}
use lib.ListN.{length}
use Rattle.desk_io.specs.Serving.{Saw}
use Rattle.desk_io.proofs.serve_all.Given as goal

abbrev pub invariant-loop-turn : goal.invariant-loop-turn
invariant-loop-turn l = (Saw l.initial.front l.front) × (length l.input ≡ length l.initial.input) × (length l.out ≡ length l.initial.out)
