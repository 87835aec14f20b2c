-- `try_text::report_chunk` is safe and ends. The loop's invariant: the splitter keeps its sizes, and the place lies within the buffer.
-- The measure is what is left of the chunk. Assumes nothing.
use Prim.Native.Nat.{◌-◌, ◌≤◌}
use lib.ListN.{length}
use Rattle.text_rules.specs.Split.{Sized}
use Rattle.try_text.proofs.report_chunk.Given as goal

abbrev pub invariant-loop-from : goal.invariant-loop-from
invariant-loop-from l = (Sized l.splitter) × (l.at ≤ length l.out)

abbrev pub decreases-loop-from : goal.decreases-loop-from
decreases-loop-from l = length l.chunk - l.from
