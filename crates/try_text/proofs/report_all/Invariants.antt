-- `try_text::report_all` is safe and ends. The loop's invariant: the splitter keeps its sizes, and the place lies within the output.
-- Assumes nothing.
use Prim.Native.Nat.{◌≤◌}
use lib.ListN.{length}
use Rattle.text_rules.specs.Split.{Sized}
use Rattle.try_text.proofs.report_all.Given as goal

abbrev pub invariant-loop : goal.invariant-loop
invariant-loop l = (Sized l.progress.splitter) × (l.progress.at ≤ length l.out)
