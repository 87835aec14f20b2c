-- `judge_core::dirty::first_read` meets its contract. The loop's invariant: no line passed is a dirty read, and the table has for each cell the latest end of the runs that changed it.
-- Assumes nothing.
use Rattle.std.proofs.Common.{◌≡◌, ℕ, ◌<◌, false}
use Rattle.judge_core.specs.Lists.{values_of}
use Rattle.judge_core.specs.RunEnds.{latest_end, dirty_at}
use Rattle.judge_core.proofs.dirty.first_read.Given as goal

abbrev pub invariant-loop-p : goal.invariant-loop-p
invariant-loop-p l =
    (l.latest ≡ values_of (λ x. latest_end l.kept.codes.now l.kept.cells.now l.ends x l.p) 256) × ((q : ℕ) → q < l.p → dirty_at l.kept.codes.now l.kept.cells.now l.ends q ≡ false)
