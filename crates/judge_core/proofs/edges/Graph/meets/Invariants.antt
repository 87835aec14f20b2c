-- `judge_core::edges::Graph::meets` meets its contract. The outer loop's invariant: the lines left decide as all do. The inner loop's: no last line of a kind passed conflicts.
-- Assumes nothing.
use Rattle.std.proofs.Common.{◌≡◌, ℕ, ◌<◌, false, take}
use Rattle.judge_core.specs.Meeting.{clashing, meetings}
use Rattle.judge_core.specs.Grouped.{part_at}
use Rattle.judge_core.specs.Reaching.{last_met}
use Rattle.judge_core.proofs.edges.Graph.meets.Given as goal

abbrev pub invariant-loop-kind : goal.invariant-loop-kind
invariant-loop-kind l = (l.found ≡ false) × ((k : ℕ) → k < l.kind → last_met l.self.kept.codes.now l.self.kept.jobs.now l.self.kept.cells.now l.self.lasts.now l.j l.x k ≡ false)

abbrev pub invariant-outer : goal.invariant-outer
invariant-outer l =
    let clash = clashing l.self.kept.codes.now l.self.kept.jobs.now l.self.kept.cells.now in
    let ys = part_at l.self.lines.now l.self.starts.now l.j in
    (l.found ≡ false) × (meetings clash l.xs ys ≡ meetings clash (take l.i l.xs) ys)
