-- `judge_core::kept::first_fault` meets its contract. The loop's invariant: the lines passed have no fault, and the flags say which jobs have ended on them.
-- Assumes nothing.
use Rattle.std.proofs.Common.{◌≤◌, []}
use Rattle.judge_rules.specs.Arrays.{history_by}
use Rattle.judge_core.specs.Kept.{first_fault, Flagged}
use Rattle.judge_core.proofs.Faultless.{At}
use Rattle.judge_core.proofs.kept.first_fault.Given as goal

abbrev pub invariant-loop-p : goal.invariant-loop-p
invariant-loop-p l =
    (l.p ≤ 4096) × Flagged l.ended (history_by l.kept.codes.now l.kept.jobs.now l.kept.cells.now l.p) × At l.kept.codes.now l.kept.jobs.now l.kept.cells.now l.n (first_fault 1 [] (history_by l.kept.codes.now l.kept.jobs.now l.kept.cells.now l.n)) l.p
