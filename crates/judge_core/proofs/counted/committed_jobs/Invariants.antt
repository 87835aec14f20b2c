-- `judge_core::counted::committed_jobs` meets its contract. The loop's invariant: the table says which jobs have a c among the lines passed, and their jobs are bytes.
-- Assumes nothing.
use Rattle.std.proofs.Common.{◌≡◌, ℕ, ◌<◌, get_or}
use Rattle.judge_core.specs.Lists.{values_of}
use Rattle.judge_core.specs.Counted.{has_commit}
use Rattle.judge_core.proofs.counted.committed_jobs.Given as goal

abbrev pub invariant-loop-p : goal.invariant-loop-p
invariant-loop-p l = (l.done ≡ values_of (has_commit l.kept.codes.now l.kept.jobs.now l.p) 256) × ((q : ℕ) → q < l.p → get_or l.kept.jobs.now q 0 < 256)
