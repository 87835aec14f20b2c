-- `judge_core::counted::counted_from` meets its contract. The loop's invariant: the table says from where on each job's actions count, by the lines passed.
-- Assumes nothing.
use Rattle.std.proofs.Common.{◌≡◌}
use Rattle.judge_core.specs.Lists.{values_of}
use Rattle.judge_core.specs.Counted.{counted_from}
use Rattle.judge_core.proofs.counted.counted_from.Given as goal

abbrev pub invariant-loop-p : goal.invariant-loop-p
invariant-loop-p l = l.since ≡ values_of (counted_from l.kept.codes.now l.kept.jobs.now l.p) 256
