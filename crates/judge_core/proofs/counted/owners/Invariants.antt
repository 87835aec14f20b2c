-- `judge_core::counted::owners` meets its contract. The loop's invariant: the table has the owners of the lines passed.
-- Assumes nothing.
use Rattle.std.proofs.Common.{◌≡◌}
use Rattle.judge_core.specs.Lists.{values_of}
use Rattle.judge_core.specs.Counted.{owners_by}
use Rattle.judge_core.proofs.counted.owners.Given as goal

abbrev pub invariant-loop-p : goal.invariant-loop-p
invariant-loop-p l = l.all ≡ values_of (owners_by l.history.kept.codes.now l.history.kept.jobs.now l.since l.p) 4096
