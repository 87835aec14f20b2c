-- `judge_core::dirty::run_ends` meets its contract. The loop's invariant: the ends for the lines passed, and for each job the end of its run as seen from here.
-- Assumes nothing.
use Rattle.std.proofs.Common.{◌≡◌, ◌-◌}
use Rattle.judge_core.specs.Lists.{values_of}
use Rattle.judge_core.specs.RunEnds.{run_end}
use Rattle.judge_core.proofs.DirtyPasses.{EndsFrom}
use Rattle.judge_core.proofs.dirty.run_ends.Given as goal

abbrev pub invariant-loop-p : goal.invariant-loop-p
invariant-loop-p l =
    (l.seen ≡ values_of (λ j. run_end l.kept.codes.now l.kept.jobs.now j l.p (l.history.n - l.p)) 256) × EndsFrom l.kept.codes.now l.kept.jobs.now l.history.n l.p l.ends
