-- `judge_line::lines::put_jobs` meets its contract. The loop's invariant: the fields of the jobs passed are written.
-- Assumes nothing.
use lib.ListN.{take}
use Rattle.text_rules.specs.Wrote.{Wrote}
use Rattle.text_rules.specs.Records.{tabbed}
use Rattle.judge_line.proofs.lines.put_jobs.Given as goal

abbrev pub invariant-loop-job : goal.invariant-loop-job
invariant-loop-job l = Wrote l.at l.next (tabbed (take l.job-index l.jobs)) l.initial.out l.out
