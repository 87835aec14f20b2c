-- `judge_line::lines::jobs_fit` meets its contract. The loop's invariant: the spare room and the fields of the jobs passed make the whole room.
-- Assumes nothing.
use Rattle.judge_line.proofs.SpareRoom.{Spare}
use Rattle.judge_line.proofs.lines.jobs_fit.Given as goal

abbrev pub invariant-loop-job : goal.invariant-loop-job
invariant-loop-job l = Spare l.jobs l.room l.spare l.job-index
