-- The judge's limits on a history: its jobs and its length (01, refusals 12 and 11).
use Rattle.std.specs.Prelude.{ℕ, ◌≤◌, ◌≡◌, true, length}
use Rattle.terms.specs.Limits.{judged_jobs, judged_lines}
use Rattle.conflict.specs.History.{History, line_of}

-- a history keeps within the judge's limits: no job above 255, and no event after the 4,096th (01, refusals 12 and 11)
pub record KeepsLimits (h : History) : Type 0 where
  pub jobs : (j : ℕ) → line_of j h ≡ true → j ≤ judged_jobs
  pub events : length h ≤ judged_lines
