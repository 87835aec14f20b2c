-- The limits of the timestamp desk as the paper prints them: at most 32 open jobs, their numbers, the numbers given from a start, and rows 2, 3, 6 and 7 of the table (02, No. 6; 01, What is delivered; 01, Refusals by number).
-- Assumes nothing.
use Prim.Native.Nat.{ℕ, ◌≤◌}
use Rattle.terms.specs.Limits.{last_number}
use Rattle.conflict.specs.History.{History}
use Rattle.desks.specs.DeskLimits.{DeskLimits}
use Rattle.desks.specs.Numbers.{NumbersFrom}
use Rattle.desks.proofs.Numbers as numbering
use Rattle.desks.proofs.OpenJobs as seating
use Rattle.stamp_rules.specs.Desk.{Desk, fresh_desk, is_open}
use Rattle.stamp_rules.specs.Step.{step, Started}
use Rattle.stamp_rules.specs.Course.{from}
use Rattle.stamp_rules.proofs.Kept.{started_seats}
use Rattle.stamp_rules.proofs.Numbers.{step_gives, fresh_next, next_bounds}

-- what is promised of the limits
pub limits : {d : Desk} {h : History} → Started d h → DeskLimits d.next d.jobs (is_open d)
limits s = seating.limits (started_seats s) (next_bounds s)

-- what is promised of the numbers from a start on
pub numbers_from : (n : ℕ) → n ≤ last_number → NumbersFrom (λ d. d.next) n (from (fresh_desk n))
numbers_from = numbering.numbers_from step (λ d. d.next) step_gives fresh_desk fresh_next
