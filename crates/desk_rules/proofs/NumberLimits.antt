-- The limits of the paper's desk as the paper prints them: at most 32 open jobs, their numbers, the numbers given from a start, and rows 2, 3, 6 and 7 of the table (01, What is delivered; 01, Refusals by number).
-- Assumes nothing.
use Prim.Native.Nat.{ℕ, ◌≤◌}
use mathlib.Core.Path.{◌≡◌, refl}
use Rattle.terms.specs.Limits.{last_number}
use Rattle.conflict.specs.History.{History}
use Rattle.desks.specs.DeskLimits.{DeskLimits}
use Rattle.desks.specs.Numbers.{NumbersFrom}
use Rattle.desks.proofs.Numbers as numbering
use Rattle.desks.proofs.OpenJobs as seating
use Rattle.desk_rules.specs.Desk.{Desk, fresh_desk, is_open}
use Rattle.desk_rules.specs.Step.{step, Started}
use Rattle.desk_rules.specs.Course.{from}
use Rattle.desk_rules.proofs.Kept.{started_inv}
use Rattle.desk_rules.proofs.Seats.{seating_of}
use Rattle.desk_rules.proofs.Numbers.{step_gives}

-- a fresh desk's next number is its first
fresh_next : (n : ℕ) → (fresh_desk n).next ≡ n
unfolding fresh_desk
fresh_next n = refl

-- what is promised of the limits
pub limits : {d : Desk} {h : History} → Started d h → DeskLimits d.next d.jobs (λ j. is_open (d.stat j))
limits s = seating.limits (seating_of (started_inv s)) (numbering.next_bounds step (λ d. d.next) step_gives fresh_desk fresh_next s)

-- what is promised of the numbers from a start on
pub numbers_from : (n : ℕ) → n ≤ last_number → NumbersFrom (λ d. d.next) n (from (fresh_desk n))
numbers_from = numbering.numbers_from step (λ d. d.next) step_gives fresh_desk fresh_next
