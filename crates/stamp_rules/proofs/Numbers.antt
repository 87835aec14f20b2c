-- The numbers of jobs on the timestamp desk: each step gives the next number or none, so the laws of such desks hold for it (01, Jobs and their numbers).
-- Assumes nothing.
use Prim.Native.Nat.{ℕ, suc, ◌<◌, ◌≤◌}
use mathlib.Core.Path.{◌≡◌, refl}
use mathlib.Core.Logic.{inl, inr}
use mathlib.Core.List.{List}
use Rattle.terms.specs.Limits.{last_number}
use Rattle.conflict.specs.History.{History}
use Rattle.desks.specs.Request.{Request}
use Rattle.desks.specs.Stepping.{through}
use Rattle.desks.specs.Begin.{refused}
use Rattle.desks.specs.Requests.{number_in, given_by}
use Rattle.desks.specs.Numbers.{Gives, none_given, one_given, Numbers}
use Rattle.desks.proofs.Numbers as numbering
use Rattle.desks.proofs.Numbers.{other_letter, refusal_none}
use Rattle.stamp_rules.specs.Desk.{Desk, fresh_desk}
use Rattle.stamp_rules.specs.Rules.{Outcome}
use Rattle.stamp_rules.specs.Step.{step, Started}
use Rattle.stamp_rules.specs.Course.{from}
use Rattle.stamp_rules.specs.Moves.{Moved, refuses, begins, closes, goes, goes_back}
use Rattle.stamp_rules.proofs.Moved.{step_moved}
use Rattle.stamp_rules.proofs.Done.{done_jobs}

-- every step gives the next number or none
pub step_gives : (d : Desk) (r : Request) → Gives d.next (given_by r (step d r).said) (step d r).desk.next
step_gives d r = by_move (step_moved d r)
  where
    by_move : {o : Outcome} → Moved d r o → Gives d.next (given_by r o.said) o.desk.next
    by_move (refuses why _) = unfold refused in none_given (refusal_none r why) refl
    by_move (begins l m k) = unfold given_by number_in in one_given (rw l) m refl
    by_move (closes (inl l) o) = none_given (other_letter r l refl _) refl
    by_move (closes (inr l) o) = none_given (other_letter r l refl _) refl
    by_move (goes a k f) = none_given (other_letter r k.letter refl _) (done_jobs d r.job r.cell a).next
    by_move (goes_back a k t) = none_given (other_letter r k.letter refl _) refl

-- the next number never falls
pub next_rises : (d : Desk) (r : Request) → d.next ≤ (step d r).desk.next
next_rises = numbering.next_rises step (λ d. d.next) step_gives

-- nor over several requests
pub next_rises_on : (d : Desk) (rs : List Request) → d.next ≤ (through step d rs).next
next_rises_on = numbering.next_rises_on step (λ d. d.next) step_gives

-- what is promised of the numbers
pub numbers : (d : Desk) → Numbers (λ e. e.next) (from d)
numbers = numbering.numbers step (λ d. d.next) step_gives

-- a fresh desk's next number is its first
pub fresh_next : (n : ℕ) → (fresh_desk n).next ≡ n
unfolding fresh_desk
fresh_next n = refl

-- the next number of a started desk is from 1 to one past the last
pub next_bounds : {d : Desk} {h : History} → Started d h → (0 < d.next) × (d.next ≤ suc last_number)
next_bounds s = numbering.next_bounds step (λ d. d.next) step_gives fresh_desk fresh_next s
