-- The numbers of jobs on the paper's desk: each step gives the next number or none, so the laws of such desks hold for it (01, Jobs and their numbers).
-- Assumes nothing.
use Prim.Native.Nat.{ℕ, ◌<◌, ◌≤◌}
use mathlib.Core.Path.{◌≡◌, refl}
use mathlib.Core.Bool.{true}
use mathlib.Core.List.{List}
use Rattle.laws.specs.Lists.{member}
use Rattle.terms.specs.Limits.{last_number}
use Rattle.desks.specs.Request.{Request}
use Rattle.desks.specs.Requests.{number_in, given_by}
use Rattle.desks.specs.Numbers.{Gives, none_given, one_given, Numbers}
use Rattle.desks.proofs.Numbers as numbering
use Rattle.desks.proofs.Numbers.{other_letter, refusal_none}
use Rattle.desk_rules.specs.Desk.{Desk}
use Rattle.desks.specs.Begin.{refused}
use Rattle.desk_rules.specs.Rules.{Outcome, with_row, with_status, rule4}
use Rattle.desk_rules.specs.Step.{step}
use Rattle.desk_rules.specs.Requests.{desk_after, given}
use Rattle.desk_rules.specs.Course.{from}
use Rattle.desk_rules.specs.Moves.{Moved, refuses, begins, commits, gives_up, retries, has_it, promotes, waits_in_front, enters, waits_last, goes_back}
use Rattle.desk_rules.proofs.Moved.{step_moved}

-- every step gives the next number or none
pub step_gives : (d : Desk) (r : Request) → Gives d.next (given_by r (step d r).said) (step d r).desk.next
step_gives d r = by_move (step_moved d r)
  where
    by_move : {o : Outcome} → Moved d r o → Gives d.next (given_by r o.said) o.desk.next
    by_move (refuses why _) = unfold refused in none_given (refusal_none r why) refl
    by_move (begins l m k) = unfold given_by number_in in one_given (rw l) m refl
    by_move (commits l s) = none_given (other_letter r l refl _) (unfold rule4 in refl)
    by_move (gives_up l s) = none_given (other_letter r l refl _) (unfold rule4 in refl)
    by_move (retries l s) = none_given (other_letter r l refl _) (unfold with_status in refl)
    by_move (has_it b k x) = none_given (other_letter r k.letter refl _) refl
    by_move (promotes b k x f z) = none_given (other_letter r k.letter refl _) (unfold with_row in refl)
    by_move (waits_in_front b k x f z w) = none_given (other_letter r k.letter refl _) (unfold with_status with_row in refl)
    by_move (enters b k f z w) = none_given (other_letter r k.letter refl _) (unfold with_row in refl)
    by_move (waits_last b k f z w u) = none_given (other_letter r k.letter refl _) (unfold with_status with_row in refl)
    by_move (goes_back b k x) = none_given (other_letter r k.letter refl _) (unfold rule4 in refl)

-- the next number never falls
pub next_rises : (d : Desk) (r : Request) → d.next ≤ (step d r).desk.next
next_rises = numbering.next_rises step (λ d. d.next) step_gives

-- nor over several requests
pub next_rises_on : (d : Desk) (rs : List Request) → d.next ≤ (desk_after d rs).next
next_rises_on = numbering.next_rises_on step (λ d. d.next) step_gives

-- a number given by the requests is at least the next number before them, below the next number after them, and at most 4,294,967,295
pub given_within : (d : Desk) (rs : List Request) (m : ℕ) → member m (given d rs) ≡ true → (d.next ≤ m) × (m < (desk_after d rs).next) × (m ≤ last_number)
given_within = numbering.given_within step (λ d. d.next) step_gives

-- what is promised of the numbers
pub numbers : (d : Desk) → Numbers (λ e. e.next) (from d)
numbers = numbering.numbers step (λ d. d.next) step_gives
