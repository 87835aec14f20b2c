-- No event of a job follows its c or its a, in any history that the desk writes (01, Jobs and their numbers; 01, refusals 3 and 13).
-- Carried along: a job with an event has a number that was given, and a job with a c or an a is closed. Assumes nothing.
use Prim.Native.Nat.{ℕ, ◌<◌}
use mathlib.Core.Path.{◌≡◌, sym, ap, ◌∙◌}
use mathlib.Core.Bool.{Bool, true, false, not, ◌&&◌, ◌||◌}
use mathlib.Core.List.{List, [], ◌∷◌, ◌++◌}
use native.Mathlib.Omega.{arith}
use borrow.Author.Tests.{eqb-true}
use lib.Dec.{eqb}
use Rattle.laws.specs.Choice.{by_test, not_both}
use Rattle.conflict.specs.declared.action.Action.{Action}
use Rattle.conflict.specs.declared.action.Mark.{Mark}
use Rattle.conflict.specs.History.{History, is_back, marked, line_of, ends_for_good}
use Rattle.laws.proofs.Parts.{and_first, and_second, and_both, or_either, or_second}
use Rattle.conflict.proofs.Marks.{unmarked}
use Rattle.conflict.proofs.OneEvent.{line_none, line_does, line_ends, marked_none, marked_does, marked_ends, good_none, good_does, good_ends, is_last}
use Rattle.conflict.proofs.Appended.{line_append, marked_append, ends_append}
use Rattle.desks.specs.Request.{Request}
use Rattle.desk_rules.specs.Desk.{closed, is_open, Desk, fresh_desk}
use Rattle.desk_rules.specs.Rules.{Outcome, rule4}
use Rattle.desks.specs.Records.{wake_records}
use Rattle.desk_rules.specs.Step.{step, events, Started}
use Rattle.desks.specs.Started.StartedOn.{fresh, after}
use Rattle.desk_rules.specs.Invariant.{Inv}
use Rattle.desk_rules.proofs.Statuses.{running_open, waiting_open, closed_not_open}
use Rattle.desk_rules.proofs.RunEnd.{wakes_after, woken_waited, self_not_woken, self_after}
use Rattle.desk_rules.proofs.Kept.{started_inv}
use Rattle.desk_rules.proofs.Written.{asking, Wrote, nothing, action, mark, step_wrote}
use Rattle.desk_rules.proofs.WakeRecords.{line_woken}
use Rattle.desk_rules.proofs.ClosedForGood.{closed_stays}
use Rattle.desk_rules.proofs.Numbers.{next_rises}

-- the records of wakes have no marks
pub wakes_unmarked : (f : Mark → Bool) (j : ℕ) (xs : List Action) → marked f j (wake_records xs) ≡ false
unfolding wake_records
wakes_unmarked f j [] = marked_none f j
wakes_unmarked f j (a ∷ xs) = marked_does f j a (wake_records xs) ∙ wakes_unmarked f j xs

-- so no event follows a mark there
wakes_end : (xs : List Action) → ends_for_good (wake_records xs) ≡ true
unfolding wake_records
wakes_end [] = good_none
wakes_end (a ∷ xs) = good_does a (wake_records xs) ∙ wakes_end xs

module _ {d : Desk} (v : Inv d) {r : Request} where
  -- a job that has an event in a step was open before it
  pub line_open : {o : Outcome} {g : History} → Wrote d r o g → (j : ℕ) → line_of j g ≡ true → is_open (d.stat j) ≡ true
  unfolding asking
  line_open (nothing w) j h = not_both h (line_none j)
  line_open (action a k w c) j h =
      or_either (eqb r.job j) (line_of j []) (sym (line_does j (asking r a) []) ∙ h) (λ t. rw (← eqb-true r.job j t) (running_open k.runs)) (λ t. not_both t (line_none j))
  line_open (mark m s js said o l _) j h =
      or_either (eqb r.job j) (line_of j (wake_records (wakes_after d r.job))) (sym (line_ends j m r.job (wake_records (wakes_after d r.job))) ∙ h) (λ t. rw (← eqb-true r.job j t) o)
      (λ t. let (c, a, e, g) = woken_waited v r.job j (sym (line_woken j (wakes_after d r.job)) ∙ t) in waiting_open e)

  -- a job that has a c or an a in a step is closed after it
  last_closed : {o : Outcome} {g : History} → Wrote d r o g → (j : ℕ) → marked is_last j g ≡ true → o.desk.stat j ≡ closed
  unfolding rule4
  last_closed (nothing w) j h = not_both h (marked_none is_last j)
  last_closed (action a k w c) j h = not_both h (marked_does is_last j (asking r a) [] ∙ marked_none is_last j)
  last_closed (mark m s js said o l _) j h =
      or_either (eqb r.job j && is_last m) (marked is_last j (wake_records (wakes_after d r.job))) (sym (marked_ends is_last j m r.job (wake_records (wakes_after d r.job))) ∙ h)
      (λ t. rw (← eqb-true r.job j (and_first (eqb r.job j) (is_last m) t))
      (self_after v r.job s ∙ l (and_second (eqb r.job j) (is_last m) t)))
      (λ t. not_both t (wakes_unmarked is_last j (wakes_after d r.job)))

  -- in a step's own events no event of a job follows its c or a
  wrote_ends : {o : Outcome} {g : History} → Wrote d r o g → ends_for_good g ≡ true
  wrote_ends (nothing w) = good_none
  wrote_ends (action a k w c) = good_does (asking r a) [] ∙ good_none
  wrote_ends (mark m s js said o l _) =
      let wakes = wakes_after d r.job in
      good_ends m r.job (wake_records wakes)
      ∙ and_both (is_back m || not (line_of r.job (wake_records wakes))) (ends_for_good (wake_records wakes))
      (or_second (is_back m) (not (line_of r.job (wake_records wakes))) (ap not (line_woken r.job wakes ∙ self_not_woken v r.job)))
      (wakes_end wakes)

-- what holds for a desk and the history that it has written
pub record Over (d : Desk) (h : History) : Type 0 where
  -- no event of a job follows its c or a
  pub good : ends_for_good h ≡ true
  -- a job that has an event has a number that was given
  pub given : (j : ℕ) → line_of j h ≡ true → j < d.next
  -- a job that has a c or an a is closed
  pub shut : (j : ℕ) → marked is_last j h ≡ true → d.stat j ≡ closed

-- a job that has a mark has an event
marked_line : (f : Mark → Bool) (j : ℕ) (h : History) → marked f j h ≡ true → line_of j h ≡ true
marked_line f j h t = by_test (line_of j h) (λ l. l) (λ n. not_both t (unmarked f j h n))

-- a step keeps this
pub step_over : {d : Desk} {h : History} → Inv d → (r : Request) → Over d h → Over (step d r).desk (h ++ events d r)
step_over {d} {h} v r k = record {
  good = ends_append h (events d r) k.good (wrote_ends v w)
      (λ j m. by_test (line_of j (events d r)) (λ t. not_both (line_open v w j t) (closed_not_open (k.shut j m))) (λ f. f));
  given = λ j l. or_either (line_of j h) (line_of j (events d r)) (sym (line_append j h (events d r)) ∙ l)
      (λ t. later (k.given j t)) (λ t. later (v.below j (line_open v w j t)));
  shut = λ j m. or_either (marked is_last j h) (marked is_last j (events d r)) (sym (marked_append is_last j h (events d r)) ∙ m)
      (λ t. closed_stays v r j (k.given j (marked_line is_last j h t)) (k.shut j t)) (last_closed v w j);
}
  where
    w : Wrote d r (step d r) (events d r)
    w = step_wrote d r v

    later : {j : ℕ} → j < d.next → j < (step d r).desk.next
    later l = omega (arith, next_rises d r)

-- a fresh desk has written nothing
fresh_over : (n : ℕ) → Over (fresh_desk n) []
fresh_over n = record { good = good_none; given = λ j l. not_both l (line_none j); shut = λ j m. not_both m (marked_none is_last j) }

-- this holds for every started desk and the history it has written
pub started_over : {d : Desk} {h : History} → Started d h → Over d h
started_over (fresh n _ _) = fresh_over n
started_over (after s r) = step_over (started_inv s) r (started_over s)
