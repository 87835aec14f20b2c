-- No event of a job follows its c, its a or its k, in any history that the timestamp desk writes (02, No. 6; 01, Jobs and their numbers).
-- Carried along: a job with an event has a number that was given, and a job with a mark is not open. Assumes nothing.
use Prim.Native.Nat.{ℕ, ◌<◌}
use mathlib.Core.Path.{◌≡◌, sym, ◌∙◌}
use mathlib.Core.Bool.{true, false}
use mathlib.Core.List.{[], ◌++◌, append-nil}
use lib.Dec.{eqb}
use borrow.Author.Tests.{eqb-true}
use native.Mathlib.Omega.{arith}
use Rattle.laws.specs.Choice.{by_test, not_both}
use Rattle.laws.proofs.Parts.{or_either}
use Rattle.conflict.specs.declared.action.Event.TheVariants.{Does, Ends}
use Rattle.conflict.specs.History.{History, line_of}
use Rattle.conflict.specs.Runs.{ended}
use Rattle.conflict.proofs.OneEvent.{line_none, line_does, line_ends}
use Rattle.conflict.proofs.Appended.{line_append, ended_append}
use Rattle.conflict.proofs.NothingAfter.{none_ended, does_ends_not, mark_ends, ended_line, NothingAfter, nothing_after_none, nothing_after_more}
use Rattle.desks.specs.Request.{Request}
use Rattle.desks.specs.Records.{records_by}
use Rattle.desks.specs.Started.StartedOn.{fresh, after}
use Rattle.stamp_rules.specs.Desk.{Desk, is_open}
use Rattle.stamp_rules.specs.Step.{step, Started}
use Rattle.stamp_rules.proofs.Seats.{open_not_zero, gone_not_open}
use Rattle.stamp_rules.proofs.Numbers.{next_rises}
use Rattle.stamp_rules.proofs.Kept.{Seats, started_seats}
use Rattle.stamp_rules.proofs.ClosedForGood.{closed_stays}
use Rattle.stamp_rules.proofs.Written.{asking, Wrote, nothing, action, mark, step_wrote}

module _ {d : Desk} {r : Request} where
  -- a job that has an event in a step was open before it
  pub line_open : {e : Desk} {g : History} → Wrote d r e g → (j : ℕ) → line_of j g ≡ true → is_open d j ≡ true
  line_open (nothing s) j h = not_both h (line_none j)
  line_open (action a k f) j h =
      or_either (eqb r.job j) (line_of j []) (sym (line_does j (asking r a) []) ∙ h) (λ t. rw (← eqb-true r.job j t) k.open_job) (λ t. not_both t (line_none j))
  line_open (mark m o) j h =
      or_either (eqb r.job j) (line_of j []) (sym (line_ends j m r.job []) ∙ h) (λ t. rw (← eqb-true r.job j t) o) (λ t. not_both t (line_none j))

  -- a job that has a mark in a step is not open after it
  mark_shut : {e : Desk} {g : History} → Wrote d r e g → (j : ℕ) → ended j g ≡ true → is_open e j ≡ false
  mark_shut (nothing s) j h = not_both h (none_ended j)
  mark_shut (action a k f) j h = not_both h (does_ends_not j (asking r a) [] ∙ none_ended j)
  mark_shut (mark m o) j h =
      or_either (eqb r.job j) (ended j []) (sym (mark_ends j m r.job []) ∙ h)
      (λ t. rw (← eqb-true r.job j t) (gone_not_open d r.job (open_not_zero d r.job o))) (λ t. not_both t (none_ended j))

-- what holds for a desk and the history that it has written
pub record Over (d : Desk) (h : History) : Type 0 where
  -- no event of a job follows a mark of it
  pub last : NothingAfter h
  -- a job that has an event has a number that was given
  pub given : (j : ℕ) → line_of j h ≡ true → j < d.next
  -- a job that has a mark is not open
  pub shut : (j : ℕ) → ended j h ≡ true → is_open d j ≡ false

-- a job that has a mark has no event in a step
line_apart : {d e : Desk} {r : Request} {h g : History} → Over d h → Wrote d r e g → (j : ℕ) → ended j h ≡ true → line_of j g ≡ false
line_apart {g = g} k w j m = by_test (line_of j g) (λ t. not_both (line_open w j t) (k.shut j m)) (λ n. n)

-- so nothing that a step writes follows a mark of its job
wrote_last : {d : Desk} {r : Request} {e : Desk} {h g : History} → Over d h → Wrote d r e g → NothingAfter (h ++ g)
wrote_last {h = h} k (nothing s) = rw (append-nil h) k.last
wrote_last {r = r} {h = h} k (action a p f) = nothing_after_more h (Does (asking r a)) k.last (line_apart {r = r} k (action a p f))
wrote_last {r = r} {h = h} k (mark m o) = nothing_after_more h (Ends m r.job) k.last (line_apart {r = r} k (mark m o))

-- a step keeps it
step_over : {d : Desk} {h : History} → Seats d → (r : Request) → Over d h → Over (step d r).desk (h ++ records_by step d r)
step_over {d} {h} v r k = record {
  last = wrote_last k w;
  given = λ j l. or_either (line_of j h) (line_of j g) (sym (line_append j h g) ∙ l) (λ t. later (k.given j t)) (λ t. later (v.below j (line_open w j t)));
  shut = λ j m. or_either (ended j h) (ended j g) (sym (ended_append j h g) ∙ m)
      (λ t. closed_stays d r j (k.given j (ended_line j h t)) (k.shut j t)) (mark_shut w j);
}
  where
    g : History
    g = records_by step d r

    w : Wrote d r (step d r).desk g
    w = step_wrote d r

    later : {j : ℕ} → j < d.next → j < (step d r).desk.next
    later l = omega (arith, next_rises d r)

-- so it holds for every started desk and the history that it has written
pub started_over : {d : Desk} {h : History} → Started d h → Over d h
started_over (fresh n _ _) = record { last = nothing_after_none; given = λ j l. not_both l (line_none j); shut = λ j m. not_both m (none_ended j) }
started_over (after s r) = step_over (started_seats s) r (started_over s)
