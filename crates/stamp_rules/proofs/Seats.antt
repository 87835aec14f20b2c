-- Which jobs are open, by the places: a job is open if it has a place and is not 0. So a begin opens one job, an end closes one, and no other job changes (02, No. 6; 01, refusal 3).
-- Assumes nothing.
use Prim.Native.Nat.{ℕ, ◌<◌}
use mathlib.Core.Path.{◌≡◌, refl, sym, ap, ◌∙◌}
use mathlib.Core.Logic.{◌≢◌}
use mathlib.Core.Bool.{true, false, not, ◌&&◌}
use lib.Dec.{eqb}
use lib.ListN.{length}
use borrow.Author.Tests.{eqb-true, eqb-false, ne_eqb, not-true}
use Rattle.laws.specs.Choice.{by_test, not_both}
use Rattle.laws.specs.Lists.{member}
use Rattle.laws.proofs.Parts.{and_first, and_second}
use Rattle.terms.specs.declared.letters.Ask.{Ask}
use Rattle.terms.specs.Limits.{places}
use Rattle.desks.specs.Places.{Once, seated}
use Rattle.desks.specs.Seating.{Seating}
use Rattle.desks.proofs.Places.{seated_others, seated_there, vacated_others, vacated_gone}
use Rattle.stamp_rules.specs.Desk.{Desk, is_open}
use Rattle.stamp_rules.specs.Rules.{done}
use Rattle.stamp_rules.specs.Moves.{placed, without}
use Rattle.stamp_rules.proofs.Done.{done_jobs}

-- an open job's number is not 0
pub open_not_zero : (d : Desk) (j : ℕ) → is_open d j ≡ true → j ≢ 0
unfolding is_open
open_not_zero d j o = eqb-false j 0 (not-true (eqb j 0) (and_first (not (eqb j 0)) (member j d.jobs) o))

-- it has a place
pub open_seated : (d : Desk) (j : ℕ) → is_open d j ≡ true → member j d.jobs ≡ true
unfolding is_open
open_seated d j o = and_second (not (eqb j 0)) (member j d.jobs) o

-- a job that is not 0 is open exactly if it has a place
pub open_by_place : (d : Desk) (j : ℕ) → j ≢ 0 → is_open d j ≡ member j d.jobs
unfolding is_open
open_by_place d j z = rw (ne_eqb j 0 z)

-- 0 is never open
pub zero_not_open : (d : Desk) → is_open d 0 ≡ false
unfolding is_open
zero_not_open d = refl

-- a job is open on both of two desks or on neither, if it has a place on both or on neither
same_open : (d e : Desk) (i : ℕ) → (i ≢ 0 → member i e.jobs ≡ member i d.jobs) → is_open e i ≡ is_open d i
unfolding is_open
same_open d e i h = by_test (eqb i 0) (λ t. rw t) (λ f. ap (λ b. not (eqb i 0) && b) (h (eqb-false i 0 f)))

-- a request for a cell that goes opens and closes no job
pub done_open : (d : Desk) (j c : ℕ) (a : Ask) (i : ℕ) → is_open (done d j c a) i ≡ is_open d i
done_open d j c a i = same_open d (done d j c a) i (λ _. ap (member i) (done_jobs d j c a).places)

module _ (d : Desk) where
  -- a new job is open, if its number is not 0 and a place was free
  pub new_open : (n j : ℕ) → j ≢ 0 → member 0 d.jobs ≡ true → is_open (placed d n (seated j d.jobs)) j ≡ true
  new_open n j z m = open_by_place _ j z ∙ seated_there j d.jobs m

  -- and every other job is as it was
  pub new_others : (n j i : ℕ) → i ≢ j → is_open (placed d n (seated j d.jobs)) i ≡ is_open d i
  new_others n j i h = same_open d _ i (λ z. seated_others j d.jobs i h z)

  -- a job that is closed is not open
  pub gone_not_open : (j : ℕ) → j ≢ 0 → is_open (without d j) j ≡ false
  gone_not_open j z = open_by_place _ j z ∙ vacated_gone j d.jobs z

  -- and every other job is as it was
  pub gone_others : (j i : ℕ) → i ≢ j → is_open (without d j) i ≡ is_open d i
  gone_others j i h = same_open d _ i (λ z. vacated_others j d.jobs i h z)

  -- so a job that is open once another is closed was open before
  pub left_open : (j i : ℕ) → j ≢ 0 → is_open (without d j) i ≡ true → is_open d i ≡ true
  left_open j i z o =
      by_test (eqb i j) (λ t. not_both (rw (eqb-true i j t) at o) (gone_not_open j z)) (λ f. sym (gone_others j i (eqb-false i j f)) ∙ o)

  -- if 32 places name no job twice, and open jobs are below the next number, the places name the open jobs
  pub seating_of : Once d.jobs → length d.jobs ≡ places → ((j : ℕ) → is_open d j ≡ true → j < d.next) → Seating d.next d.jobs (is_open d)
  seating_of once size below = record {
    seats = open_seated d;
    opens = λ j z m. open_by_place d j z ∙ m;
    nobody = zero_not_open d;
    once = once;
    size = size;
    below = below;
  }
