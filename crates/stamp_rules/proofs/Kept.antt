-- Every step keeps what holds for the places of every started desk: they name the open jobs, each once, and every open job's number was given (02, No. 6).
-- Assumes nothing.
use Prim.Native.Nat.{ℕ, ◌<◌}
use mathlib.Core.Path.{◌≡◌, sym, ◌∙◌}
use mathlib.Core.Bool.{true, false}
use lib.Dec.{eqb}
use lib.ListN.{length-replicate}
use borrow.Author.Tests.{eqb-true, eqb-false}
use native.Mathlib.Omega.{arith}
use Rattle.laws.specs.Choice.{by_test, not_both}
use Rattle.laws.specs.Lists.{member}
use Rattle.terms.specs.declared.letters.Ask.{Ask}
use Rattle.terms.specs.declared.letters.Ask.TheVariants.{Read, Write, Increment, Update}
use Rattle.terms.specs.Limits.{places}
use Rattle.conflict.specs.History.{History}
use Rattle.desks.specs.Request.{Request}
use Rattle.desks.specs.Begin.{refused}
use Rattle.desks.specs.Seating.{Seating}
use Rattle.desks.specs.Started.StartedOn.{fresh, after}
use Rattle.desks.proofs.Places.{seated_once, seated_size, vacated_once, vacated_size, free_nobody, free_once}
use Rattle.stamp_rules.specs.Desk.{Desk, fresh_desk, is_open}
use Rattle.stamp_rules.specs.Rules.{Outcome, has_read, has_written, done}
use Rattle.stamp_rules.specs.Step.{Started}
use Rattle.stamp_rules.specs.Moves.{Moved, refuses, begins, closes, goes, goes_back, without}
use Rattle.stamp_rules.proofs.Moved.{step_moved}
use Rattle.stamp_rules.proofs.Seats.{open_not_zero, open_by_place, new_others, left_open, seating_of}
use Rattle.stamp_rules.proofs.Numbers.{next_bounds}

-- the places of the desk name its open jobs
abbrev pub Seats : Desk → Type 0
Seats d = Seating d.next d.jobs (is_open d)

module _ (d : Desk) (v : Seats d) where
  -- the next number is not open
  pub next_not_open : is_open d d.next ≡ false
  next_not_open = by_test (is_open d d.next) (λ t. let l : d.next < d.next = v.below d.next t in absurd (omega arith)) (λ f. f)

  -- and has no place, if it is not 0
  next_no_place : 0 < d.next → member d.next d.jobs ≡ false
  next_no_place l = sym (open_by_place d d.next (λ e. omega arith)) ∙ next_not_open

  -- closing an open job keeps it
  without_seats : (j : ℕ) → is_open d j ≡ true → Seats (without d j)
  without_seats j o =
      seating_of (without d j) (vacated_once j d.jobs v.once) (vacated_size j d.jobs ∙ v.size)
      (λ i p. v.below i (left_open d j i (open_not_zero d j o) p))

  -- so does a request for a cell that goes
  done_seats : (j c : ℕ) (a : Ask) → Seats (done d j c a)
  unfolding done has_read has_written is_open
  done_seats j c Read = v
  done_seats j c Write = v
  done_seats j c Increment = v
  done_seats j c Update = v

  -- every move keeps it
  moved_seats : {r : Request} {o : Outcome} → 0 < d.next → Moved d r o → Seats o.desk
  unfolding refused
  moved_seats l (refuses why _) = v
  moved_seats l (begins e u m) =
      seating_of _ (seated_once d.next d.jobs (next_no_place l) v.once) (seated_size d.next d.jobs ∙ v.size)
      (λ i p. by_test (eqb i d.next) (λ t. omega (arith, eqb-true i d.next t))
      (λ f. omega (arith, v.below i (sym (new_others d _ d.next i (eqb-false i d.next f)) ∙ p))))
  moved_seats {r} l (closes e o) = without_seats r.job o
  moved_seats {r} l (goes a k f) = done_seats r.job r.cell a
  moved_seats {r} l (goes_back a k t) = without_seats r.job k.open_job

-- on a fresh desk every place is free
fresh_seats : (n : ℕ) → Seats (fresh_desk n)
unfolding fresh_desk
fresh_seats n =
    seating_of (fresh_desk n) (free_once places) (length-replicate {A = ℕ} places 0)
    (λ j o. not_both (sym (open_by_place (fresh_desk n) j (open_not_zero (fresh_desk n) j o)) ∙ o) (free_nobody places j (open_not_zero (fresh_desk n) j o)))

-- so it holds for every started desk
pub started_seats : {d : Desk} {h : History} → Started d h → Seats d
started_seats (fresh n l u) = fresh_seats n
started_seats (after {d = d} s r) = moved_seats d (started_seats s) (next_bounds s).0 (step_moved d r)
