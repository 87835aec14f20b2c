-- What begins and ends leave, by the answer: a begin opens one job; a commit, a give-up and a sending back close one; and a closed job stays closed (02, No. 6; 01, Jobs and their numbers).
-- Assumes nothing.
use Rattle.std.specs.Prelude.{Option, Some}
use Prim.Native.Nat.{ℕ, ◌<◌}
use mathlib.Core.Path.{◌≡◌, refl, ap, ◌∙◌, subst}
use mathlib.Core.Logic.{inl, inr}
use mathlib.Core.Bool.{Bool, true, false}
use mathlib.Core.List.{◌∷◌}
use native.Mathlib.Omega.{arith}
use Rattle.laws.specs.Choice.{not_both}
use Rattle.terms.specs.declared.letters.Ask.{Ask}
use Rattle.terms.specs.declared.letters.Letter.{Letter}
use Rattle.terms.specs.declared.letters.Letter.TheVariants.{Begin}
use Rattle.terms.specs.Letters.{letter_of}
use Rattle.conflict.specs.History.{History}
use Rattle.desks.specs.declared.Answer.TheVariants.{Go, Back}
use Rattle.desks.specs.Request.{Request}
use Rattle.desks.specs.Stepping.{through}
use Rattle.desks.specs.Begin.{refused}
use Rattle.desks.specs.Table.{is_begin, asks_no_cell, letter_is}
use Rattle.desks.proofs.Answers.{other-answer}
use Rattle.desks.proofs.Places.{vacated_gone, vacated_free}
use Rattle.stamp_rules.specs.Desk.{Desk, is_open}
use Rattle.stamp_rules.specs.Rules.{Outcome}
use Rattle.stamp_rules.specs.Step.{step, Started}
use Rattle.stamp_rules.specs.Course.{from}
use Rattle.stamp_rules.specs.Asked.{Asking, Begins, Closes}
use Rattle.stamp_rules.specs.Effects.{Effects}
use Rattle.stamp_rules.specs.Moves.{without, EndAsked, Moved, refuses, begins, closes, goes, goes_back}
use Rattle.stamp_rules.proofs.Moved.{step_moved}
use Rattle.stamp_rules.proofs.Seats.{open_not_zero, open_seated, new_open, new_others, gone_not_open, gone_others}
use Rattle.stamp_rules.proofs.Numbers.{next_bounds, next_rises_on, numbers}
use Rattle.stamp_rules.proofs.Kept.{Seats, started_seats, next_not_open}
use Rattle.stamp_rules.proofs.ClosedForGood.{closed_through}

-- two equal goes name one job
same_go : {i j : ℕ} → Go i ≡ Go j → i ≡ j
same_go e = cc

-- and so does a back
same_back : {i j : ℕ} → Back i ≡ Back j → i ≡ j
same_back e = cc

-- a request has one letter
one_letter : {P : Type 0} (f : Letter → Bool) {x : Option Letter} {k l : Letter} → x ≡ Some k → x ≡ Some l → f k ≡ true → f l ≡ false → P
one_letter f p q t n = not_both (ap (letter_is f) p ∙ t) (ap (letter_is f) q ∙ n)

module _ (d : Desk) where
  -- what closing an open job leaves
  closing : (j : ℕ) → is_open d j ≡ true → Closes d (without d j) j
  closing j o =
      let z = open_not_zero d j o in
      record {
        was = o;
        shut = gone_not_open d j z;
        gone = vacated_gone j d.jobs z;
        free = vacated_free j d.jobs (open_seated d j o);
        others = gone_others d j;
        next = refl;
        stamps = record { readers = λ c. refl; writers = λ c. refl };
      }

  module _ {r : Request} (j : ℕ) where
    -- a begin that goes opens a job under the next number, if that is not 0 and the places name the open jobs
    moved_begins : {o : Outcome} → Seats d → 0 < d.next → letter_of r.kind ≡ Some Begin → Moved d r o → o.said ≡ Go j → Begins d o.desk j
    unfolding refused
    moved_begins v l b (refuses why _) g = other-answer g refl
    moved_begins v l b (begins _ n m) g =
        subst (Begins d _) (same_go g)
        (record {
          number = refl;
          next = refl;
          new = next_not_open d v;
          opened = new_open d _ d.next (λ e. omega arith) m;
          others = new_others d _ d.next;
          stamps = record { readers = λ c. refl; writers = λ c. refl };
        })
    moved_begins v l b (closes (inl e) _) g = one_letter is_begin b e refl refl
    moved_begins v l b (closes (inr e) _) g = one_letter is_begin b e refl refl
    moved_begins v l b (goes a k f) g = one_letter is_begin b k.letter refl refl
    moved_begins v l b (goes_back a k t) g = other-answer g refl

    -- a commit or a give-up that goes closes its job
    moved_closes : {o : Outcome} → EndAsked r → Moved d r o → o.said ≡ Go j → Closes d o.desk j
    unfolding refused
    moved_closes e (refuses why _) g = other-answer g refl
    moved_closes (inl e) (begins b n m) g = one_letter is_begin b e refl refl
    moved_closes (inr e) (begins b n m) g = one_letter is_begin b e refl refl
    moved_closes e (closes _ p) g = subst (Closes d _) (same_go g) (closing r.job p)
    moved_closes (inl e) (goes a k f) g = one_letter asks_no_cell e k.letter refl refl
    moved_closes (inr e) (goes a k f) g = one_letter asks_no_cell e k.letter refl refl
    moved_closes e (goes_back a k t) g = other-answer g refl

    -- being sent back closes the job, which asked for a cell
    moved_back : {o : Outcome} → Moved d r o → o.said ≡ Back j → Closes d o.desk j × ((a : Ask) × Asking d r a)
    unfolding refused
    moved_back (refuses why _) g = other-answer g refl
    moved_back (begins b n m) g = other-answer g refl
    moved_back (closes e p) g = other-answer g refl
    moved_back (goes a k f) g = other-answer g refl
    moved_back (goes_back a k t) g = (subst (Closes d _) (same_back g) (closing r.job k.open_job), (a, k))

-- what is promised of begins and ends
pub effects : {d : Desk} {h : History} → Started d h → Effects (from d)
effects {d} s =
    let v = started_seats s in
    record {
      begins = λ r j e g. moved_begins d j v (next_bounds s).0 e (step_moved d r) g;
      closes = λ r j e g. moved_closes d j e (step_moved d r) g;
      sends_back = λ r j g. moved_back d j (step_moved d r) g;
      closed_for_good = λ j l e rs. closed_through d rs j l e;
      begun_anew = λ r j g rs s i e w.
          let was : j < d.next = v.below j (moved_back d j (step_moved d r) g).0.was in
          let rise = next_rises_on d (r ∷ rs) in
          let new = ((numbers (through step d (r ∷ rs))).begin_gives s i e w).0 in
          omega arith;
    }
