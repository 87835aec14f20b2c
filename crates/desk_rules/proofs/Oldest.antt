-- Ages: a job older than every other live job is never sent back, and no job begun later is older (demand 3, third sentence). So a job that retries under its own number is at last the oldest, and is never sent back from then on.
-- Assumes nothing.
use Prim.Native.Nat.{ℕ, ◌<◌}
use mathlib.Core.Path.{◌≡◌, sym, ap, ◌∙◌}
use mathlib.Core.Logic.{◌≢◌}
use mathlib.Core.Bool.{true}
use mathlib.Core.List.{List, []}
use lib.Dec.{ltb}
use native.Mathlib.Omega.{arith}
use borrow.Author.Tests.{ltb-true, ltb-false}
use Rattle.laws.specs.Choice.{by_test, not_both}
use Rattle.conflict.specs.History.{History}
use Rattle.desks.specs.Request.{Request}
use Rattle.desk_rules.specs.Desk.{Desk, is_open, is_live}
use Rattle.desk_rules.specs.Step.{step, Started}
use Rattle.desk_rules.specs.Requests.{desk_after}
use Rattle.desk_rules.specs.Course.{from}
use Rattle.desk_rules.specs.Waiting.{OldestLive}
use Rattle.desk_rules.specs.Ages.{OlderClosed, Ages}
use Rattle.desk_rules.specs.Invariant.{Inv}
use Rattle.desk_rules.proofs.Moved.{step_moved}
use Rattle.desk_rules.proofs.Kept.{started_inv}
use Rattle.desk_rules.proofs.Statuses.{live_open, closed_not_open}
use Rattle.desk_rules.proofs.AnswerTells.{begin_went}
use Rattle.desk_rules.proofs.Opening.{not_open_closed}
use Rattle.desk_rules.proofs.SentBack.{back_older, moved_told}
use Rattle.desk_rules.proofs.ClosedForGood.{closed_through}
use Rattle.desk_rules.proofs.Numbers.{next_rises_on}
use Rattle.desks.proofs.StartedThrough.{run_started, after_both}

-- if a job is older than every other live job, no older one is live
no_older : (d : Desk) (j : ℕ) → OldestLive d j → (i : ℕ) × (i < j) × (is_live (d.stat i) ≡ true) → ⊥
no_older d j o (i, l, v) = let g : j < i = o i (omega arith) v in omega arith

-- a job that is open after any requests, and whose number was given before them, was open before them
was_open : {d : Desk} → Inv d → (rs : List Request) (i : ℕ) → i < d.next → is_open ((desk_after d rs).stat i) ≡ true → is_open (d.stat i) ≡ true
was_open {d} v rs i l p =
    by_test (is_open (d.stat i)) (λ t. t) (λ f. not_both p (closed_not_open (closed_through v rs i l (not_open_closed (d.stat i) f))))

-- one of two different jobs is older
by_age : {P : Type 0} (i j : ℕ) → i ≢ j → (i < j → P) → (j < i → P) → P
by_age i j n f g = by_test (ltb i j) (λ t. f (ltb-true i j t)) (λ e. g (omega (arith, ltb-false i j e)))

-- once all jobs older than an open job have closed, every other open job is younger, then and after any further requests
oldest_on : {d : Desk} {h : History} → Started d h → (j : ℕ) → is_open (d.stat j) ≡ true → (rs : List Request) → OlderClosed d (desk_after d rs) j → (more : List Request) (i : ℕ) → i ≢ j → is_open ((desk_after (desk_after d rs) more).stat i) ≡ true → j < i
oldest_on {d} s j o rs c more i n p =
    let b = (started_inv s).below j o in
    let m = next_rises_on d rs in
    by_age i j n (λ l. later l (was_open (started_inv (run_started s rs)) more i (omega arith) p)) (λ g. g)
  where
    later : i < j → is_open ((desk_after d rs).stat i) ≡ true → j < i
    later l q = let b = (started_inv s).below j o in not_both q (c i l (was_open (started_inv s) rs i (omega arith) q))

-- what is promised of ages
pub ages : {d : Desk} {h : History} → Started d h → Ages (from d)
ages {d} s =
    let v = started_inv s in
    record {
      begun_later_is_younger = λ j o rs r i e g. omega (arith, next_rises_on d rs, v.below j o, (begin_went (desk_after d rs) r i e g).job);
      back_only_while_older = λ r j. back_older v r j;
      never_answered_back = λ r j o e. no_older d j o (back_older v r j e);
      never_back = λ r j live o e. no_older d j o (back_older v r j (moved_told v j live (step_moved d r) e));
      older_only_shrinks = λ j o rs i l. let b = v.below j o in was_open v rs i (omega arith);
      at_last_oldest = λ j o rs c. oldest_on s j o rs c [];
      retried_at_last_oldest = λ j o rs c more r e.
          no_older (desk_after (desk_after d rs) more) j (λ i n p. oldest_on s j o rs c more i n (live_open ((desk_after (desk_after d rs) more).stat i) p))
          (back_older (started_inv (run_started (run_started s rs) more)) r j (sym (ap (λ x. (step x r).said) (after_both step d rs more)) ∙ e));
    }
