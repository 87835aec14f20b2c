-- Begin over the arrays, at the first free place, is the paper's begin: 7, then 6, else the next number.
-- Assumes nothing.
use Prim.Native.Nat.{ℕ, ◌<◌}
use mathlib.Core.Path.{◌≡◌, refl, sym, ap, subst, ◌∙◌}
use mathlib.Core.Logic.{◌≢◌}
use mathlib.Core.Bool.{true, false}
use mathlib.Core.List.{List}
use native.Mathlib.Omega.{arith}
use native.Mathlib.Numerals.{add-one}
use lib.Dec.{ltb}
use lib.ListN.{get_or, set, length-set}
use lib.Seq.{get_or-set_same, get_or-set_other}
use Rattle.std.specs.Prelude.{Ok, Err}
use Rattle.laws.specs.Choice.{pick, by_test}
use Rattle.laws.specs.Lists.{member, pos}
use Rattle.terms.specs.Limits.{places, last_number}
use Rattle.conflict.specs.declared.modes.Mode.TheVariants.{Free}
use Rattle.desks.specs.declared.Answer.TheVariants.{Go}
use Rattle.laws.specs.Functions.{at}
use Rattle.terms.specs.declared.refusals.Refusal.TheVariants.{AllOpen, NoNumberLeft}
use Rattle.desks.specs.Begin.{beginning}
use Rattle.desks.specs.Opening.{opening_of}
use Rattle.desk_rules.specs.Desk.{closed, running, Waiter}
use Rattle.desk_rules.specs.Rules.{begin}
use Rattle.desk_rules.specs.Step.{step_begin}
use Rattle.desk_rules.specs.Invariant.{Inv}
use Rattle.laws.proofs.Functions.{at_same, at_other, at_each}
use Rattle.desk_arrays.specs.declared.state.Desk.{Desk}
use Rattle.desk_arrays.specs.declared.moves.Move.TheVariants.{Begin}
use Rattle.desk_arrays.specs.Codes.{running_code}
use Rattle.desk_arrays.specs.Places.{mode_at}
use Rattle.desk_arrays.specs.Moves.{opened, begin_move}
use Rattle.desk_arrays.specs.Steps.{begun, carried, answer_to, performed}
use Rattle.desk_arrays.specs.Stands.{by_number, status_for, status_at, status_by, mode_by, Plain, Stands, Tied}
use Rattle.desks.proofs.Seats.{pos_below, pos_holds, free_place, seated_member}
use Rattle.desk_arrays.proofs.ByNumber.{nobody_has}
use Rattle.desks.proofs.Places.{seated_set}
use Rattle.desk_arrays.proofs.SeatsChanged.{taken_number}
use Rattle.desk_arrays.proofs.StatusCodes.{set_status}
use Rattle.desk_arrays.proofs.Telling.{quiet_tied}
use Rattle.desk_arrays.proofs.Reading.{paper_of, plain_stands, refuse_tied, pick_tied}

-- a begin's move, test by test
pub begin_picks : (next : ℕ) (number : List ℕ) → begin_move next number ≡ pick (ltb last_number next) (Err NoNumberLeft) (pick (ltb (pos number 0) places) (Ok (Begin (pos number 0) next)) (Err AllOpen))
unfolding begin_move opened opening_of
begin_picks next number = by_test (ltb last_number next) (λ t. rw t) (λ f. rw f (by_test (ltb (pos number 0) places) (λ t. rw t) (λ g. rw g)))

module _ {d : Desk} {q : ℕ → List Waiter} (plain : Plain d) (v : Inv (paper_of d q)) where
  -- the next number is not 0
  next_real : d.next ≢ 0
  next_real e = let l : 0 < d.next = v.some in omega arith

  -- and no place has it
  next_new : member d.next d.number ≡ false
  next_new =
      by_test (member d.next d.number)
      (λ t. let l : d.next < d.next = v.below d.next (v.opens d.next next_real t) in absurd (omega arith)) (λ f. f)

  module _ (room : member 0 d.number ≡ true) where
    -- the first free place is one of the 32
    below : pos d.number 0 < places
    below = subst (λ n. pos d.number 0 < n) plain.numbers (pos_below d.number 0 room)

    -- the new job is the only one of which anything changes
    begun_stands : Stands (begun d (pos d.number 0) d.next) (begin (paper_of d q)).desk
    unfolding begun begin status_by mode_by
    begun_stands = record {
      next = add-one d.next;
      jobs = sym (seated_set d.next d.number room);
      stat = λ i. sym (taken_number d.number d.next room next_new v.once closed running
          (status_at d.status d.cell d.ask) (status_at (set d.status (pos d.number 0) running_code) d.cell d.ask) next_real here' there' i);
      held = λ c i. sym (taken_number d.number d.next room next_new v.once Free Free (mode_at d.held c) (mode_at d.held c) next_real
          (plain.free_held (pos d.number 0) below (pos_holds d.number 0 room) c) (λ r _. refl) i ∙ nothing c i);
      plain = record {
        numbers = length-set d.number (pos d.number 0) d.next ∙ plain.numbers;
        statuses = length-set d.status (pos d.number 0) running_code ∙ plain.statuses;
        waited = plain.waited;
        asks = plain.asks;
        modes = plain.modes;
        free_status = λ r l e. get_or-set_other d.status (pos d.number 0) r running_code 0 (other r e) ∙ plain.free_status r l (was r e);
        free_held = λ r l e. plain.free_held r l (was r e);
      };
    }
      where
        p : ℕ
        p = pos d.number 0

        changed : (r : ℕ) → status_at (set d.status p running_code) d.cell d.ask r ≡ at (status_at d.status d.cell d.ask) p running r
        changed r = unfold status_for in set_status d.status d.cell d.ask p running_code (subst (λ n. p < n) (sym plain.statuses) below) r

        here' : status_at (set d.status p running_code) d.cell d.ask p ≡ running
        here' = changed p ∙ at_same (status_at d.status d.cell d.ask) p running

        there' : (r : ℕ) → r ≢ p → status_at (set d.status p running_code) d.cell d.ask r ≡ status_at d.status d.cell d.ask r
        there' r n = changed r ∙ at_other (status_at d.status d.cell d.ask) p running r n

        nothing : (c i : ℕ) → at (by_number Free d.number (mode_at d.held c)) d.next Free i ≡ by_number Free d.number (mode_at d.held c) i
        nothing c i =
            at_each (λ x. x ≡ by_number Free d.number (mode_at d.held c) i) (by_number Free d.number (mode_at d.held c)) d.next Free i
            (λ e. sym (ap (by_number Free d.number (mode_at d.held c)) e ∙ nobody_has Free d.number (mode_at d.held c) d.next (seated_member d.number d.next next_real ∙ next_new))) (λ _. refl)

        other : (r : ℕ) → get_or (set d.number p d.next) r 0 ≡ 0 → r ≢ p
        other r e c = next_real (sym (get_or-set_same d.number p d.next 0 (pos_below d.number 0 room)) ∙ ap (λ x. get_or (set d.number p d.next) x 0) (sym c) ∙ e)

        was : (r : ℕ) → get_or (set d.number p d.next) r 0 ≡ 0 → get_or d.number r 0 ≡ 0
        was r e = sym (get_or-set_other d.number p r d.next 0 (other r e)) ∙ e

    -- so where a place is free, begin is tied
    begun_tied : (j c : ℕ) → Tied (performed d j c (Ok (Begin (pos d.number 0) d.next))) (begin (paper_of d q))
    unfolding performed carried answer_to begin
    begun_tied j c = quiet_tied (Go d.next) begun_stands

  -- begin: 7, then 6, else the next number at the first free place
  pub begin_tied : (j c : ℕ) → Tied (performed d j c (begin_move d.next d.number)) (step_begin (paper_of d q))
  unfolding step_begin beginning
  begin_tied j c =
      rw (begin_picks d.next d.number)
      (pick_tied d j c (λ m. m) (ltb last_number d.next) (ltb last_number d.next) _ _ refl (λ _. refuse_tied d j c _ (plain_stands plain q))
      (λ _. pick_tied d j c (λ m. m) (ltb (pos d.number 0) places) (member 0 d.number) _ _ (ap (ltb (pos d.number 0)) (sym plain.numbers) ∙ free_place d.number)
      (λ room. begun_tied room j c) (λ _. refuse_tied d j c _ (plain_stands plain q))))
