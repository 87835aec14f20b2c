-- The invariant of started desks holds for a fresh desk, and a begin keeps it.
-- Assumes nothing.
use Prim.Native.Nat.{ℕ, suc, ◌<◌}
use mathlib.Core.Path.{◌≡◌, refl, sym, ◌∙◌}
use mathlib.Core.Bool.{true, false}
use lib.ListN.{length-replicate}
use native.Mathlib.Omega.{arith}
use Rattle.laws.specs.Choice.{by_test, not_both}
use Rattle.terms.specs.Limits.{places}
use Rattle.conflict.specs.declared.modes.Mode.TheVariants.{Free}
use Rattle.laws.specs.Lists.{member}
use Rattle.conflict.proofs.ModeLaws.{free_beside, free_is_free}
use Rattle.desks.specs.Places.{seated}
use Rattle.laws.specs.Standing.{In}
use Rattle.desk_rules.specs.Desk.{closed, running, waiting, Desk, is_open, idle, fresh_desk}
use Rattle.desk_rules.specs.Rules.{begin}
use Rattle.desk_rules.specs.Invariant.{Inv, RowInv}
use Rattle.desk_rules.proofs.Statuses.{running_live, running_open, closed_not_open, running_not_waiting, not_open_not_waiting}
use Rattle.laws.proofs.Standing.{in_none}
use Rattle.laws.proofs.Functions.{at_other, at_each, at_all}
use Rattle.desks.proofs.Places.{seated_others, seated_there, seated_once, seated_size, free_nobody, free_once}
use Rattle.desk_rules.proofs.KeptStatus.{open_number, status_row}

-- an idle row keeps the invariant
idle_row : (c : ℕ) → RowInv (λ j. closed) c idle
unfolding idle
idle_row c = record {
  pairs = λ i j n. free_beside Free;
  elder = λ w i h. in_none h;
  down = tt;
  blocked = tt;
  lacks = λ w h. in_none h;
  stands = λ w h. in_none h;
  holds = λ j f. not_both free_is_free f;
  within = λ w h. in_none h;
}

-- the invariant holds for a fresh desk
pub fresh_inv : (n : ℕ) → 0 < n → Inv (fresh_desk n)
unfolding fresh_desk
fresh_inv n l = record {
  rows = idle_row;
  queues = λ j c a e. absurd (not_open_not_waiting (closed_not_open refl) e);
  seats = λ j o. not_both o (closed_not_open refl);
  opens = λ j z m. not_both m (free_nobody places j z);
  nobody = refl;
  once = free_once places;
  size = length-replicate {A = ℕ} places 0;
  below = λ j o. not_both o (closed_not_open refl);
  some = l;
}

module _ {d : Desk} (v : Inv d) where
  -- the next number is not open
  pub next_not_open : is_open (d.stat d.next) ≡ false
  next_not_open = by_test (is_open (d.stat d.next)) (λ t. let l : d.next < d.next = v.below d.next t in absurd (omega arith)) (λ f. f)

  -- and has no place
  next_no_place : member d.next d.jobs ≡ false
  next_no_place =
      by_test (member d.next d.jobs) (λ t. not_both (v.opens d.next (λ e. let l = v.some in omega arith) t) next_not_open) (λ f. f)

  -- a begin keeps the invariant
  pub begin_inv : member 0 d.jobs ≡ true → Inv (begin d).desk
  unfolding begin
  begin_inv free = record {
    rows = λ c. status_row (v.rows c) d.next running (λ a. not_open_not_waiting next_not_open) (running_live refl);
    queues = λ i c a. at_all (λ i x. x ≡ waiting c a → In (record { job = i; ask = a }) (d.row c).queue) d.stat d.next running (λ h. absurd (running_not_waiting refl h)) (λ i _. v.queues i c a) i;
    seats = at_all (λ i x. is_open x ≡ true → member i (seated d.next d.jobs) ≡ true) d.stat d.next running
        (λ _. seated_there d.next d.jobs free) (λ i n o. seated_others d.next d.jobs i n (open_number v i o) ∙ v.seats i o);
    opens = λ i z m. at_each (λ x. is_open x ≡ true) d.stat d.next running i
        (λ _. running_open refl) (λ n. v.opens i z (sym (seated_others d.next d.jobs i n z) ∙ m));
    nobody = at_other d.stat d.next running 0 (λ e. let l = v.some in omega arith) ∙ v.nobody;
    once = seated_once d.next d.jobs next_no_place v.once;
    size = seated_size d.next d.jobs ∙ v.size;
    below = at_all (λ i x. is_open x ≡ true → i < suc d.next) d.stat d.next running (λ _. omega arith) (λ i _ o. let l : i < d.next = v.below i o in omega arith);
    some = omega arith;
  }
