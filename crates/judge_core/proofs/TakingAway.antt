-- Taking jobs away one at a time, clearing their flags and writing their numbers in order, gives the judge's order and the jobs that remain.
-- Assumes nothing.
use Prim.Native.Nat.{ℕ, suc, ◌+◌, ◌≤◌, ◌<◌}
use mathlib.Core.Path.{◌≡◌, refl, sym, ap, ◌∙◌}
use mathlib.Core.Bool.{Bool, false, not}
use mathlib.Core.List.{List, [], ◌∷◌, ◌++◌, append_assoc, append-nil}
use native.Mathlib.Numerals.{add-one}
use native.Mathlib.Omega.{arith}
use lib.Dec.{eqb}
use lib.ListN.{length, get_or, set, take, length-set}
use lib.Seq.{get_or-set_same, get_or-set_other, take-suc-set, length-take-le}
use borrow.Author.Tests.{eqb-true, eqb-false}
use Rattle.laws.specs.Choice.{by_test, not_both}
use Rattle.judge_rules.specs.Order.{Edges, ready, preceded, without, ends, leads, taken, order_of, stuck}
use Rattle.judge_rules.proofs.Without.{stays, left_other, left_before, shorter, ascending_left}
use Rattle.judge_rules.proofs.Preceded.{ready_is}
use Rattle.judge_rules.proofs.Taking.{times_enough}
use Rattle.std.specs.Prelude.{None, Some}
use Rattle.judge_core.specs.Left.{left_of}
use Rattle.judge_core.proofs.Listing.{listed_is, listed_has, listed_few, listed_only, listed_ascending}
use Rattle.judge_core.proofs.Seeking.{found_small}

-- a flag struck takes its job away
left_without : (left : List Bool) (j : ℕ) → length left ≡ 256 → j < 256 → left_of (set left j false) ≡ without j (left_of left)
unfolding left_of
left_without left j w b =
    let struck : get_or (set left j false) j false ≡ false = get_or-set_same left j false false (omega arith) in
    sym (listed_only (λ i. get_or (set left j false) i false) 0 256 (without j (left_of left))
    (ascending_left j (left_of left) (listed_ascending (λ i. get_or left i false) 0 256))
    (λ i m.
    let r = listed_is (λ k. get_or left k false) 0 256 i (left_before j (left_of left) i m) in
    let other' : j ≡ i → ⊥ = eqb-false j i (left_other j (left_of left) i m) in
    (r.0, r.1, get_or-set_other left j i false false (λ e. other' (sym e)) ∙ r.2))
    (λ i lo hi t.
    by_test (eqb j i)
    (λ q. not_both t (rw (← eqb-true j i q) struck))
    (λ q.
    let same' : get_or (set left j false) i false ≡ get_or left i false = get_or-set_other left j i false false (λ e. eqb-false j i q (sym e)) in
    stays j (left_of left) i q ∙ listed_has (λ k. get_or left k false) 0 256 i lo hi (sym same' ∙ t))))

-- one job put down behind those before
put_down : (placed : List ℕ) (k j : ℕ) (rest : List ℕ) → k < length placed → take (k + 1) (set placed k j) ++ rest ≡ take k placed ++ j ∷ rest
put_down placed k j rest h = rw (add-one k, take-suc-set placed k j h) (append_assoc (take k placed) (j ∷ []) rest)

-- of the jobs taken so far, each stands at its place; those to come are the order's rest, and what remains is the same
pub record Going (e : Edges) (jobs : List ℕ) (left : List Bool) (placed : List ℕ) (k : ℕ) : Type 0 where
  pub flags : length left ≡ 256
  pub wide : length placed ≡ 256
  pub room : k + length (left_of left) ≤ 256
  pub rest : stuck e jobs ≡ stuck e (left_of left)
  pub ahead : order_of e jobs ≡ take k placed ++ order_of e (left_of left)

-- nothing is taken yet
pub going_none : (e : Edges) (left : List Bool) (placed : List ℕ) → length left ≡ 256 → length placed ≡ 256 → Going e (left_of left) left placed 0
unfolding left_of
going_none e left placed f w =
    record { flags = f; wide = w; room = omega (arith, listed_few (λ j. get_or left j false) 0 256); rest = refl; ahead = refl }

module _ (e : Edges) where
  -- one time more than there are jobs is enough too
  taken_again : (jobs : List ℕ) → taken e (length jobs) jobs ≡ taken e (suc (length jobs)) jobs
  taken_again jobs = times_enough e (length jobs) (suc (length jobs)) jobs (omega arith) (omega arith)

  -- the job that is ready is taken, and then the others
  taken_next : (jobs : List ℕ) (j : ℕ) → ready e jobs ≡ Some j → taken e (length jobs) jobs ≡ leads j (taken e (length (without j jobs)) (without j jobs))
  unfolding taken
  taken_next jobs j h =
      let less : length (without j jobs) < length jobs = shorter j jobs (ready_is e jobs j h).0 in
      taken_again jobs ∙ rw h (ap (leads j) (times_enough e (length jobs) (length (without j jobs)) (without j jobs) (omega arith) (omega arith)))

  -- where none is ready nothing is taken
  taken_last : (jobs : List ℕ) → ready e jobs ≡ None → taken e (length jobs) jobs ≡ ends jobs
  unfolding taken
  taken_last jobs h = taken_again jobs ∙ rw h

  -- the order of the jobs begins with the one that is ready
  order_next : (jobs : List ℕ) (j : ℕ) → ready e jobs ≡ Some j → order_of e jobs ≡ j ∷ order_of e (without j jobs)
  unfolding order_of leads
  order_next jobs j h = ap (λ t. t.order) (taken_next jobs j h)

  -- and what remains of the others remains
  stuck_next : (jobs : List ℕ) (j : ℕ) → ready e jobs ≡ Some j → stuck e jobs ≡ stuck e (without j jobs)
  unfolding stuck leads
  stuck_next jobs j h = ap (λ t. t.remaining) (taken_next jobs j h)

  -- where none is ready the order is at its end
  order_last : (jobs : List ℕ) → ready e jobs ≡ None → order_of e jobs ≡ []
  unfolding order_of ends
  order_last jobs h = ap (λ t. t.order) (taken_last jobs h)

  -- and all remain
  stuck_last : (jobs : List ℕ) → ready e jobs ≡ None → stuck e jobs ≡ jobs
  unfolding stuck ends
  stuck_last jobs h = ap (λ t. t.remaining) (taken_last jobs h)

  module _ (jobs : List ℕ) (left : List Bool) (placed : List ℕ) (k : ℕ) (g : Going e jobs left placed k) where
    module _ (j : ℕ) (found : Some j ≡ ready e (left_of left)) where
      -- the job found is ready, and is one of 256
      found_ready : (ready e (left_of left) ≡ Some j) × (j < 256)
      unfolding ready
      found_ready = (sym found, found_small left (λ i. not (preceded e (left_of left) i)) j (sym found))

      -- without it fewer are left
      pub going_fewer : length (left_of (set left j false)) < length (left_of left)
      going_fewer =
          rw (left_without left j g.flags found_ready.1) (shorter j (left_of left) (ready_is e (left_of left) j found_ready.0).0)

      -- it has a place
      pub going_fits : (j < 256) × (k < 256)
      going_fits = (found_ready.1, omega (arith, going_fewer, g.room))

      -- one job more is taken
      pub going_more : Going e jobs (set left j false) (set placed k j) (k + 1)
      going_more =
          record {
            flags = length-set left j false ∙ g.flags;
            wide = length-set placed k j ∙ g.wide;
            room = omega (arith, going_fewer, g.room);
            rest = g.rest ∙ stuck_next (left_of left) j found_ready.0 ∙ ap (stuck e) (sym (left_without left j g.flags found_ready.1));
            ahead = g.ahead
                ∙ ap (λ l. take k placed ++ l) (order_next (left_of left) j found_ready.0)
                ∙ sym (put_down placed k j (order_of e (without j (left_of left))) (omega (arith, going_fits.1, g.wide)))
                ∙ ap (λ l. take (k + 1) (set placed k j) ++ order_of e l) (sym (left_without left j g.flags found_ready.1));
          }

    module _ (found : None ≡ ready e (left_of left)) where
      -- where nobody is found none is ready
      found_none : ready e (left_of left) ≡ None
      found_none = sym found

      -- what is left is what remains
      pub going_rest : left_of left ≡ stuck e jobs
      going_rest = sym (g.rest ∙ stuck_last (left_of left) found_none)

      -- what is put down is the order
      pub going_order : take k placed ≡ order_of e jobs
      going_order = sym (g.ahead ∙ rw (order_last (left_of left) found_none) (append-nil (take k placed)))

      -- of so many jobs
      pub going_count : k ≡ length (order_of e jobs)
      going_count = rw (← going_order) (sym (length-take-le k placed (omega (arith, g.room, g.wide))))
