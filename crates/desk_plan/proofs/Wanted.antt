-- The cells with waiters: how a loop over the places marks them; nobody waits for an unmarked cell.
-- Assumes nothing.
use Prim.Native.Nat.{ℕ, zero, suc, ◌+◌, ◌≤◌, ◌<◌}
use mathlib.Core.Path.{◌≡◌, refl, sym, ap, ◌∙◌}
use mathlib.Core.Bool.{Bool, true, false}
use mathlib.Core.List.{List}
use native.Mathlib.Numerals.{add-one}
use native.Mathlib.Omega.{arith}
use lib.Dec.{eqb}
use lib.ListN.{length, get_or, set, length-set, length-replicate}
use lib.Seq.{set_out, get_or-set_same, get_or-set_other}
use borrow.Author.Tests.{eqb-true, eqb-false, eq-eqb}
use Rattle.laws.specs.Choice.{by_test, not_both}
use Rattle.desk_arrays.specs.Codes.{waiting_code}
use Rattle.desk_arrays.specs.Places.{waits_at}
use Rattle.desk_plan.specs.Grants.{wanted}

module _ (status cell : List ℕ) where
  -- there is a mark for each cell
  pub wanted_length : (n : ℕ) → length (wanted status cell n) ≡ 64
  unfolding wanted
  wanted_length zero = length-replicate 64 false
  wanted_length (suc n) =
      by_test (eqb (get_or status n 0) waiting_code) (λ h. rw h (length-set (wanted status cell n) (get_or cell n 0) true ∙ wanted_length n))
      (λ h. rw h (wanted_length n))

  module _ (q : ℕ) {x y : List Bool} (so_far : x ≡ wanted status cell q) where
    -- a place that waits marks its cell
    pub wanted_marked : {c : ℕ} → get_or status q 0 ≡ waiting_code → c ≡ get_or cell q 0 → y ≡ set x c true → y ≡ wanted status cell (q + 1)
    unfolding wanted
    wanted_marked h e g = rw (add-one, eq-eqb _ _ h, ← so_far, ← e) g

    -- a number that is no cell's marks nothing
    pub wanted_outside : {c : ℕ} → get_or status q 0 ≡ waiting_code → c ≡ get_or cell q 0 → 64 ≤ c → y ≡ x → y ≡ wanted status cell (q + 1)
    wanted_outside {c} h e l g = wanted_marked h e (g ∙ sym (set_out x c true (omega (arith, ap length so_far, wanted_length q))))

  -- a cell that is not marked was not before, and the last place does not wait for it
  unmarked : (c n : ℕ) → c < 64 → get_or (wanted status cell (suc n)) c false ≡ false → (get_or (wanted status cell n) c false ≡ false) × (waits_at status cell c n ≡ false)
  unfolding wanted waits_at
  unmarked c n b =
      by_test (eqb (get_or status n 0) waiting_code)
      (λ t. rw t
      (by_test (eqb (get_or cell n 0) c)
      (λ e h. not_both (marked e) h)
      (λ e h. (sym (get_or-set_other (wanted status cell n) (get_or cell n 0) c true false (λ g. eqb-false (get_or cell n 0) c e (sym g))) ∙ h, e))))
      (λ t. rw t (λ h. (h, refl)))
    where
      marked : eqb (get_or cell n 0) c ≡ true → get_or (set (wanted status cell n) (get_or cell n 0) true) c false ≡ true
      marked e = rw (eqb-true (get_or cell n 0) c e) (get_or-set_same (wanted status cell n) c true false (omega (arith, wanted_length n)))

  -- nobody waits for a cell that is not marked
  pub unwanted : (c n : ℕ) → c < 64 → get_or (wanted status cell n) c false ≡ false → (q : ℕ) → q < n → waits_at status cell c q ≡ false
  unwanted c zero b h q l = absurd (omega arith)
  unwanted c (suc n) b h q l =
      by_test (eqb q n) (λ t. rw (eqb-true q n t) (unmarked c n b h).1)
      (λ f. let g : q ≡ n → ⊥ = eqb-false q n f in unwanted c n b (unmarked c n b h).0 q (omega arith))
