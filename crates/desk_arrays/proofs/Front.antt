-- The front of a cell's queue is the youngest place that waits for it. If nobody waits, there is none; any place found does wait.
-- Assumes nothing.
use Prim.Native.Nat.{ℕ, ◌<◌}
use mathlib.Core.Path.{◌≡◌, refl, subst}
use mathlib.Core.Logic.{◌≢◌, ◌⊎◌, inl, inr, ⊎_elim}
use mathlib.Core.Bool.{Bool, true, false, ◌&&◌}
use mathlib.Core.List.{List}
use native.Mathlib.Omega.{arith}
use lib.Dec.{ltb}
use lib.ListN.{length, get_or, get_or-eq_default}
use borrow.Author.Tests.{ltb-true, lt-ltb}
use Rattle.laws.specs.Choice.{by_test}
use Rattle.laws.proofs.Parts.{and_first, and_second, and_both}
use Rattle.terms.specs.Limits.{places}
use Rattle.desk_arrays.specs.Places.{waits_at, youngest}
use Rattle.desk_arrays.proofs.Best.{found_is, best_found, none_found}

module _ (number status cell : List ℕ) (c : ℕ) where
  -- a place takes over if it waits and is younger than the one found so far
  abbrev takes : ℕ → ℕ → Bool
  takes b q = waits_at status cell c q && ltb (get_or number b 0) (get_or number q 0)

  -- nobody is found yet, or the place found waits
  abbrev Kept : ℕ → Type 0
  Kept b = (b ≡ places) ⊎ (waits_at status cell c b ≡ true)

  -- and stays so
  kept_on : (b q : ℕ) → Kept b → takes b q ≡ true → Kept q
  kept_on b q _ t = inr (and_first (waits_at status cell c q) (ltb (get_or number b 0) (get_or number q 0)) t)

  -- where nobody waits for the cell there is no front
  pub no_youngest : (n : ℕ) → ((q : ℕ) → q < n → waits_at status cell c q ≡ false) → youngest number status cell c n ≡ places
  no_youngest n h = none_found (youngest number status cell c) takes (unfold youngest in refl) (λ m. unfold youngest in refl) Kept (inl refl) kept_on n (λ p l. rw (h p l))

  -- the place found waits for the cell
  pub front_waits : (n : ℕ) → youngest number status cell c n < places → waits_at status cell c (youngest number status cell c n) ≡ true
  front_waits n l = ⊎_elim (λ e. absurd (omega arith)) (λ w. w) (found_is (youngest number status cell c) takes (unfold youngest in refl) (λ m. unfold youngest in refl) Kept (inl refl) kept_on n)

  module _ (p : ℕ) (waits : waits_at status cell c p ≡ true) (others : (q : ℕ) → waits_at status cell c q ≡ true → q ≢ p → get_or number q 0 < get_or number p 0) where
    -- it takes over from everybody else
    takes_over : length number ≡ places → 0 < get_or number p 0 → (b : ℕ) → Kept b → b ≢ p → takes b p ≡ true
    takes_over s z b k o =
        and_both (waits_at status cell c p) (ltb (get_or number b 0) (get_or number p 0)) waits
        (lt-ltb (get_or number b 0) (get_or number p 0) (⊎_elim (λ e. let y = get_or-eq_default number 0 {n = b} (omega (arith, e, s)) in omega arith) (λ w. others b w o) k))

    -- and nobody from it
    stays : (q : ℕ) → takes p q ≡ false
    stays q =
        by_test (takes p q)
        (λ t. let l : get_or number p 0 < get_or number q 0 = ltb-true (get_or number p 0) (get_or number q 0) (and_second (waits_at status cell c q) (ltb (get_or number p 0) (get_or number q 0)) t) in
        let g = others q (and_first (waits_at status cell c q) (ltb (get_or number p 0) (get_or number q 0)) t) (λ e. same e l) in
        absurd (omega arith))
        (λ f. f)
      where
        same : q ≡ p → get_or number p 0 < get_or number q 0 → ⊥
        same e l = let g : get_or number p 0 < get_or number p 0 = subst (λ r. get_or number p 0 < get_or number r 0) e l in omega arith

    -- so it is found
    pub is_youngest : length number ≡ places → 0 < get_or number p 0 → (n : ℕ) → p < n → youngest number status cell c n ≡ p
    is_youngest s z = best_found (youngest number status cell c) takes (unfold youngest in refl) (λ m. unfold youngest in refl) Kept (inl refl) kept_on p (takes_over s z) stays
