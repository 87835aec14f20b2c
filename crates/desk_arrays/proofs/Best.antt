-- A search through the places that keeps the best so far finds the place that beats every other candidate and is beaten by none; without a candidate it finds none.
-- Assumes nothing.
use Prim.Native.Nat.{ℕ, zero, suc, ◌<◌}
use mathlib.Core.Path.{◌≡◌, sym, ap, subst, ◌∙◌}
use mathlib.Core.Logic.{◌≢◌}
use mathlib.Core.Bool.{Bool, true, false}
use native.Mathlib.Omega.{arith}
use Rattle.laws.specs.Choice.{pick, by_test}
use Rattle.terms.specs.Limits.{places}
use Rattle.desk_arrays.proofs.Cases.{by_same, by_last}

-- `found` after some places, 32 before any; a place takes over from the one found if the test says so; P holds of the place found
module _ (found : ℕ → ℕ) (takes : ℕ → ℕ → Bool) (none' : found zero ≡ places) (more : (n : ℕ) → found (suc n) ≡ pick (takes (found n) n) n (found n))
    (P : ℕ → Type 0) (nobody : P places) (kept : (b n : ℕ) → P b → takes b n ≡ true → P n) where
  -- a place that takes over is found, else the one found before
  took : (n : ℕ) → takes (found n) n ≡ true → found (suc n) ≡ n
  took n t = more n ∙ rw t

  stayed : (n : ℕ) → takes (found n) n ≡ false → found (suc n) ≡ found n
  stayed n f = more n ∙ rw f

  -- P holds of the place found
  pub found_is : (n : ℕ) → P (found n)
  found_is zero = subst P (sym none') nobody
  found_is (suc n) =
      by_test (takes (found n) n) (λ t. subst P (sym (took n t)) (kept (found n) n (found_is n) t)) (λ f. subst P (sym (stayed n f)) (found_is n))

  -- the best is found
  pub best_found : (q : ℕ) → ((b : ℕ) → P b → b ≢ q → takes b q ≡ true) → ((p : ℕ) → takes q p ≡ false) → (n : ℕ) → q < n → found n ≡ q
  best_found q wins stays zero l = absurd (omega arith)
  best_found q wins stays (suc n) l =
      by_last q n l
      (λ e. subst (λ m. found (suc m) ≡ q) e
      (by_same (found q) q (λ s. stayed q (ap (λ b. takes b q) s ∙ stays q) ∙ s) (λ d. took q (wins (found q) (found_is q) d))))
      (λ k. let r = best_found q wins stays n k in stayed n (ap (λ b. takes b n) r ∙ stays n) ∙ r)

  -- where no place takes over from nobody, nobody is found
  pub none_found : (n : ℕ) → ((p : ℕ) → p < n → takes places p ≡ false) → found n ≡ places
  none_found zero h = none'
  none_found (suc n) h = let r = none_found n (λ p l. h p (omega arith)) in stayed n (ap (λ b. takes b n) r ∙ h n (omega arith)) ∙ r
