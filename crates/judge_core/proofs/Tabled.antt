-- A table of values: its length, its entries, and the effect of one store.
-- Assumes nothing.
use Prim.Native.Nat.{ℕ, zero, suc, ◌<◌}
use mathlib.Core.Path.{◌≡◌, refl, sym, ◌∙◌}
use mathlib.Core.List.{List, [], ◌∷◌}
use native.Mathlib.Omega.{arith}
use native.Mathlib.Numerals.{add-one}
use lib.Dec.{eqb}
use lib.ListN.{length, get_or, set, replicate, length-append, length-set, length-replicate, get_or-replicate, get_or-append}
use lib.Seq.{get_or_at, ext_get_or, get_or-set_same, get_or-set_other}
use borrow.Author.Tests.{eqb-true, eqb-false}
use Rattle.laws.specs.Choice.{by_test}
use Rattle.judge_core.specs.Lists.{values_of}

module _ {A : Type 0} where
  -- it has n values
  pub tab_length : (f : ℕ → A) (n : ℕ) → length (values_of f n) ≡ n
  unfolding values_of
  tab_length f zero = refl
  tab_length f (suc n) = length-append (values_of f n) (f n ∷ []) ∙ rw (tab_length f n) (add-one n)

  -- at each place stands its value
  pub tab_at : (f : ℕ → A) (n : ℕ) (d : A) (i : ℕ) → i < n → get_or (values_of f n) i d ≡ f i
  unfolding values_of
  tab_at f zero d i h = absurd (omega arith)
  tab_at f (suc n) d i h =
      by_test (eqb i n)
      (λ t. rw (eqb-true i n t) (get_or_at (values_of f n) (f n) [] d n (tab_length f n)))
      (λ g.
      let less : i < n = omega (arith, eqb-false i n g) in
      get_or-append (values_of f n) (f n ∷ []) d i (rw (tab_length f n) less) ∙ tab_at f n d i less)

  -- a list with those values at its places is the table
  pub tab_is : (f : ℕ → A) (n : ℕ) (d : A) (l : List A) → length l ≡ n → ((i : ℕ) → i < n → get_or l i d ≡ f i) → l ≡ values_of f n
  tab_is f n d l e h =
      ext_get_or d l (values_of f n) (e ∙ sym (tab_length f n))
      (λ i b.
      let less : i < n = omega arith in
      h i less ∙ sym (tab_at f n d i less))

  -- tables of the same values are the same
  pub tab_same : (f g : ℕ → A) (n : ℕ) (d : A) → ((i : ℕ) → i < n → f i ≡ g i) → values_of f n ≡ values_of g n
  tab_same f g n d h = tab_is g n d (values_of f n) (tab_length f n) (λ i b. tab_at f n d i b ∙ h i b)

  -- a list of one value is its table
  pub tab_all : (n : ℕ) (a : A) → replicate n a ≡ values_of (λ i. a) n
  tab_all n a = tab_is (λ i. a) n a (replicate n a) (length-replicate n a) (λ i b. get_or-replicate n i a a b)

  -- a store that changes one value
  pub tab_set : (f g : ℕ → A) (n : ℕ) (d : A) (k : ℕ) (v : A) → k < n → v ≡ g k → ((i : ℕ) → i < n → (i ≡ k → ⊥) → f i ≡ g i) → set (values_of f n) k v ≡ values_of g n
  tab_set f g n d k v b e h =
      tab_is g n d (set (values_of f n) k v) (length-set (values_of f n) k v ∙ tab_length f n)
      (λ i l.
      by_test (eqb i k)
      (λ t. rw (eqb-true i k t) (get_or-set_same (values_of f n) k v d (rw (tab_length f n) b) ∙ e))
      (λ t. get_or-set_other (values_of f n) k i v d (eqb-false i k t) ∙ tab_at f n d i l ∙ h i l (eqb-false i k t)))
