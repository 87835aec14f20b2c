-- The knot in words has no second list: the jobs visited are fixed place by place, and so are the place where one comes again and the place of the smallest in the cycle.
-- Assumes nothing.
use Prim.Native.Nat.{ℕ, zero, suc, ◌+◌, ◌-◌, ◌≤◌, ◌<◌}
use mathlib.Core.Path.{◌≡◌, refl, sym, ap, ◌∙◌, subst}
use mathlib.Core.Bool.{true}
use mathlib.Core.List.{List}
use native.Mathlib.Omega.{arith}
use lib.Dec.{ltb}
use lib.ListN.{length, get_or}
use lib.Seq.{ext_get_or}
use borrow.Author.Tests.{ltb-true, ltb-false}
use Rattle.laws.specs.Choice.{by_test}
use Rattle.judge_rules.specs.Order.{Edges}
use Rattle.judge_rules.specs.KnotWorded.{Remains, SmallestOf, ComesAgain, KnotTold}

-- there is only one smallest
pub smallest_one : {these : ℕ → Type 0} {i j : ℕ} → SmallestOf these i → SmallestOf these j → i ≡ j
smallest_one {i = i} {j = j} a b = omega (arith, a.below j b.among, b.below i a.among)

-- two numbers are equal if neither is below the other
neither : (m n : ℕ) → (m < n → ⊥) → (n < m → ⊥) → m ≡ n
neither m n h g = by_test (ltb m n) (λ t. absurd (h (ltb-true m n t))) (λ a. by_test (ltb n m) (λ t. absurd (g (ltb-true n m t))) (λ b. omega (arith, ltb-false m n a, ltb-false n m b)))

module _ {e : Edges} {jobs : List ℕ} where
  -- two lists of visited jobs agree in every place of both
  same_place : {w v : List ℕ} {f g m n : ℕ} → ComesAgain e jobs w f m → ComesAgain e jobs v g n → (k : ℕ) → k ≤ m → k ≤ n → get_or w k 0 ≡ get_or v k 0
  same_place a b zero p q = smallest_one a.start b.start
  same_place {v = v} a b (suc k) p q =
      smallest_one (a.next k (omega arith))
      (subst (λ j. SmallestOf (λ i. Remains e jobs i × (e i j ≡ true)) (get_or v (suc k) 0)) (sym (same_place a b k (omega arith) (omega arith))) (b.next k (omega arith)))

  -- in neither list does a job come again before one does in the other
  not_sooner : {w v : List ℕ} {f g m n : ℕ} → ComesAgain e jobs w f m → ComesAgain e jobs v g n → m < n → ⊥
  not_sooner {f = f} {m = m} a b l =
      b.once f m a.earlier l
      (sym (same_place a b f (omega (arith, a.earlier)) (omega (arith, a.earlier))) ∙ a.again ∙ same_place a b m (omega arith) (omega arith))

  same_last : {w v : List ℕ} {f g m n : ℕ} → ComesAgain e jobs w f m → ComesAgain e jobs v g n → m ≡ n
  same_last {m = m} {n = n} a b = neither m n (not_sooner a b) (not_sooner b a)

  -- it stands first at one place
  not_before : {w v : List ℕ} {f g m : ℕ} → ComesAgain e jobs w f m → ComesAgain e jobs v g m → f < g → ⊥
  not_before {f = f} {g = g} {m = m} a b l =
      a.once f g l b.earlier
      (a.again ∙ same_place a b m (omega arith) (omega arith) ∙ sym b.again ∙ sym (same_place a b g (omega (arith, b.earlier)) (omega (arith, b.earlier))))

  same_first : {w v : List ℕ} {f g m : ℕ} → ComesAgain e jobs w f m → ComesAgain e jobs v g m → f ≡ g
  same_first {f = f} {g = g} a b = neither f g (not_before a b) (not_before b a)

  -- two places of the cycle do not hold one job
  apart : {w : List ℕ} {f m : ℕ} → ComesAgain e jobs w f m → (i k : ℕ) → f < i → i < k → k ≤ m → get_or w i 0 ≡ get_or w k 0 → ⊥
  apart {w = w} {f = f} {m = m} a i k p l q s =
      by_test (ltb k m) (λ t. a.once i k l (ltb-true k m t) s)
      (λ n. let end : k ≡ m = omega (arith, ltb-false k m n) in a.once f i p (omega arith) (a.again ∙ sym (ap (λ x. get_or w x 0) end) ∙ sym s))

  -- so the smallest stands at one place
  same_from : {w : List ℕ} {f m : ℕ} → ComesAgain e jobs w f m → (i k : ℕ) → f < i → i ≤ m → f < k → k ≤ m → get_or w i 0 ≡ get_or w k 0 → i ≡ k
  same_from a i k p q r s h = neither i k (λ l. apart a i k p l s h) (λ l. apart a k i r l q (sym h))

  module _ {js ks : List ℕ} (x : KnotTold e jobs js) (y : KnotTold e jobs ks) where
    -- one comes again at the same places
    both : ComesAgain e jobs y.way x.first x.last
    both =
        let b : ComesAgain e jobs y.way y.first x.last = subst (ComesAgain e jobs y.way y.first) (sym (same_last x.comes y.comes)) y.comes in
        subst (λ f. ComesAgain e jobs y.way f x.last) (sym (same_first x.comes b)) b

    first_same : x.first ≡ y.first
    first_same = same_first x.comes (subst (ComesAgain e jobs y.way y.first) (sym (same_last x.comes y.comes)) y.comes)

    -- every place up to there holds the same job
    holds : (k l : ℕ) → k ≡ l → k ≤ x.last → get_or x.way k 0 ≡ get_or y.way l 0
    holds k l s p = same_place x.comes both k p p ∙ ap (λ i. get_or y.way i 0) s

    -- the smallest of the cycle stands at the same place
    from_same : x.from ≡ y.from
    from_same =
        let l = same_last x.comes y.comes in
        let f = first_same in
        let low : get_or x.way x.from 0 ≤ get_or x.way y.from 0 = x.smallest y.from (omega (arith, y.behind)) (omega (arith, y.within)) in
        let high : get_or y.way y.from 0 ≤ get_or y.way x.from 0 = y.smallest x.from (omega (arith, x.behind)) (omega (arith, x.within)) in
        same_from x.comes x.from y.from x.behind x.within (omega (arith, y.behind)) (omega (arith, y.within))
        (omega (arith, holds x.from x.from refl x.within, holds y.from y.from refl (omega (arith, y.within))))

    -- so each place told holds the same job
    told_place : (i : ℕ) → i < length js → get_or js i 0 ≡ get_or ks i 0
    told_place i h =
        let l = same_last x.comes y.comes in
        let f = first_same in
        let s = from_same in
        by_test (ltb i (x.from - x.first))
        (λ t.
        let p : i < x.from - x.first = ltb-true i (x.from - x.first) t in
        x.back i p ∙ holds (x.from - i) (y.from - i) (omega arith) (omega (arith, x.within)) ∙ sym (y.back i (omega arith)))
        (λ n.
        let p : x.from - x.first ≤ i = ltb-false i (x.from - x.first) n in
        let k : ℕ = i - (x.from - x.first) in
        let one' : i ≡ (x.from - x.first) + k = omega arith in
        let two' : i ≡ (y.from - y.first) + k = omega arith in
        let few : k < x.last - x.from = omega (arith, x.size, x.behind, x.within) in
        ap (λ m. get_or js m 0) one' ∙ x.on k few ∙ holds (x.last - k) (y.last - k) (omega arith) (omega arith) ∙ sym (y.on k (omega arith)) ∙ sym (ap (λ m. get_or ks m 0) two'))

    -- and the lists are equal
    pub told_only : js ≡ ks
    told_only = ext_get_or 0 js ks (omega (arith, x.size, y.size, same_last x.comes y.comes, first_same)) told_place
