-- A list that names no job twice, and only jobs of another list, is not longer than that list.
-- Assumes nothing.
use Prim.Native.Nat.{ℕ, suc, ◌≤◌}
use mathlib.Core.Path.{◌≡◌, refl, sym, ap, ◌∙◌}
use mathlib.Core.Bool.{true, false}
use mathlib.Core.List.{List, [], ◌∷◌}
use lib.ListN.{length}
use native.Mathlib.Omega.{arith}
use borrow.Author.Tests.{eqb-true}
use lib.Dec.{eqb}
use Rattle.laws.specs.Choice.{pick, by_test, not_both}
use Rattle.laws.specs.Lists.{member, distinct}
use Rattle.laws.proofs.Lists.{member_first, member_later, member_more, member_other, once_first, once_rest}

-- the list without the first place of a job
struck : ℕ → List ℕ → List ℕ
struck j [] = []
struck j (k ∷ ks) = pick (eqb k j) ks (k ∷ struck j ks)

-- it has one job fewer
struck_length : (j : ℕ) (ks : List ℕ) → member j ks ≡ true → length ks ≡ suc (length (struck j ks))
unfolding struck
struck_length j [] h = unfold member in not_both h refl
struck_length j (k ∷ ks) h =
    by_test (eqb k j) (λ t. rw t) (λ f. rw f (ap suc (struck_length j ks (sym (member_later k ks j f) ∙ h))))

-- and every other job still
struck_others : (j i : ℕ) (ks : List ℕ) → eqb j i ≡ false → member i ks ≡ true → member i (struck j ks) ≡ true
unfolding struck
struck_others j i [] n h = h
struck_others j i (k ∷ ks) n h =
    by_test (eqb k j) (λ t. rw t (sym (member_later k ks i (ap (λ x. eqb x i) (eqb-true k j t) ∙ n)) ∙ h))
    (λ f. rw f (by_test (eqb k i) (λ t. ap (λ x. member x (k ∷ struck j ks)) (sym (eqb-true k i t)) ∙ member_first k (struck j ks))
    (λ g. member_later k (struck j ks) i g ∙ struck_others j i ks n (sym (member_later k ks i g) ∙ h))))

-- so a list that names none twice, and only jobs of the other, is not longer
pub no_longer : (xs ys : List ℕ) → distinct xs ≡ true → ((i : ℕ) → member i xs ≡ true → member i ys ≡ true) → length xs ≤ length ys
no_longer [] ys o h = omega arith
no_longer (x ∷ xs) ys o h =
    let l : length xs ≤ length (struck x ys) = no_longer xs (struck x ys) (once_rest x xs o) (λ i m. struck_others x i ys (member_other x i xs (once_first x xs o) m) (h i (member_more x xs i m))) in
    let e : length ys ≡ suc (length (struck x ys)) = struck_length x ys (h x (member_first x xs)) in
    omega arith
