-- A list of jobs without one of them: which are left, how many, and that they still ascend.
-- Assumes nothing.
use Prim.Native.Nat.{ℕ, ◌≤◌, ◌<◌}
use mathlib.Core.Path.{◌≡◌, refl, sym, ◌∙◌}
use mathlib.Core.Bool.{true, false}
use mathlib.Core.List.{List, [], ◌∷◌}
use native.Mathlib.Omega.{arith}
use lib.ListN.{length}
use lib.Dec.{ltb, eqb}
use borrow.Author.Tests.{eqb-true}
use Rattle.laws.specs.Choice.{by_test, not_both}
use Rattle.laws.specs.Lists.{member}
use Rattle.laws.specs.Sorted.{under, ascending}
use Rattle.laws.proofs.Lists.{member_later}
use Rattle.laws.proofs.Parts.{and_first, and_second, and_both}
use Rattle.judge_rules.specs.Order.{without}

-- the job is gone
pub gone : (j : ℕ) (ks : List ℕ) → member j (without j ks) ≡ false
unfolding without member
gone j [] = refl
gone j (k ∷ ks) = by_test (eqb k j) (λ t. rw t (gone j ks)) (λ f. rw f (member_later k (without j ks) j f ∙ gone j ks))

-- every other job is there as before
pub stays : (j : ℕ) (ks : List ℕ) (i : ℕ) → eqb j i ≡ false → member i (without j ks) ≡ member i ks
unfolding without member
stays j [] i f = refl
stays j (k ∷ ks) i f =
    by_test (eqb k j) (λ t. rw t (stays j ks i f ∙ sym (member_later k ks i (rw (eqb-true k j t) f))))
    (λ g. rw g (by_test (eqb k i) (λ t. rw t) (λ h. rw h (stays j ks i f))))

-- a job that is left is not the one that is gone
pub left_other : (j : ℕ) (ks : List ℕ) (i : ℕ) → member i (without j ks) ≡ true → eqb j i ≡ false
left_other j ks i h = by_test (eqb j i) (λ t. not_both h (rw (← eqb-true j i t) (gone j ks))) (λ f. f)

-- a job that is left was there before
pub left_before : (j : ℕ) (ks : List ℕ) (i : ℕ) → member i (without j ks) ≡ true → member i ks ≡ true
left_before j ks i h = sym (stays j ks i (left_other j ks i h)) ∙ h

-- the list is no longer than before
pub no_longer : (j : ℕ) (ks : List ℕ) → length (without j ks) ≤ length ks
unfolding without
no_longer j [] = omega arith
no_longer j (k ∷ ks) =
    let rest : length (without j ks) ≤ length ks = no_longer j ks in
    by_test (eqb k j) (λ t. rw t (omega arith)) (λ f. rw f (omega arith))

-- and shorter if the job was there
pub shorter : (j : ℕ) (ks : List ℕ) → member j ks ≡ true → length (without j ks) < length ks
unfolding without member
shorter j [] h = not_both h refl
shorter j (k ∷ ks) h =
    by_test (eqb k j) (λ t. rw t (omega (arith, no_longer j ks)))
    (λ f. rw f (omega (arith, shorter j ks (rw f at h))))

-- a job smaller than all is smaller than those left
pub under_left : (i j : ℕ) (ks : List ℕ) → under i ks ≡ true → under i (without j ks) ≡ true
unfolding under without
under_left i j [] h = refl
under_left i j (k ∷ ks) h =
    let rest : under i (without j ks) ≡ true = under_left i j ks (and_second (ltb i k) (under i ks) h) in
    by_test (eqb k j) (λ t. rw t rest) (λ f. rw f (and_both (ltb i k) (under i (without j ks)) (and_first (ltb i k) (under i ks) h) rest))

-- jobs in ascending order still are
pub ascending_left : (j : ℕ) (ks : List ℕ) → ascending ks ≡ true → ascending (without j ks) ≡ true
unfolding ascending without
ascending_left j [] h = refl
ascending_left j (k ∷ ks) h =
    let rest : ascending (without j ks) ≡ true = ascending_left j ks (and_second (under k ks) (ascending ks) h) in
    by_test (eqb k j) (λ t. rw t rest)
    (λ f. rw f (and_both (under k (without j ks)) (ascending (without j ks)) (under_left k j ks (and_first (under k ks) (ascending ks) h)) rest))
