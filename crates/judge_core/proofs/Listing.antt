-- The numbers that pass a test: one more at the end, membership, and ascending order.
-- Assumes nothing.
use Prim.Native.Nat.{ℕ, zero, suc, ◌+◌, ◌≤◌, ◌<◌}
use mathlib.Core.Path.{◌≡◌, refl, sym, ap, ap₂, ◌∙◌}
use mathlib.Core.Bool.{Bool, true, false, ◌&&◌, ◌||◌}
use mathlib.Core.List.{List, [], ◌++◌}
use native.Mathlib.Nat.{add-zero}
use native.Mathlib.Omega.{arith}
use lib.Dec.{eqb}
use lib.ListN.{length}
use borrow.Author.Tests.{eqb-true, eqb-false}
use Rattle.laws.specs.Choice.{by_test, not_both}
use Rattle.laws.specs.Lists.{member, put}
use Rattle.laws.specs.Sorted.{under, ascending}
use Rattle.laws.proofs.Parts.{and_first, and_second, and_both, or_either, or_first, or_second}
use Rattle.laws.proofs.Sorted.{under_all, ascending_only}
use Rattle.judge_core.specs.Lists.{listed}

-- a number that is put in front stands before what follows
put_append : (b : Bool) (k : ℕ) (js ks : List ℕ) → put b k (js ++ ks) ≡ put b k js ++ ks
unfolding put
put_append true k js ks = refl
put_append false k js ks = refl

-- one number more stands at the end, if it passes
pub listed_more : (f : ℕ → Bool) (k m : ℕ) → listed f k (suc m) ≡ listed f k m ++ put (f (k + m)) (k + m) []
unfolding listed
listed_more f k zero = rw (add-zero k)
listed_more f k (suc m) =
    ap (put (f k) k) (listed_more f (suc k) m)
    ∙ put_append (f k) k (listed f (suc k) m) (put (f (suc k + m)) (suc k + m) [])
    ∙ ap (λ n. put (f k) k (listed f (suc k) m) ++ put (f n) n []) (omega arith)

-- tests that say the same of each number list the same
pub listed_same : (f g : ℕ → Bool) (k m : ℕ) → ((i : ℕ) → k ≤ i → i < k + m → f i ≡ g i) → listed f k m ≡ listed g k m
unfolding listed
listed_same f g k zero h = refl
listed_same f g k (suc m) h =
    ap₂ (λ b l. put b k l) (h k (omega arith) (omega arith)) (listed_same f g (suc k) m (λ i a b. h i (omega arith) (omega arith)))

-- a number put in front is in the list, and so are the others
put_member : (b : Bool) (k : ℕ) (js : List ℕ) (i : ℕ) → member i (put b k js) ≡ ((b && eqb k i) || member i js)
unfolding put member
put_member true k js i = refl
put_member false k js i = refl

-- a number listed is one of the m from k on, and passes
pub listed_is : (f : ℕ → Bool) (k m i : ℕ) → member i (listed f k m) ≡ true → (k ≤ i) × (i < k + m) × (f i ≡ true)
unfolding listed member
listed_is f k zero i h = not_both h refl
listed_is f k (suc m) i h =
    or_either (f k && eqb k i) (member i (listed f (suc k) m)) (sym (put_member (f k) k (listed f (suc k) m) i) ∙ h)
    (λ t.
    let e : k ≡ i = eqb-true k i (and_second (f k) (eqb k i) t) in
    (omega arith, omega arith, sym (ap f e) ∙ and_first (f k) (eqb k i) t))
    (λ t. let r = listed_is f (suc k) m i t in (omega arith, omega arith, r.2))

-- one of the m from k on that passes is listed
pub listed_has : (f : ℕ → Bool) (k m i : ℕ) → k ≤ i → i < k + m → f i ≡ true → member i (listed f k m) ≡ true
unfolding listed member
listed_has f k zero i a b p = absurd (omega arith)
listed_has f k (suc m) i a b p =
    put_member (f k) k (listed f (suc k) m) i
    ∙ by_test (eqb k i)
    (λ t. or_first (f k && eqb k i) (member i (listed f (suc k) m)) (and_both (f k) (eqb k i) (ap f (eqb-true k i t) ∙ p) t))
    (λ g.
    let other' : k ≡ i → ⊥ = eqb-false k i g in
    or_second (f k && eqb k i) (member i (listed f (suc k) m)) (listed_has f (suc k) m i (omega arith) (omega arith) p))

-- they ascend
pub listed_ascending : (f : ℕ → Bool) (k m : ℕ) → ascending (listed f k m) ≡ true
unfolding listed ascending put
listed_ascending f k zero = refl
listed_ascending f k (suc m) =
    by_test (f k)
    (λ t. rw t
    (and_both (under k (listed f (suc k) m)) (ascending (listed f (suc k) m))
    (under_all k (listed f (suc k) m) (λ i h. (listed_is f (suc k) m i h).0)) (listed_ascending f (suc k) m)))
    (λ g. rw g (listed_ascending f (suc k) m))

-- they are no more than were looked at
pub listed_few : (f : ℕ → Bool) (k m : ℕ) → length (listed f k m) ≤ m
unfolding listed put
listed_few f k zero = omega arith
listed_few f k (suc m) =
    by_test (f k) (λ t. rw t (omega (arith, listed_few f (suc k) m))) (λ g. rw g (omega (arith, listed_few f (suc k) m)))

-- and fewer where the first does not pass
pub listed_fewer : (f : ℕ → Bool) (k m : ℕ) → f k ≡ false → length (listed f k (suc m)) ≤ m
unfolding listed put
listed_fewer f k m e = rw e (listed_few f (suc k) m)

-- a list in ascending order of those that pass is what is listed
pub listed_only : (f : ℕ → Bool) (k m : ℕ) (js : List ℕ) → ascending js ≡ true → ((i : ℕ) → member i js ≡ true → (k ≤ i) × (i < k + m) × (f i ≡ true)) → ((i : ℕ) → k ≤ i → i < k + m → f i ≡ true → member i js ≡ true) → js ≡ listed f k m
listed_only f k m js a is has =
    ascending_only js (listed f k m) a (listed_ascending f k m)
    (λ i. by_test (member i js)
    (λ t. let r = is i t in t ∙ sym (listed_has f k m i r.0 r.1 r.2))
    (λ g. by_test (member i (listed f k m)) (λ t. let r = listed_is f k m i t in not_both (has i r.0 r.1 r.2) g) (λ h. g ∙ sym h)))
