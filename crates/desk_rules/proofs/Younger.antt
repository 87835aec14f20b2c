-- Counting the younger jobs: an older job has at least as many younger ones as a younger job, and more if that one is listed; and the youngest of a list.
-- Assumes nothing.
use Prim.Native.Nat.{ℕ, ◌<◌, ◌≤◌}
use mathlib.Core.Path.{◌≡◌}
use mathlib.Core.Bool.{true}
use mathlib.Core.List.{List, [], ◌∷◌}
use native.Mathlib.Omega.{arith}
use lib.Dec.{ltb}
use lib.ListN.{length}
use borrow.Author.Tests.{ltb-true, ltb-false, lt-ltb, le-ltb}
use Rattle.laws.specs.Choice.{by_test}
use Rattle.laws.specs.Lists.{member}
use Rattle.laws.proofs.Lists.{member_first, member_more, member_split, member_none}
use Rattle.desk_rules.specs.Chain.{younger, youngest_of, younger_than}

-- an older job has at least as many younger ones
pub younger_fewer : (i j : ℕ) (js : List ℕ) → j ≤ i → younger_than i js ≤ younger_than j js
unfolding younger_than
younger_fewer i j [] l = omega arith
younger_fewer i j (k ∷ js) l =
    let r = younger_fewer i j js l in
    by_test (ltb i k)
    (λ t. let m = ltb-true i k t in rw (t, lt-ltb j k (omega arith)) (omega arith))
    (λ f. by_test (ltb j k) (λ t. rw (f, t) (omega arith)) (λ n. rw (f, n) (omega arith)))

-- and more if the younger of the two is listed
pub younger_less : (i j : ℕ) (js : List ℕ) → j < i → member i js ≡ true → younger_than i js < younger_than j js
unfolding younger_than
younger_less i j [] l h = member_none i h
younger_less i j (k ∷ js) l h =
    member_split k js i h
    (λ e. let r = younger_fewer i j js (omega arith) in
    rw (le-ltb i k (omega (arith, e)), lt-ltb j k (omega (arith, e, l))) (omega arith))
    (λ m. let r = younger_less i j js l m in
    by_test (ltb i k)
    (λ t. let g = ltb-true i k t in rw (t, lt-ltb j k (omega arith)) (omega arith))
    (λ f. by_test (ltb j k) (λ t. rw (f, t) (omega arith)) (λ n. rw (f, n) (omega arith))))

-- they are no more than the jobs listed
pub younger_most : (j : ℕ) (js : List ℕ) → younger_than j js ≤ length js
unfolding younger_than
younger_most j [] = omega arith
younger_most j (k ∷ js) = let r = younger_most j js in by_test (ltb j k) (λ t. rw t (omega arith)) (λ f. rw f (omega arith))

-- and fewer if the job is listed itself
pub younger_short : (j : ℕ) (js : List ℕ) → member j js ≡ true → younger_than j js < length js
unfolding younger_than
younger_short j [] h = member_none j h
younger_short j (k ∷ js) h =
    member_split k js j h
    (λ e. let r = younger_most j js in rw (le-ltb j k (omega (arith, e))) (omega arith))
    (λ m. let r = younger_short j js m in by_test (ltb j k) (λ t. rw t (omega arith)) (λ f. rw f (omega arith)))

-- no job in a list is younger than its youngest
pub youngest_most : (is : List ℕ) (i : ℕ) → member i is ≡ true → i ≤ youngest_of is
unfolding youngest_of younger
youngest_most [] i h = member_none i h
youngest_most (k ∷ is) i h =
    by_test (ltb k (youngest_of is))
    (λ t. let g = ltb-true k (youngest_of is) t in rw t (member_split k is i h (λ e. omega (arith, e, g)) (λ m. youngest_most is i m)))
    (λ f. let g = ltb-false k (youngest_of is) f in rw f (member_split k is i h (λ e. omega (arith, e)) (λ m. let l = youngest_most is i m in omega arith)))

-- if the youngest is not 0, it is listed
some_youngest : (is : List ℕ) → 0 < youngest_of is → member (youngest_of is) is ≡ true
unfolding youngest_of younger
some_youngest [] h = absurd (omega arith)
some_youngest (k ∷ is) h =
    by_test (ltb k (youngest_of is))
    (λ t. let g = ltb-true k (youngest_of is) t in rw t (member_more k is (youngest_of is) (some_youngest is (omega arith))))
    (λ f. rw f (member_first k is))

-- the youngest of a list that has a job other than 0 is listed
pub youngest_listed : (is : List ℕ) (i : ℕ) → member i is ≡ true → 0 < i → member (youngest_of is) is ≡ true
youngest_listed is i h z = let l = youngest_most is i h in some_youngest is (omega arith)
