-- The first job that passes a test: it is in the list and passes, it is missing only if none passes, and in an ascending list it is the smallest that does.
-- Assumes nothing.
use Rattle.std.specs.Prelude.{Option, None, Some}
use Prim.Native.Nat.{ℕ, ◌≤◌}
use mathlib.Core.Path.{◌≡◌, refl, sym, ap, ◌∙◌}
use mathlib.Core.Bool.{Bool, true, false}
use mathlib.Core.List.{List, [], ◌∷◌}
use native.Mathlib.Omega.{arith}
use lib.Dec.{eqb}
use borrow.Author.Tests.{eqb-true}
use Rattle.laws.specs.Choice.{by_test, not_both}
use Rattle.laws.specs.Lists.{member}
use Rattle.laws.specs.Sorted.{under, ascending}
use Rattle.laws.proofs.Lists.{member_first, member_more}
use Rattle.laws.proofs.Parts.{and_second, or_either}
use Rattle.laws.proofs.Sorted.{head_least}
use Rattle.judge_rules.specs.Order.{first}
use Rattle.judge_rules.specs.Meant.{Smallest}

-- a proof by whether there is one
pub by_one : {P : Type 0} (o : Option ℕ) → (o ≡ None → P) → ((j : ℕ) → o ≡ Some j → P) → P
by_one None no' one' = no' refl
by_one (Some j) no' one' = one' j refl

-- two equal findings find the same job
some_same : {a b : ℕ} → ◌≡◌ {A = Option ℕ} (Some a) (Some b) → a ≡ b
some_same e = cc

-- finding a job is not finding none
some_none : {P : Type 0} {a : ℕ} → ◌≡◌ {A = Option ℕ} (Some a) None → P
some_none e = let z : ◌≡◌ {A = ℕ} 0 1 = cc in absurd (omega arith)

-- the job found is in the list, and passes
pub first_is : (f : ℕ → Bool) (js : List ℕ) (j : ℕ) → first f js ≡ Some j → (member j js ≡ true) × (f j ≡ true)
unfolding first
first_is f [] j h = some_none (sym h)
first_is f (k ∷ ks) j h =
    by_test (f k) (λ t. let e : k ≡ j = some_same (rw t at h) in (rw e (member_first j ks), rw (← e) t))
    (λ g. let r = first_is f ks j (rw g at h) in (member_more k ks j r.0, r.1))

-- if none is found, none passes
pub first_none : (f : ℕ → Bool) (js : List ℕ) → first f js ≡ None → (j : ℕ) → member j js ≡ true → f j ≡ false
unfolding first member
first_none f [] h j m = not_both m refl
first_none f (k ∷ ks) h j m =
    by_test (f k) (λ t. some_none (rw t at h))
    (λ g. or_either (eqb k j) (member j ks) m (λ e. rw (← eqb-true k j e) g) (λ l. first_none f ks (rw g at h) j l))

-- in an ascending list the job found is the smallest that passes
pub first_least : (f : ℕ → Bool) (js : List ℕ) → ascending js ≡ true → (j : ℕ) → first f js ≡ Some j → (k : ℕ) → member k js ≡ true → f k ≡ true → j ≤ k
unfolding first ascending member
first_least f [] a j h k m p = not_both m refl
first_least f (i ∷ js) a j h k m p =
    by_test (f i) (λ t. let e : i ≡ j = some_same (rw t at h) in rw (← e) (head_least i js a k m))
    (λ g. first_least f js (and_second (under i js) (ascending js) a) j (rw g at h) k
    (or_either (eqb i k) (member k js) m (λ e. not_both p (rw (← eqb-true i k e) g)) (λ l. l)) p)

-- the same in the paper's words
pub first_smallest : (f : ℕ → Bool) (js : List ℕ) → ascending js ≡ true → (j : ℕ) → first f js ≡ Some j → Smallest f js j
first_smallest f js a j h = record { job = (first_is f js j h).0; passes = (first_is f js j h).1; least = first_least f js a j h }

-- and the smallest that passes is the one found
pub smallest_found : (f : ℕ → Bool) (js : List ℕ) → ascending js ≡ true → (j : ℕ) → Smallest f js j → first f js ≡ Some j
smallest_found f js a j s =
    by_one (first f js) (λ q. not_both s.passes (first_none f js q j s.job))
    (λ k q.
    let r = first_is f js k q in
    let up : j ≤ k = s.least k r.0 r.1 in
    let down : k ≤ j = first_least f js a k q j s.job s.passes in
    let e : k ≡ j = omega arith in
    q ∙ ap {B = Option ℕ} Some e)
