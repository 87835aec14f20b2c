-- Lists of jobs by their places: which job is where, a list reversed, and a list cut in two and put together the other way round.
-- Assumes nothing.
use Prim.Native.Nat.{ℕ, zero, suc, ◌+◌, ◌<◌}
use mathlib.Core.Path.{◌≡◌, refl, ap, ◌∙◌}
use mathlib.Core.Logic.{◌≢◌}
use mathlib.Core.Bool.{true}
use mathlib.Core.List.{List, [], ◌∷◌, reverse_aux}
use native.Mathlib.Omega.{arith}
use lib.Dec.{eqb}
use lib.ListN.{length, get_or}
use borrow.Author.Tests.{eqb-true}
use Rattle.laws.specs.Choice.{by_test, not_both}
use Rattle.laws.specs.Lists.{member, distinct, pos}
use Rattle.laws.proofs.Lists.{member_first, member_more, once_first, once_rest}
use Rattle.judge_rules.specs.Knot.{up_to}

-- a job at a place of a list is in it
pub at_member : (js : List ℕ) (k : ℕ) → k < length js → member (get_or js k 0) js ≡ true
at_member [] k h = absurd (omega arith)
at_member (j ∷ js) zero h = member_first j js
at_member (j ∷ js) (suc k) h = member_more j js (get_or js k 0) (at_member js k (omega arith))

-- two places of a list that names none twice do not hold the same job
pub once_places : (js : List ℕ) → distinct js ≡ true → (i k : ℕ) → i < k → k < length js → get_or js i 0 ≢ get_or js k 0
once_places [] d i k l h e = omega arith
once_places (j ∷ js) d i zero l h e = omega arith
once_places (j ∷ js) d zero (suc k) l h e = not_both (ap (λ x. member x js) e ∙ at_member js k (omega arith)) (once_first j js d)
once_places (j ∷ js) d (suc i) (suc k) l h e = once_places js (once_rest j js d) i k (omega arith) (omega arith) e

-- a job that is in a list is at the place told for it
pub pos_at : (js : List ℕ) (j : ℕ) → member j js ≡ true → (pos js j < length js) × (get_or js (pos js j) 0 ≡ j)
unfolding pos member
pos_at [] j m = not_both m refl
pos_at (k ∷ js) j m =
    by_test (eqb k j) (λ t. rw t (omega arith, eqb-true k j t))
    (λ f. let r = pos_at js j (rw f at m) in rw f (omega (arith, r.0), r.1))

-- that many jobs are before it
pub up_to_size : (j : ℕ) (js : List ℕ) → member j js ≡ true → length (up_to j js) ≡ pos js j
unfolding pos up_to member
up_to_size j [] m = not_both m refl
up_to_size j (k ∷ js) m = by_test (eqb k j) (λ t. rw t) (λ f. rw f (ap suc (up_to_size j js (rw f at m))))

-- and each is at its own place
pub up_to_at : (j : ℕ) (js : List ℕ) (k : ℕ) → k < length (up_to j js) → get_or (up_to j js) k 0 ≡ get_or js k 0
unfolding up_to
up_to_at j [] k h = refl
up_to_at j (i ∷ js) zero h = by_test (eqb i j) (λ t. let z : 0 < 0 = rw t at h in absurd (omega arith)) (λ f. rw f)
up_to_at j (i ∷ js) (suc k) h =
    by_test (eqb i j) (λ t. let z : suc k < 0 = rw t at h in absurd (omega arith))
    (λ f. let z : suc k < suc (length (up_to j js)) = rw f at h in rw f (up_to_at j js k (omega arith)))

-- a list reversed in front of another: past it the other begins
past_round : (js ks : List ℕ) (k n : ℕ) → k ≡ length js + n → get_or (reverse_aux js ks) k 0 ≡ get_or ks n 0
past_round [] ks k n h = let e : k ≡ n = omega arith in rw e
past_round (j ∷ js) ks k n h = past_round js (j ∷ ks) k (suc n) (omega arith)

-- in the reversed list the places count from the end
pub round_at : (js ks : List ℕ) (k m : ℕ) → (k + m) + 1 ≡ length js → get_or (reverse_aux js ks) k 0 ≡ get_or js m 0
round_at [] ks k m h = absurd (omega arith)
round_at (j ∷ js) ks k zero h = past_round js (j ∷ ks) k 0 (omega arith)
round_at (j ∷ js) ks k (suc m) h = round_at js (j ∷ ks) k m (omega arith)
