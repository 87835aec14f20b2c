-- A list of jobs cut at a job and put together the other way round: a cycle listed from one of its jobs, and from its smallest.
-- Assumes nothing.
use Prim.Native.Nat.{ℕ, ◌≤◌}
use mathlib.Core.Path.{◌≡◌, refl, sym, ap, ap₂, ◌∙◌, subst}
use mathlib.Core.Bool.{true, false, not, ◌||◌, or_comm}
use mathlib.Core.List.{List, [], ◌∷◌, ◌++◌, append-nil, append_assoc}
use native.Mathlib.Omega.{arith}
use lib.Dec.{ltb, eqb}
use borrow.Author.Tests.{eqb-true, ltb-true, ltb-false}
use Rattle.laws.specs.Choice.{by_test, not_both}
use Rattle.laws.specs.Lists.{member, distinct}
use Rattle.laws.proofs.Lists.{same_refl, same_sym, member_first, member_later, member_more, once_first, once_rest}
use Rattle.laws.proofs.Parts.{and_both, or_either, nor_first, nor_second}
use Rattle.judge_rules.specs.Knot.{up_to, from, least}
use Rattle.laws.proofs.Joined.{member_append}

-- the part up to a job and the part from it are the whole
pub cut : (j : ℕ) (ks : List ℕ) → ks ≡ up_to j ks ++ from j ks
unfolding up_to from
cut j [] = refl
cut j (k ∷ ks) = by_test (eqb k j) (λ t. rw t) (λ f. rw f (ap (λ js. k ∷ js) (cut j ks)))

-- a job of the list comes first in the part from it
pub from_first : (j : ℕ) (ks : List ℕ) → member j ks ≡ true → (rest : List ℕ) × (from j ks ≡ j ∷ rest)
unfolding from member
from_first j [] m = not_both m refl
from_first j (k ∷ ks) m =
    by_test (eqb k j) (λ t. (ks, rw t (ap (λ i. i ∷ ks) (eqb-true k j t))))
    (λ f. let r = from_first j ks (rw f at m) in (r.0, rw f r.1))

-- the job is not in the part before it
pub up_to_none : (j : ℕ) (ks : List ℕ) → member j (up_to j ks) ≡ false
unfolding up_to member
up_to_none j [] = refl
up_to_none j (k ∷ ks) = by_test (eqb k j) (λ t. rw t) (λ f. rw f (member_later k (up_to j ks) j f ∙ up_to_none j ks))

-- every job before it is in the list
pub up_to_part : (j : ℕ) (ks : List ℕ) (i : ℕ) → member i (up_to j ks) ≡ true → member i ks ≡ true
unfolding up_to member
up_to_part j [] i m = m
up_to_part j (k ∷ ks) i m =
    by_test (eqb k j) (λ t. not_both (rw t at m) refl)
    (λ f. or_either (eqb k i) (member i (up_to j ks)) (rw f at m) (λ s. rw s) (λ l. member_more k ks i (up_to_part j ks i l)))

-- the part before it names none twice, if the list does not
pub up_to_once : (j : ℕ) (ks : List ℕ) → distinct ks ≡ true → distinct (up_to j ks) ≡ true
unfolding up_to distinct
up_to_once j [] d = refl
up_to_once j (k ∷ ks) d =
    by_test (eqb k j) (λ t. rw t)
    (λ f. rw f (and_both (not (member k (up_to j ks))) (distinct (up_to j ks))
    (ap not (by_test (member k (up_to j ks)) (λ m. not_both (up_to_part j ks k m) (once_first k ks d)) (λ g. g)))
    (up_to_once j ks (once_rest k ks d))))

-- what stands up to a job that is not before it
pub up_to_mid : (j : ℕ) (js ks : List ℕ) → member j js ≡ false → up_to j (js ++ j ∷ ks) ≡ js
unfolding up_to member
up_to_mid j [] ks f = rw (same_refl j)
up_to_mid j (i ∷ js) ks f =
    by_test (eqb i j) (λ t. not_both refl (rw t at f)) (λ g. rw g (ap (λ r. i ∷ r) (up_to_mid j js ks (rw g at f))))

-- and from it on
pub from_mid : (j : ℕ) (js ks : List ℕ) → member j js ≡ false → from j (js ++ j ∷ ks) ≡ j ∷ ks
unfolding from member
from_mid j [] ks f = rw (same_refl j)
from_mid j (i ∷ js) ks f =
    by_test (eqb i j) (λ t. not_both refl (rw t at f)) (λ g. rw g (from_mid j js ks (rw g at f)))

-- a job that is the first or in the rest still is with one between
member_between : (i k j : ℕ) (js : List ℕ) → member i (k ∷ js) ≡ true → member i (k ∷ j ∷ js) ≡ true
unfolding member
member_between i k j js m = or_either (eqb k i) (member i js) m (λ s. rw s) (λ l. member_more k (j ∷ js) i (member_more j js i l))

-- the smallest is one of them
pub least_is : (k : ℕ) (ks : List ℕ) → member (least k ks) (k ∷ ks) ≡ true
unfolding least
least_is k [] = member_first k []
least_is k (j ∷ js) =
    by_test (ltb j k) (λ t. rw t (member_more k (j ∷ js) (least j js) (least_is j js))) (λ f. rw f (member_between (least k js) k j js (least_is k js)))

-- and no larger than any of them
pub least_low : (k : ℕ) (ks : List ℕ) (i : ℕ) → member i (k ∷ ks) ≡ true → least k ks ≤ i
unfolding least member
least_low k [] i m = or_either (eqb k i) false m (λ s. let e : k ≡ i = eqb-true k i s in omega arith) (λ l. not_both l refl)
least_low k (j ∷ js) i m =
    by_test (ltb j k)
    (λ t. rw t (or_either (eqb k i) (member i (j ∷ js)) m
    (λ s. let e : k ≡ i = eqb-true k i s in omega (arith, ltb-true j k t, least_low j js j (member_first j js)))
    (λ l. least_low j js i l)))
    (λ f. rw f (or_either (eqb k i) (member i (j ∷ js)) m
    (λ s. let e : k ≡ i = eqb-true k i s in omega (arith, least_low k js k (member_first k js)))
    (λ l. or_either (eqb j i) (member i js) l
    (λ s. let e : j ≡ i = eqb-true j i s in omega (arith, ltb-false j k f, least_low k js k (member_first k js)))
    (λ r. least_low k js i (member_more k js i r)))))

-- what is kept when the first moves to the end is kept when a list is turned
pub turned_keeps : (P : List ℕ → Type 0) → ((k : ℕ) (ks : List ℕ) → P (k ∷ ks) → P (ks ++ k ∷ [])) → (js ks : List ℕ) → P (js ++ ks) → P (ks ++ js)
turned_keeps P step [] ks h = subst P (sym (append-nil ks)) h
turned_keeps P step (k ∷ js) ks h =
    subst P (append_assoc ks (k ∷ []) js)
    (turned_keeps P step js (ks ++ k ∷ []) (subst P (append_assoc js ks (k ∷ [])) (step k (js ++ ks) h)))

-- a list turned has the same jobs
pub turned_member : (i : ℕ) (js ks : List ℕ) → member i (js ++ ks) ≡ member i (ks ++ js)
turned_member i js ks = member_append i js ks ∙ or_comm (member i js) (member i ks) ∙ sym (member_append i ks js)

-- one more job at the end, not there before, is there once
once_end : (k : ℕ) (ks : List ℕ) → member k ks ≡ false → distinct ks ≡ true → distinct (ks ++ k ∷ []) ≡ true
unfolding distinct member
once_end k [] f d = refl
once_end k (j ∷ js) f d =
    and_both (not (member j (js ++ k ∷ []))) (distinct (js ++ k ∷ []))
    (ap not (member_append j js (k ∷ []) ∙ ap₂ (λ b c. b || (c || false)) (once_first j js d) (same_sym k j ∙ nor_first (eqb j k) (member k js) f)))
    (once_end k js (nor_second (eqb j k) (member k js) f) (once_rest j js d))

-- a list turned names none twice if the list does not
pub turned_once : (js ks : List ℕ) → distinct (js ++ ks) ≡ true → distinct (ks ++ js) ≡ true
turned_once js ks d =
    turned_keeps (λ l. distinct l ≡ true) (λ k l h. once_end k l (once_first k l h) (once_rest k l h)) js ks d
