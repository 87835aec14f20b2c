-- Sorting jobs keeps the same jobs, each once, and no other ascending list has them; of two jobs, the smaller stands ahead.
-- Assumes nothing.
use Prim.Native.Nat.{ℕ, ◌≤◌, ◌<◌}
use mathlib.Core.Path.{◌≡◌, refl, sym, ap, ap₂, ◌∙◌}
use mathlib.Core.Logic.{◌≢◌}
use mathlib.Core.Bool.{Bool, true, false, not, ◌&&◌, ◌||◌}
use mathlib.Core.List.{List, [], ◌∷◌}
use native.Mathlib.Omega.{arith}
use lib.Dec.{ltb, eqb}
use borrow.Author.Tests.{eqb-true, eqb-false, ne_eqb, ltb-true, ltb-false, lt-ltb}
use Rattle.laws.specs.Choice.{by_test, not_both}
use Rattle.laws.specs.Lists.{member, distinct, pos}
use Rattle.laws.specs.Sorted.{under, ascending, insert, sorted}
use Rattle.laws.proofs.Lists.{member_first, member_later, member_more, member_none, once_first, first_ahead, pos_both}
use Rattle.laws.proofs.Parts.{and_first, and_second, and_both, or_either, or_swap}

-- a number smaller than all is smaller than each
pub under_each : (j : ℕ) (ks : List ℕ) → under j ks ≡ true → (k : ℕ) → member k ks ≡ true → j < k
unfolding under member
under_each j [] h k m = not_both m refl
under_each j (i ∷ ks) h k m =
    or_either (eqb i k) (member k ks) m (λ e. rw (← eqb-true i k e) (ltb-true j i (and_first (ltb j i) (under j ks) h)))
    (λ l. under_each j ks (and_second (ltb j i) (under j ks) h) k l)

-- the first of an ascending list is the smallest
pub head_least : (j : ℕ) (js : List ℕ) → ascending (j ∷ js) ≡ true → (k : ℕ) → member k (j ∷ js) ≡ true → j ≤ k
unfolding ascending member
head_least j js h k m =
    or_either (eqb j k) (member k js) m (λ e. let q : j ≡ k = eqb-true j k e in omega arith)
    (λ l. let q : j < k = under_each j js (and_first (under j js) (ascending js) h) k l in omega arith)

-- a test that is said again
or_again : (a b : Bool) → (a || b) ≡ (a || (a || b))
or_again true b = refl
or_again false b = refl

-- one more job is there, and the others are
insert_member : (i : ℕ) (ks : List ℕ) (j : ℕ) → member j (insert i ks) ≡ (eqb i j || member j ks)
unfolding insert member
insert_member i [] j = refl
insert_member i (k ∷ ks) j =
    by_test (ltb i k) (λ t. rw t)
    (λ f. by_test (eqb i k) (λ t. rw (f, t) (rw (eqb-true i k t) (or_again (eqb k j) (member j ks))))
    (λ g. rw (f, g) (ap (λ b. eqb k j || b) (insert_member i ks j) ∙ or_swap (eqb k j) (eqb i j) (member j ks))))

-- a number smaller than each is smaller than all
pub under_all : (j : ℕ) (ks : List ℕ) → ((k : ℕ) → member k ks ≡ true → j < k) → under j ks ≡ true
unfolding under
under_all j [] h = refl
under_all j (k ∷ ks) h =
    and_both (ltb j k) (under j ks) (lt-ltb j k (h k (member_first k ks))) (under_all j ks (λ i m. h i (member_more k ks i m)))

-- with one more in its place they still ascend
insert_ascending : (i : ℕ) (ks : List ℕ) → ascending ks ≡ true → ascending (insert i ks) ≡ true
unfolding insert ascending under
insert_ascending i [] a = refl
insert_ascending i (k ∷ ks) a =
    let over : under k ks ≡ true = and_first (under k ks) (ascending ks) a in
    by_test (ltb i k)
    (λ t.
    let less : i < k = ltb-true i k t in
    rw t (and_both (ltb i k && under i ks) (under k ks && ascending ks)
    (and_both (ltb i k) (under i ks) t (under_all i ks (λ j m. omega (arith, under_each k ks over j m)))) a))
    (λ f. by_test (eqb i k) (λ t. rw (f, t) a)
    (λ g.
    let most : k ≤ i = ltb-false i k f in
    let other' : i ≢ k = eqb-false i k g in
    let less : k < i = omega arith in
    rw (f, g) (and_both (under k (insert i ks)) (ascending (insert i ks))
    (under_all k (insert i ks)
    (λ j m. or_either (eqb i j) (member j ks) (sym (insert_member i ks j) ∙ m) (λ t. rw (← eqb-true i j t) less) (λ l. under_each k ks over j l)))
    (insert_ascending i ks (and_second (under k ks) (ascending ks) a)))))

-- the jobs in order are the jobs
pub sorted_member : (js : List ℕ) (j : ℕ) → member j (sorted js) ≡ member j js
unfolding sorted member
sorted_member [] j = refl
sorted_member (i ∷ js) j = insert_member i (sorted js) j ∙ ap (λ b. eqb i j || b) (sorted_member js j)

-- and they ascend
pub sorted_ascending : (js : List ℕ) → ascending (sorted js) ≡ true
unfolding sorted ascending
sorted_ascending [] = refl
sorted_ascending (i ∷ js) = insert_ascending i (sorted js) (sorted_ascending js)

-- jobs in ascending order are named once
pub ascending_once : (js : List ℕ) → ascending js ≡ true → distinct js ≡ true
unfolding ascending distinct
ascending_once [] a = refl
ascending_once (j ∷ js) a =
    and_both (not (member j js)) (distinct js)
    (ap not (by_test (member j js) (λ m. absurd (omega (arith, under_each j js (and_first (under j js) (ascending js) a) j m))) (λ f. f)))
    (ascending_once js (and_second (under j js) (ascending js) a))

-- two lists of the same jobs in ascending order are one
pub ascending_only : (js ks : List ℕ) → ascending js ≡ true → ascending ks ≡ true → ((j : ℕ) → member j js ≡ member j ks) → js ≡ ks
unfolding ascending member
ascending_only [] [] a b h = refl
ascending_only [] (k ∷ ks) a b h = not_both (member_first k ks) (sym (h k))
ascending_only (j ∷ js) [] a b h = not_both (member_first j js) (h j)
ascending_only (j ∷ js) (k ∷ ks) a b h =
    let up : j ≤ k = head_least j js a k (h k ∙ member_first k ks) in
    let down : k ≤ j = head_least k ks b j (sym (h j) ∙ member_first j js) in
    let e : j ≡ k = omega arith in
    ap₂ (λ i l. i ∷ l) e
    (ascending_only js ks (and_second (under j js) (ascending js) a) (and_second (under k ks) (ascending ks) b)
    (λ i. by_test (eqb j i)
    (λ t.
    let one' : member i js ≡ false = rw (← eqb-true j i t) (once_first j js (ascending_once (j ∷ js) a)) in
    let two' : member i ks ≡ false = rw (← eqb-true j i t, e) (once_first k ks (ascending_once (k ∷ ks) b)) in
    one' ∙ sym two')
    (λ f. sym (member_later j js i f) ∙ h i ∙ member_later k ks i (rw (← e) f))))

-- of two in an ascending list, the smaller stands ahead
pub ascending_ahead : (js : List ℕ) → ascending js ≡ true → (i k : ℕ) → member i js ≡ true → member k js ≡ true → i < k → pos js i < pos js k
unfolding ascending
ascending_ahead [] a i k mi mk less = member_none i mi
ascending_ahead (j ∷ js) a i k mi mk less =
    let least : j ≤ i = head_least j js a i mi in
    let behind : eqb j k ≡ false = ne_eqb j k (λ e. omega arith) in
    by_test (eqb j i) (λ t. first_ahead j js i k t behind)
    (λ f. pos_both j js i k f behind
    (ascending_ahead js (and_second (under j js) (ascending js) a) i k (sym (member_later j js i f) ∙ mi) (sym (member_later j js k behind) ∙ mk) less))
