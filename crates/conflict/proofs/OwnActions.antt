-- The actions of one job, those of the others, and serial schedules, which are made of them.
-- Assumes nothing.
use Prim.Native.Nat.{ℕ}
use mathlib.Core.Path.{◌≡◌, refl, sym, ap, ap₂, ◌∙◌}
use mathlib.Core.Bool.{Bool, true, false, not}
use mathlib.Core.List.{List, [], ◌∷◌, ◌++◌, append-nil}
use borrow.Author.Tests.{eqb-true}
use lib.Dec.{eqb}
use Rattle.laws.specs.Choice.{by_test, not_both}
use Rattle.laws.specs.Lists.{member, distinct}
use Rattle.laws.proofs.Lists.{same_sym, member_first, member_later, member_more, member_other, once_first, once_rest}
use Rattle.laws.proofs.Parts.{and_first, and_second, and_both, nor_first, nor_second}
use Rattle.conflict.specs.declared.action.Action.{Action}
use Rattle.conflict.specs.Schedule.{Schedule, keep, own, serial, names}

-- the actions of every job but one, in their order
unfoldable pub others : ℕ → Schedule → Schedule
others j [] = []
others j (a ∷ s) = keep (not (eqb a.job j)) a (others j s)

-- a job's actions in two schedules, one behind the other
pub own_append : (j : ℕ) (s t : Schedule) → own j (s ++ t) ≡ own j s ++ own j t
unfolding own keep
own_append j [] t = refl
own_append j (a ∷ s) t =
    by_test (eqb a.job j) (λ e. rw e (ap (λ u. a ∷ u) (own_append j s t))) (λ f. rw f (own_append j s t))

-- every action in a job's actions is that job's
pub own_same : (j : ℕ) (s : Schedule) → own j (own j s) ≡ own j s
unfolding own keep
own_same j [] = refl
own_same j (a ∷ s) =
    by_test (eqb a.job j) (λ e. simp e (ap (λ u. a ∷ u) (own_same j s))) (λ f. rw f (own_same j s))

-- one more action of another job, kept or not
own_more : (k : ℕ) (b : Bool) (a : Action) (s : Schedule) → (b ≡ true → eqb a.job k ≡ false) → own k (keep b a s) ≡ own k s
unfolding own keep
own_more k true a s h = rw (h refl)
own_more k false a s h = refl

-- one job is not another
same_other : (i j k : ℕ) → eqb j k ≡ false → eqb i j ≡ true → eqb i k ≡ false
same_other i j k f e = rw (eqb-true i j e) f

-- and none is another job's
pub own_other : (j k : ℕ) (s : Schedule) → eqb j k ≡ false → own k (own j s) ≡ []
unfolding own
own_other j k [] f = refl
own_other j k (a ∷ s) f =
    own_more k (eqb a.job j) a (own j s) (λ e. same_other a.job j k f e) ∙ own_other j k s f

-- leaving out a job leaves every other job's actions
pub own_others : (j k : ℕ) (s : Schedule) → eqb j k ≡ false → own k (others j s) ≡ own k s
unfolding own keep others
own_others j k [] f = refl
own_others j k (a ∷ s) f =
    by_test (eqb a.job j) (λ e. simp (e, same_other a.job j k f e) (own_others j k s f))
    (λ g. rw g (ap (keep (eqb a.job k) a) (own_others j k s f)))

-- schedules in which each job of the order has the same actions have the same serial schedule
pub serial_alike : (order : List ℕ) (s t : Schedule) → ((k : ℕ) → member k order ≡ true → own k s ≡ own k t) → serial order s ≡ serial order t
unfolding serial
serial_alike [] s t h = refl
serial_alike (j ∷ order) s t h =
    ap₂ ◌++◌ (h j (member_first j order)) (serial_alike order s t (λ k m. h k (member_more j order k m)))

-- leaving out a job that the order does not name leaves its serial schedule
pub serial_others : (order : List ℕ) (j : ℕ) (s : Schedule) → member j order ≡ false → serial order (others j s) ≡ serial order s
serial_others order j s f = serial_alike order (others j s) s (λ k m. own_others j k s (member_other j k order f m))

-- a job that the order does not name has no action in its serial schedule
pub own_serial_none : (order : List ℕ) (k : ℕ) (s : Schedule) → member k order ≡ false → own k (serial order s) ≡ []
unfolding serial own member
own_serial_none [] k s f = refl
own_serial_none (j ∷ order) k s f =
    own_append k (own j s) (serial order s)
    ∙ ap₂ ◌++◌ (own_other j k s (nor_first (eqb j k) (member k order) f)) (own_serial_none order k s (nor_second (eqb j k) (member k order) f))

-- the first job of the order has its own actions in front, and none after them
own_first : (j : ℕ) (order : List ℕ) (s : Schedule) → member j order ≡ false → own j (serial (j ∷ order) s) ≡ own j s
unfolding serial
own_first j order s f =
    own_append j (own j s) (serial order s) ∙ ap₂ ◌++◌ (own_same j s) (own_serial_none order j s f) ∙ append-nil (own j s)

-- a job of the order has its own actions in its serial schedule
pub own_serial : (order : List ℕ) (k : ℕ) (s : Schedule) → distinct order ≡ true → member k order ≡ true → own k (serial order s) ≡ own k s
unfolding serial member
own_serial [] k s d m = not_both m refl
own_serial (j ∷ order) k s d m =
    by_test (eqb j k) (λ e. rw (← eqb-true j k e) (own_first j order s (once_first j order d)))
    (λ f. own_append k (own j s) (serial order s) ∙ ap₂ ◌++◌ (own_other j k s f) (own_serial order k s (once_rest j order d) (rw f at m)))

-- a serial schedule is its own serial schedule in the same order
pub serial_again : (order : List ℕ) (s : Schedule) → distinct order ≡ true → serial order s ≡ serial order (serial order s)
serial_again order s d = serial_alike order s (serial order s) (λ k m. sym (own_serial order k s d m))

-- if every job of each of two schedules is in the order, so is every job of the two joined
pub names_append : (order : List ℕ) (s t : Schedule) → names order s ≡ true → names order t ≡ true → names order (s ++ t) ≡ true
unfolding names
names_append order [] t h g = g
names_append order (a ∷ s) t h g =
    and_both (member a.job order) (names order (s ++ t)) (and_first (member a.job order) (names order s) h)
    (names_append order s t (and_second (member a.job order) (names order s) h) g)

-- the actions of a job in the order are actions of jobs in the order
pub names_own : (order : List ℕ) (j : ℕ) (s : Schedule) → member j order ≡ true → names order (own j s) ≡ true
unfolding names own keep
names_own order j [] m = refl
names_own order j (a ∷ s) m =
    by_test (eqb a.job j) (λ e. rw e (and_both (member a.job order) (names order (own j s)) (rw (eqb-true a.job j e) m) (names_own order j s m)))
    (λ f. rw f (names_own order j s m))

-- a serial schedule in part of an order has only jobs of the order
names_part : (order part : List ℕ) (s : Schedule) → ((k : ℕ) → member k part ≡ true → member k order ≡ true) → names order (serial part s) ≡ true
unfolding names serial
names_part order [] s h = refl
names_part order (j ∷ part) s h =
    names_append order (own j s) (serial part s) (names_own order j s (h j (member_first j part)))
    (names_part order part s (λ k m. h k (member_more j part k m)))

-- a serial schedule has only jobs of its order
pub names_serial : (order : List ℕ) (s : Schedule) → names order (serial order s) ≡ true
names_serial order s = names_part order order s (λ k m. m)

-- without the first job of the order, the rest of the order names every job
pub names_others : (j : ℕ) (order : List ℕ) (s : Schedule) → names (j ∷ order) s ≡ true → names order (others j s) ≡ true
unfolding names others keep
names_others j order [] h = refl
names_others j order (a ∷ s) h =
    let rest : names order (others j s) ≡ true = names_others j order s (and_second (member a.job (j ∷ order)) (names (j ∷ order) s) h) in
    by_test (eqb a.job j) (λ e. rw e rest)
    (λ f. rw f (and_both (member a.job order) (names order (others j s))
    (sym (member_later j order a.job (same_sym j a.job ∙ f)) ∙ and_first (member a.job (j ∷ order)) (names (j ∷ order) s) h)
    rest))

-- an empty order names every job only of the empty schedule
pub names_none : (s : Schedule) → names [] s ≡ true → s ≡ []
unfolding names member
names_none [] h = refl
names_none (a ∷ s) h = not_both h refl
