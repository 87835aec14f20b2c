-- The search for a conflict between two jobs' lines, by the cells on which they meet and the last line of each kind on a cell.
-- Assumes nothing.
use Prim.Native.Nat.{ℕ, suc, ◌+◌, ◌-◌, ◌≤◌, ◌<◌}
use mathlib.Core.Path.{◌≡◌, refl, sym, ap, ap₂, ◌∙◌}
use mathlib.Core.Bool.{Bool, true, false, not, ◌&&◌, and-true, and-false}
use mathlib.Core.List.{List, [], ◌∷◌}
use native.Mathlib.Omega.{arith}
use lib.Dec.{ltb, eqb}
use lib.ListN.{length, get_or, take}
use lib.Seq.{take-length}
use borrow.Author.Tests.{eqb-true, lt-ltb, le-ltb, ltb-true, not-true, not-false}
use Rattle.laws.specs.Choice.{by_test, not_both}
use Rattle.laws.specs.Lists.{member}
use Rattle.laws.specs.Sorted.{under, ascending}
use Rattle.laws.proofs.Lists.{same_refl, member_first, member_more}
use Rattle.laws.proofs.Parts.{and_first, and_second, and_both, or_either, or_first, or_second}
use Rattle.laws.proofs.Sorted.{under_each}
use Rattle.conflict.specs.declared.action.Kind.{Kind}
use Rattle.conflict.specs.declared.action.Action.{Action}
use Rattle.conflict.specs.Schedule.{conflicts}
use Rattle.conflict.specs.Cells.{in_set}
use Rattle.conflict.proofs.Conflicting.{conflict_cell}
use Rattle.judge_core.specs.Meeting.{kind_by, action_by, action_at, clashing, meets_later, meetings}
use Rattle.judge_core.specs.Grouped.{Lined}
use Rattle.judge_core.specs.Reaching.{last_key, Reach, last_met, may_meet, Masked}
use Rattle.judge_core.proofs.Meetings.{none_later}
use Rattle.judge_core.proofs.Searching.{up_to}

-- a line meets some where one of them stands later and conflicts
later_has : (clash : ℕ → ℕ → Bool) (x y : ℕ) (ys : List ℕ) → member y ys ≡ true → x < y → clash x y ≡ true → meets_later clash x ys ≡ true
unfolding member meets_later
later_has clash x y [] m b t = not_both m refl
later_has clash x y (z ∷ ys) m b t =
    or_either (eqb z y) (member y ys) m
    (λ q. or_first (ltb x z && clash x z) (meets_later clash x ys) (rw (eqb-true z y q) (and_both (ltb x y) (clash x y) (lt-ltb x y b) t)))
    (λ q. or_second (ltb x z && clash x z) (meets_later clash x ys) (later_has clash x y ys q b t))

-- where it meets some, one of them stands later and conflicts
later_by : (clash : ℕ → ℕ → Bool) (x : ℕ) (ys : List ℕ) → meets_later clash x ys ≡ true → (y : ℕ) × (member y ys ≡ true) × (x < y) × (clash x y ≡ true)
unfolding member meets_later
later_by clash x [] t = not_both t refl
later_by clash x (z ∷ ys) t =
    or_either (ltb x z && clash x z) (meets_later clash x ys) t
    (λ q. (z, or_first (eqb z z) (member z ys) (same_refl z), ltb-true x z (and_first (ltb x z) (clash x z) q), and_second (ltb x z) (clash x z) q))
    (λ q. let r = later_by clash x ys q in (r.0, or_second (eqb z r.0) (member r.0 ys) r.1, r.2, r.3))

-- where none of ys stands after one of xs, none is met
pub apart_none : (clash : ℕ → ℕ → Bool) (xs ys : List ℕ) → ((x y : ℕ) → member x xs ≡ true → member y ys ≡ true → y ≤ x) → false ≡ meetings clash xs ys
unfolding meetings
apart_none clash [] ys h = refl
apart_none clash (x ∷ xs) ys h =
    rw (none_later clash x ys (λ y m. h x y (member_first x xs) m)) (apart_none clash xs ys (λ z y m l. h z y (member_more x xs z m) l))

-- and where none of them conflict
pub meetings_none : (clash : ℕ → ℕ → Bool) (xs ys : List ℕ) → ((x y : ℕ) → member x xs ≡ true → member y ys ≡ true → clash x y ≡ true → ⊥) → false ≡ meetings clash xs ys
unfolding meetings
meetings_none clash [] ys h = refl
meetings_none clash (x ∷ xs) ys h =
    by_test (meets_later clash x ys)
    (λ t. let y = later_by clash x ys t in absurd (h x y.0 (member_first x xs) y.1 y.3))
    (λ f. rw f (meetings_none clash xs ys (λ z y m l. h z y (member_more x xs z m) l)))

-- in ascending order nothing is smaller than the first
from_first : (xs : List ℕ) → ascending xs ≡ true → (x : ℕ) → member x xs ≡ true → get_or xs 0 0 ≤ x
unfolding member ascending
from_first [] a x m = not_both m refl
from_first (z ∷ xs) a x m =
    or_either (eqb z x) (member x xs) m (λ t. omega (arith, eqb-true z x t))
    (λ t. omega (arith, under_each z xs (and_first (under z xs) (ascending xs) a) x t))

-- nothing is in an empty list
empty_none : (xs : List ℕ) (x : ℕ) → length xs ≡ 0 → member x xs ≡ true → ⊥
unfolding member
empty_none [] x e m = not_both m refl
empty_none (z ∷ xs) x e m = omega arith

module _ (xs ys : List ℕ) (lx : Lined xs) (ly : Lined ys) where
  -- lists of which one is empty are apart
  pub apart_empty : length xs ≡ 0 → (x y : ℕ) → member x xs ≡ true → member y ys ≡ true → y ≤ x
  apart_empty e x y m l = absurd (empty_none xs x e m)

  pub apart_empty' : length ys ≡ 0 → (x y : ℕ) → member x xs ≡ true → member y ys ≡ true → y ≤ x
  apart_empty' e x y m l = absurd (empty_none ys y e l)

  -- and so are two of which the one starts where the other ends, or behind
  pub apart_order : (length ys ≡ 0 → ⊥) → get_or ys (length ys - 1) 0 ≤ get_or xs 0 0 → (x y : ℕ) → member x xs ≡ true → member y ys ≡ true → y ≤ x
  apart_order z h x y m l =
      let last : length ys - 1 < length ys = omega arith in
      let whole : suc (length ys - 1) ≡ length ys = omega arith in
      omega (arith, from_first xs lx.ordered x m, up_to ys (length ys - 1) ly.ordered last y (ap (member y) (ap (λ k. take k ys) whole ∙ take-length ys) ∙ l))

-- the action of a job, of a kind and on a cell
pub other_made : (j k c : ℕ) (kind : Kind) (job cell : ℕ) → kind ≡ kind_by k → job ≡ j → cell ≡ c → record { kind = kind; job = job; cell = cell } ≡ action_by k j c
unfolding action_by
other_made j k c kind job cell e f g = rw (e, f, g)

-- lines that clash are on one cell
pub one_cell : (codes jobs cells : List ℕ) (x y : ℕ) → clashing codes jobs cells x y ≡ true → get_or cells x 0 ≡ get_or cells y 0
unfolding clashing action_at action_by
one_cell codes jobs cells x y t = conflict_cell (action_at codes jobs cells x) (action_at codes jobs cells y) t

module _ (codes jobs cells lasts : List ℕ) (j : ℕ) where
  -- a last line that does not stand later is not met
  pub last_early : (x k key v : ℕ) → key ≡ last_key j k (get_or cells x 0) → v ≡ get_or lasts key 0 → v ≤ x + 1 → false ≡ last_met codes jobs cells lasts j x k
  unfolding last_met
  last_early x k key v i e h = rw (← i, ← e, le-ltb (x + 1) v h)

  -- one that does is met where it conflicts
  pub last_late : (x k key v : ℕ) (a b : Action) (r : Bool) → key ≡ last_key j k (get_or cells x 0) → v ≡ get_or lasts key 0 → x + 1 < v → a ≡ action_at codes jobs cells x → b ≡ action_by k j (get_or cells x 0) → r ≡ conflicts a b → r ≡ last_met codes jobs cells lasts j x k
  unfolding last_met
  last_late x k key v a b r i e h p q c = c ∙ ap₂ conflicts p q ∙ sym (ap (λ t. t && conflicts (action_at codes jobs cells x) (action_by k j (get_or cells x 0))) (ap (λ z. ltb (x + 1) (get_or lasts z 0)) (sym i) ∙ ap (ltb (x + 1)) (sym e) ∙ lt-ltb (x + 1) v h))

  module _ (ys : List ℕ) (r : Reach codes jobs cells lasts j ys) (x : ℕ) where
    -- a last line that is met is one of the job's lines
    pub reach_found : (k : ℕ) → k < 3 → get_or cells x 0 < 64 → last_met codes jobs cells lasts j x k ≡ true → meets_later (clashing codes jobs cells) x ys ≡ true
    unfolding last_met clashing action_at
    reach_found k b h t =
        let v = get_or lasts (last_key j k (get_or cells x 0)) 0 in
        let ahead : x + 1 < v = ltb-true (x + 1) v (and_first (ltb (x + 1) v) (conflicts (action_at codes jobs cells x) (action_by k j (get_or cells x 0))) t) in
        let some' : 0 < v = omega arith in
        let m = r.there k (get_or cells x 0) b h some' in
        later_has (clashing codes jobs cells) x (v - 1) ys m (omega arith)
        (rw (r.there_code k (get_or cells x 0) b h some', r.job (v - 1) m, r.there_cell k (get_or cells x 0) b h some')
        (and_second (ltb (x + 1) v) (conflicts (action_at codes jobs cells x) (action_by k j (get_or cells x 0))) t))

    -- where no last line is met no line is
    pub reach_none : ((k : ℕ) → k < 3 → last_met codes jobs cells lasts j x k ≡ false) → meets_later (clashing codes jobs cells) x ys ≡ false
    unfolding last_met clashing action_at
    reach_none h =
        by_test (meets_later (clashing codes jobs cells) x ys)
        (λ t.
        let y = later_by (clashing codes jobs cells) x ys t in
        let k = get_or codes y.0 0 in
        let at = one_cell codes jobs cells x y.0 y.3 in
        let v = get_or lasts (last_key j k (get_or cells x 0)) 0 in
        let far' : y.0 < v = rw at (r.far y.0 y.1) in
        let act : action_at codes jobs cells y.0 ≡ action_by k j (get_or cells x 0) = ap₂ (λ i c. action_by k i c) (r.job y.0 y.1) (sym at) in
        let clash' : conflicts (action_at codes jobs cells x) (action_by k j (get_or cells x 0)) ≡ true = ap (conflicts (action_at codes jobs cells x)) (sym act) ∙ y.3 in
        not_both (and_both (ltb (x + 1) v) (conflicts (action_at codes jobs cells x) (action_by k j (get_or cells x 0))) (lt-ltb (x + 1) v (omega (arith, y.2))) clash') (h k (r.code y.0 y.1)))
        (λ f. f)

    -- on a cell where the jobs do not meet, or where the last line stands too early, none is
    pub passed_none : (mask : ℕ) (xs : List ℕ) (b : Bool) → Masked codes jobs cells mask xs ys → member x xs ≡ true → b ≡ may_meet cells lasts mask j x → not b ≡ true → meets_later (clashing codes jobs cells) x ys ≡ false
    unfolding may_meet
    passed_none mask xs b m i e f =
        by_test (meets_later (clashing codes jobs cells) x ys)
        (λ t.
        let y = later_by (clashing codes jobs cells) x ys t in
        let c = get_or cells x 0 in
        let at = one_cell codes jobs cells x y.0 y.3 in
        let low : c < 64 = omega (arith, r.cell y.0 y.1, at) in
        let v = get_or lasts (last_key j 3 c) 0 in
        let far' : y.0 < v = rw at (r.any y.0 y.1) in
        not_both
        (and_both (ltb c 64 && in_set mask c) (ltb (x + 1) v) (and_both (ltb c 64) (in_set mask c) (lt-ltb c 64 low) (m x y.0 i y.1 y.3)) (lt-ltb (x + 1) v (omega (arith, y.2))))
        (sym e ∙ not-true b f))
        (λ g. g)

-- a line that is not passed over is on one of 64 cells
pub passed_cell : (cells lasts : List ℕ) (mask j x : ℕ) (b : Bool) → b ≡ may_meet cells lasts mask j x → not b ≡ false → get_or cells x 0 < 64
unfolding may_meet
passed_cell cells lasts mask j x b e f =
    let c = get_or cells x 0 in
    ltb-true c 64 (and_first (ltb c 64) (in_set mask c) (and_first (ltb c 64 && in_set mask c) (ltb (x + 1) (get_or lasts (last_key j 3 c) 0)) (sym e ∙ not-false b f)))

module _ (cells lasts : List ℕ) (mask j x : ℕ) where
  -- a line on a cell where the last line stands too early is passed over
  pub may_early : (key v : ℕ) → key ≡ last_key j 3 (get_or cells x 0) → v ≡ get_or lasts key 0 → v ≤ x + 1 → false ≡ may_meet cells lasts mask j x
  unfolding may_meet
  may_early key v i e h = rw (← i, ← e, le-ltb (x + 1) v h) (sym (and-false (ltb (get_or cells x 0) 64 && in_set mask (get_or cells x 0))))

  -- of others the set decides
  pub may_set : (key v c : ℕ) (b : Bool) → key ≡ last_key j 3 (get_or cells x 0) → v ≡ get_or lasts key 0 → x + 1 < v → c ≡ get_or cells x 0 → b ≡ (ltb c 64 && in_set mask c) → b ≡ may_meet cells lasts mask j x
  unfolding may_meet
  may_set key v c b i e h q f = rw (← i, ← e, lt-ltb (x + 1) v h, ← q, ← f) (sym (and-true b))
