-- The walk along smallest predecessors: its jobs remain, each has an edge to the job it was reached from, and one more than the number of jobs that remain is enough to close a cycle.
-- Assumes nothing.
use Rattle.std.specs.Prelude.{Some}
use Prim.Native.Nat.{ℕ, zero, suc, ◌+◌, ◌≤◌, ◌<◌}
use mathlib.Core.Path.{◌≡◌, refl, ap}
use mathlib.Core.Bool.{true, false, not}
use mathlib.Core.List.{List, [], ◌∷◌}
use native.Mathlib.Omega.{arith}
use lib.ListN.{length}
use borrow.Author.Tests.{eqb-true}
use lib.Dec.{eqb}
use Rattle.laws.specs.Choice.{by_test, not_both}
use Rattle.laws.specs.Lists.{member, distinct}
use Rattle.laws.specs.Sorted.{ascending}
use Rattle.laws.proofs.Lists.{member_first, member_more, once_first, once_rest, member_other}
use Rattle.laws.proofs.Parts.{and_both, or_either}
use Rattle.conflict.specs.Schedule.{path, knot}
use Rattle.conflict.proofs.Ways.{path_edge, path_more, knot_of}
use Rattle.judge_rules.specs.Order.{Edges, preceded, without}
use Rattle.judge_rules.specs.Knot.{predecessor, up_to, walk}
use Rattle.judge_rules.specs.Meant.{Smallest, Walk, Cycle}
use Rattle.judge_rules.specs.Meant.Walk.{starts, goes}
use Rattle.judge_rules.proofs.Without.{shorter}
use Rattle.judge_rules.proofs.Firsts.{by_one, first_none, first_smallest}
use Rattle.judge_rules.proofs.Preceded.{preceded_by}
use Rattle.judge_rules.proofs.Orders.{still}
use Rattle.judge_rules.proofs.Turns.{up_to_none, up_to_part, up_to_once}

-- jobs of a list, none twice, are no more than the list has
pub no_more : (part left : List ℕ) → distinct part ≡ true → ((j : ℕ) → member j part ≡ true → member j left ≡ true) → length part ≤ length left
no_more [] left d h = omega arith
no_more (k ∷ part) left d h =
    let fewer : length part ≤ length (without k left) =
    no_more part (without k left) (once_rest k part d)
    (λ j m. still k left j (h j (member_more k part j m)) (member_other k j part (once_first k part d) m)) in
    omega (arith, shorter k left (h k (member_first k part)))

module _ (e : Edges) (left : List ℕ) where
  -- the jobs of a walk are jobs that remain
  pub walk_within : {js : List ℕ} → Walk e left js → (k : ℕ) → member k js ≡ true → member k left ≡ true
  unfolding member
  walk_within (starts {j = j} s) k m = or_either (eqb j k) false m (λ t. rw (← eqb-true j k t) s.job) (λ l. not_both l refl)
  walk_within (goes {i = i} {j = j} {seen = seen} w f s) k m =
      or_either (eqb i k) (member k (j ∷ seen)) m (λ t. rw (← eqb-true i k t) s.job) (λ l. walk_within w k l)

  -- no job seen was seen before
  pub walk_once : {j : ℕ} {seen : List ℕ} → Walk e left (j ∷ seen) → distinct seen ≡ true
  unfolding distinct
  walk_once (starts s) = refl
  walk_once (goes {j = j} {seen = seen} w f s) = and_both (not (member j seen)) (distinct seen) (ap not f) (walk_once w)

  -- from a job of the walk a path leads along it to each job seen
  pub walk_path : {j : ℕ} {seen : List ℕ} → Walk e left (j ∷ seen) → (k : ℕ) → member k seen ≡ true → path e j (up_to k seen) k ≡ true
  unfolding up_to member
  walk_path (starts s) k m = not_both m refl
  walk_path (goes {i = i} {j = j} {seen = seen} w f s) k m =
      by_test (eqb j k) (λ t. rw t (path_edge e i k (rw (← eqb-true j k t) s.passes)))
      (λ g. rw g (path_more e i j (up_to k seen) k s.passes (walk_path w k (rw g at m))))

  -- the cycle is a knot
  pub cycle_knot : {round : List ℕ} → Cycle e left round → knot e round ≡ true
  cycle_knot c = rw c.along (knot_of e c.job (up_to c.job c.seen) (walk_path c.walked c.job c.again))

  -- its jobs remain
  pub cycle_within : {round : List ℕ} → Cycle e left round → (k : ℕ) → member k round ≡ true → member k left ≡ true
  unfolding member
  cycle_within c k m =
      or_either (eqb c.job k) (member k (up_to c.job c.seen)) (rw c.along at m)
      (λ t. rw (← eqb-true c.job k t) (walk_within c.walked c.job (member_first c.job c.seen)))
      (λ l. walk_within c.walked k (member_more c.job c.seen k (up_to_part c.job c.seen k l)))

  -- and it names none twice
  pub cycle_once : {round : List ℕ} → Cycle e left round → distinct round ≡ true
  unfolding distinct
  cycle_once c =
      rw c.along
      (and_both (not (member c.job (up_to c.job c.seen))) (distinct (up_to c.job c.seen))
      (ap not (up_to_none c.job c.seen)) (up_to_once c.job c.seen (walk_once c.walked)))

  module _ (up : ascending left ≡ true) (each : (j : ℕ) → member j left ≡ true → preceded e left j ≡ true) where
    -- each job that remains has a smallest predecessor that remains
    goes_back : (j : ℕ) → member j left ≡ true → (i : ℕ) × (predecessor e left j ≡ Some i) × Smallest (λ k. e k j) left i
    unfolding predecessor
    goes_back j m =
        by_one (predecessor e left j)
        (λ q. let by = preceded_by e left j (each j m) in not_both by.2 (first_none (λ k. e k j) left q by.0 by.1))
        (λ i q. (i, q, first_smallest (λ k. e k j) left up i q))

    -- from any place of a walk, one more than the number of jobs not yet seen is enough to close a cycle
    pub walk_closes : (n : ℕ) (seen : List ℕ) (j : ℕ) → Walk e left (j ∷ seen) → length left < n + length seen → Cycle e left (walk e left n seen j)
    unfolding walk
    walk_closes zero seen j w h = absurd (omega (arith, no_more seen left (walk_once w) (λ k m. walk_within w k (member_more j seen k m))))
    walk_closes (suc n) seen j w h =
        by_test (member j seen)
        (λ t. record { job = j; seen = seen; walked = w; again = t; along = rw t })
        (λ f.
        let by = goes_back j (walk_within w j (member_first j seen)) in
        rw (f, by.1) (walk_closes n (j ∷ seen) by.0 (goes w f by.2) (omega arith)))
