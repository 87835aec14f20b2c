-- The verdict on jobs and their edges: an orderly one is an order in which every edge goes forward, a knot is a cycle of edges, and each is the paper's and the only one.
-- Assumes nothing.
use Prim.Native.Nat.{ℕ}
use mathlib.Core.Path.{◌≡◌, refl, sym, ap, ◌∙◌, subst, subst₂}
use mathlib.Core.Logic.{◌↔◌}
use mathlib.Core.Bool.{true}
use mathlib.Core.List.{List, [], ◌∷◌, ◌++◌}
use native.Mathlib.Omega.{arith}
use Rattle.laws.specs.Choice.{not_both}
use Rattle.laws.specs.Lists.{member}
use Rattle.laws.specs.Sorted.{ascending}
use Rattle.laws.proofs.Lists.{member_first}
use Rattle.judge_rules.specs.Order.{Edges, order_of, stuck}
use Rattle.judge_rules.specs.Knot.{knot_in}
use Rattle.judge_rules.specs.Judged.{Finding, orderly, knotted, finding_by, judged}
use Rattle.judge_rules.specs.Meant.{Orderly, Knotted, SmallestFirst, Takes, Shown, Says}
use Rattle.judge_rules.specs.Meant.Says.{says_order, says_cycle}
use Rattle.judge_rules.proofs.Taking.{order_taken}
use Rattle.judge_rules.proofs.Orders.{rest_only, rest_ascending, all_taken}
use Rattle.judge_rules.proofs.Remains.{rest_preceded, remains_stuck}
use Rattle.judge_rules.proofs.SmallestFirst.{order_smallest_first, smallest_first_unique, smallest_first_takes}
use Rattle.judge_rules.proofs.Walking.{walk_within}
use Rattle.judge_rules.proofs.Knots.{shown_knot, shown_within, shown_once, knot_shown}
use Rattle.judge_rules.proofs.OneKnot.{shown_only}

-- orderly is said with the order taken, if no job remains
by_none : (e : Edges) (taken rest order : List ℕ) → finding_by e taken rest ≡ orderly order → (taken ≡ order) × (rest ≡ [])
unfolding finding_by
by_none e taken [] order h = (cc, refl)
by_none e taken (j ∷ rest) order h = let z : ◌≡◌ {A = ℕ} 0 1 = cc in absurd (omega arith)

-- a knot is said with the knot among the jobs that remain, if some do
by_some : (e : Edges) (taken rest js : List ℕ) → finding_by e taken rest ≡ knotted js → (j : ℕ) × (left : List ℕ) × (rest ≡ j ∷ left) × (knot_in e rest ≡ js)
unfolding finding_by
by_some e taken [] js h = let z : ◌≡◌ {A = ℕ} 0 1 = cc in absurd (omega arith)
by_some e taken (j ∷ left) js h = (j, left, refl, cc)

module _ (e : Edges) (jobs : List ℕ) where
  -- an order told for the jobs is an order of them, and every edge goes forward in it
  pub says_orderly : (order : List ℕ) → judged e jobs ≡ orderly order → Orderly e jobs order
  unfolding judged
  says_orderly order h =
      let q = by_none e (order_of e jobs) (stuck e jobs) order h in
      all_taken e (subst₂ (Takes e jobs) q.0 q.1 (order_taken e jobs))

  module _ (up : ascending jobs ≡ true) where
    -- the order said is the paper's
    pub says_smallest_first : (order : List ℕ) → judged e jobs ≡ orderly order → SmallestFirst e jobs order
    unfolding judged
    says_smallest_first order h =
        let q = by_none e (order_of e jobs) (stuck e jobs) order h in
        subst (SmallestFirst e jobs) q.0 (order_smallest_first e jobs up q.1)

    -- the knot said is the paper's, among the jobs that remain
    pub says_shown : (js : List ℕ) → judged e jobs ≡ knotted js → Shown e (stuck e jobs) js
    unfolding judged
    says_shown js h =
        let q = by_some e (order_of e jobs) (stuck e jobs) js h in
        let t : Takes e jobs (order_of e jobs) (q.0 ∷ q.1) = subst (Takes e jobs (order_of e jobs)) q.2 (order_taken e jobs) in
        subst₂ (Shown e) (sym q.2) (ap (knot_in e) (sym q.2) ∙ q.3)
        (knot_shown e q.0 q.1 (rest_ascending e t up) (rest_preceded e t))

    -- a knot told is a knot, of some of the jobs, none twice, the smallest first
    pub says_knot : (js : List ℕ) → judged e jobs ≡ knotted js → Knotted e jobs js
    says_knot js h =
        let s : Shown e (stuck e jobs) js = says_shown js h in
        record {
          knots = shown_knot e (stuck e jobs) s;
          only = λ j m. rest_only e (order_taken e jobs) j (shown_within e (stuck e jobs) s j m);
          once = shown_once e (stuck e jobs) s;
          leader = s.leader;
          rest = s.rest ++ s.ahead;
          listed = s.turned;
          smallest = s.smallest;
        }

    -- the verdict is what the paper says
    pub judged_says : (v : Finding) → judged e jobs ≡ v → Says e jobs v
    judged_says (orderly order) h = says_order (says_smallest_first order h)
    judged_says (knotted js) h = says_cycle (order_taken e jobs) (says_shown js h)

    -- if there is a knot, some jobs remain
    knot_judged : (taken rest js : List ℕ) → Takes e jobs taken rest → Shown e rest js → judged e jobs ≡ knotted js
    unfolding judged finding_by member
    knot_judged taken [] js t s = not_both (walk_within e [] s.closed.walked s.closed.job (member_first s.closed.job s.closed.seen)) refl
    knot_judged taken (j ∷ left) js t s =
        rw (sym (remains_stuck e t)) (ap knotted (sym (shown_only e j left (rest_ascending e t up) s)))

    -- what the paper says is the verdict
    pub says_judged : (v : Finding) → Says e jobs v → judged e jobs ≡ v
    unfolding judged finding_by
    says_judged v (says_order {order = order} o) =
        let none' : stuck e jobs ≡ [] = sym (remains_stuck e (smallest_first_takes e jobs order o)) in
        rw none' (ap orderly (smallest_first_unique e jobs (order_of e jobs) order (order_smallest_first e jobs up none') o))
    says_judged v (says_cycle {taken = taken} {rest = rest} {js = js} t s) = knot_judged taken rest js t s

    -- the verdict is what the paper says, and there is no second one
    pub judged_exactly : (v : Finding) → Says e jobs v ↔ (judged e jobs ≡ v)
    judged_exactly v = (says_judged v, judged_says v)
