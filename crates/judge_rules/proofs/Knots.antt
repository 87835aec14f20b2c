-- The knot that the judge shows is the paper's: a cycle along edges, of jobs that remain, none twice, from its smallest number.
-- Assumes nothing.
use Prim.Native.Nat.{ℕ, suc}
use mathlib.Core.Path.{◌≡◌, refl, sym, ap, ◌∙◌}
use mathlib.Core.Bool.{true}
use mathlib.Core.List.{List, [], ◌∷◌, ◌++◌}
use native.Mathlib.Omega.{arith}
use lib.ListN.{length}
use Rattle.laws.specs.Lists.{member, distinct}
use Rattle.laws.specs.Sorted.{ascending}
use Rattle.laws.proofs.Lists.{member_first}
use Rattle.conflict.specs.Schedule.{knot}
use Rattle.conflict.proofs.Ways.{knot_on}
use Rattle.judge_rules.specs.Order.{Edges, preceded}
use Rattle.judge_rules.specs.Knot.{up_to, from, walk, least, turn_to, turn, knot_in}
use Rattle.judge_rules.specs.Meant.{Smallest, Cycle, Shown}
use Rattle.judge_rules.specs.Meant.Walk.{starts}
use Rattle.laws.proofs.Joined.{not_empty}
use Rattle.laws.proofs.Sorted.{head_least}
use Rattle.judge_rules.proofs.Turns.{cut, from_first, least_is, least_low, turned_keeps, turned_member, turned_once}
use Rattle.judge_rules.proofs.Walking.{cycle_knot, cycle_within, cycle_once, walk_closes}

module _ (e : Edges) (left : List ℕ) where
  -- a cycle listed from its smallest number is what the paper shows
  turn_shown : (round : List ℕ) → Cycle e left round → Shown e left (turn round)
  unfolding turn turn_to
  turn_shown [] c = not_empty c.along
  turn_shown (k ∷ ks) c =
      let m : ℕ = least k ks in
      let r = from_first m (k ∷ ks) (least_is k ks) in
      let whole : k ∷ ks ≡ up_to m (k ∷ ks) ++ m ∷ r.0 = cut m (k ∷ ks) ∙ ap (λ l. up_to m (k ∷ ks) ++ l) r.1 in
      record {
        round = k ∷ ks;
        closed = c;
        ahead = up_to m (k ∷ ks);
        leader = m;
        rest = r.0;
        parts = whole;
        turned = ap (λ l. l ++ up_to m (k ∷ ks)) r.1;
        smallest = λ i h. least_low k ks i
            (ap (member i) (cut m (k ∷ ks)) ∙ turned_member i (up_to m (k ∷ ks)) (from m (k ∷ ks)) ∙ h);
      }

  -- a knot of the paper is a knot
  pub shown_knot : {js : List ℕ} → Shown e left js → knot e js ≡ true
  shown_knot s =
      rw s.turned
      (turned_keeps (λ l. knot e l ≡ true) (knot_on e) s.ahead (s.leader ∷ s.rest) (rw s.parts at (cycle_knot e left s.closed)))

  -- its jobs remain
  pub shown_within : {js : List ℕ} → Shown e left js → (k : ℕ) → member k js ≡ true → member k left ≡ true
  shown_within s k m =
      cycle_within e left s.closed k
      (ap (member k) s.parts ∙ turned_member k s.ahead (s.leader ∷ s.rest) ∙ sym (ap (member k) s.turned) ∙ m)

  -- it names none twice
  pub shown_once : {js : List ℕ} → Shown e left js → distinct js ≡ true
  shown_once s = rw s.turned (turned_once s.ahead (s.leader ∷ s.rest) (rw s.parts at (cycle_once e left s.closed)))

-- the first of jobs in ascending order is the smallest
pub start_smallest : (j : ℕ) (js : List ℕ) → ascending (j ∷ js) ≡ true → Smallest (λ k. true) (j ∷ js) j
start_smallest j js a = record { job = member_first j js; passes = refl; least = λ k m t. head_least j js a k m }

-- the knot shown is the paper's, if some job remains and each job that remains has a predecessor that does
pub knot_shown : (e : Edges) (j : ℕ) (left : List ℕ) → ascending (j ∷ left) ≡ true → ((k : ℕ) → member k (j ∷ left) ≡ true → preceded e (j ∷ left) k ≡ true) → Shown e (j ∷ left) (knot_in e (j ∷ left))
unfolding knot_in
knot_shown e j left up each =
    turn_shown e (j ∷ left) (walk e (j ∷ left) (suc (length (j ∷ left))) [] j)
    (walk_closes e (j ∷ left) up each (suc (length (j ∷ left))) [] j (starts (start_smallest j left up)) (omega arith))
