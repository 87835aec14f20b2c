-- There is no second knot: the paper's walk and its cycle are fixed, and so is the cycle listed from its smallest number.
-- Assumes nothing.
use Prim.Native.Nat.{ℕ, suc, ◌+◌, ◌-◌, ◌≤◌, ◌<◌}
use mathlib.Core.Path.{◌≡◌, refl, sym, ap, ◌∙◌}
use mathlib.Core.Bool.{true, false}
use mathlib.Core.List.{List, [], ◌∷◌, ◌++◌}
use native.Mathlib.Omega.{arith}
use lib.ListN.{length}
use Rattle.laws.specs.Lists.{member, distinct}
use Rattle.laws.specs.Sorted.{ascending}
use Rattle.laws.proofs.Lists.{member_first, member_more, once_first}
use Rattle.laws.proofs.Parts.{nor_second}
use Rattle.judge_rules.specs.Order.{Edges, preceded}
use Rattle.judge_rules.specs.Knot.{predecessor, walk, least, turn_to, turn, knot_in}
use Rattle.judge_rules.specs.Meant.{Smallest, Walk, Cycle, Shown}
use Rattle.judge_rules.specs.Meant.Walk.{starts, goes}
use Rattle.judge_rules.proofs.Firsts.{smallest_found}
use Rattle.laws.proofs.Joined.{member_append, not_empty_mid}
use Rattle.laws.proofs.Sorted.{head_least}
use Rattle.judge_rules.proofs.Turns.{up_to_mid, from_mid, least_is, least_low, turned_member, turned_once}
use Rattle.judge_rules.proofs.Walking.{no_more, walk_within, walk_once, cycle_once, walk_closes}
use Rattle.judge_rules.proofs.Knots.{start_smallest}

-- a job inside a list that names none twice is not before its place
mid_once : (js : List ℕ) (k : ℕ) (ks : List ℕ) → distinct (js ++ k ∷ ks) ≡ true → member k js ≡ false
mid_once js k ks d =
    nor_second (member k ks) (member k js) (sym (member_append k ks js) ∙ once_first k (ks ++ js) (turned_once js (k ∷ ks) d))

-- a cycle that names none twice has one listing from its smallest number
turn_only : (round js ahead : List ℕ) (leader : ℕ) (rest : List ℕ) → distinct round ≡ true → round ≡ ahead ++ leader ∷ rest → js ≡ (leader ∷ rest) ++ ahead → ((k : ℕ) → member k js ≡ true → leader ≤ k) → js ≡ turn round
unfolding turn turn_to
turn_only [] js ahead leader rest d p q s = not_empty_mid ahead leader rest p
turn_only (k ∷ ks) js ahead leader rest d p q s =
    let up : leader ≤ least k ks =
    s (least k ks)
    (ap (member (least k ks)) q ∙ turned_member (least k ks) (leader ∷ rest) ahead ∙ sym (ap (member (least k ks)) p) ∙ least_is k ks) in
    let down : least k ks ≤ leader =
    least_low k ks leader
    (ap (member leader) p ∙ turned_member leader ahead (leader ∷ rest) ∙ member_first leader (rest ++ ahead)) in
    let here' : leader ≡ least k ks = omega arith in
    let free : member leader ahead ≡ false = mid_once ahead leader rest (rw p at d) in
    q ∙ sym (rw (← here') (rw p (rw (from_mid leader ahead rest free, up_to_mid leader ahead rest free))))

module _ (e : Edges) (s : ℕ) (left : List ℕ) (up : ascending (s ∷ left) ≡ true) where
  -- a walk starts at the first of the jobs that remain
  start_is : (j : ℕ) → Smallest (λ k. true) (s ∷ left) j → s ≡ j
  start_is j m =
      let above : s ≤ j = head_least s left up j m.job in
      let below : j ≤ s = m.least s (member_first s left) refl in
      omega arith

  -- every walk of the paper's is a part of the one taken
  walk_reaches : {j : ℕ} {seen : List ℕ} → Walk e (s ∷ left) (j ∷ seen) → (n whole : ℕ) → whole ≡ length seen + n → walk e (s ∷ left) whole [] s ≡ walk e (s ∷ left) n seen j
  unfolding walk predecessor
  walk_reaches (starts {j = j} m) n whole q =
      let here' : whole ≡ n = omega arith in
      rw (here', start_is j m)
  walk_reaches (goes {i = i} {j = j} {seen = seen} w f m) n whole q =
      walk_reaches w (suc n) whole (omega arith)
      ∙ rw (f, smallest_found (λ k. e k j) (s ∷ left) up i m)

  -- so the cycle is fixed
  cycle_only : {round : List ℕ} → Cycle e (s ∷ left) round → round ≡ walk e (s ∷ left) (suc (length (s ∷ left))) [] s
  unfolding walk
  cycle_only c =
      let few : length c.seen ≤ length (s ∷ left) =
      no_more c.seen (s ∷ left) (walk_once e (s ∷ left) c.walked)
      (λ k m. walk_within e (s ∷ left) c.walked k (member_more c.job c.seen k m)) in
      c.along
      ∙ sym (walk_reaches c.walked (suc (length (s ∷ left) - length c.seen)) (suc (length (s ∷ left))) (omega arith) ∙ rw c.again)

  -- and so is the knot
  pub shown_only : {js : List ℕ} → Shown e (s ∷ left) js → js ≡ knot_in e (s ∷ left)
  unfolding knot_in
  shown_only {js} k =
      turn_only k.round js k.ahead k.leader k.rest (cycle_once e (s ∷ left) k.closed) k.parts k.turned k.smallest
      ∙ ap turn (cycle_only k.closed)

  -- any limit on the jobs looked at that is larger than the number of jobs that remain gives the same cycle
  pub looks_enough : ((k : ℕ) → member k (s ∷ left) ≡ true → preceded e (s ∷ left) k ≡ true) → (n : ℕ) → length (s ∷ left) < n → walk e (s ∷ left) n [] s ≡ walk e (s ∷ left) (suc (length (s ∷ left))) [] s
  looks_enough each n h = cycle_only (walk_closes e (s ∷ left) up each n [] s (starts (start_smallest s left up)) (omega arith))
