-- Whichever jobs without a remaining predecessor are taken away first, the jobs taken are those that do not remain, each once, and every edge goes forward among them.
-- Assumes nothing.
use Prim.Native.Nat.{ℕ, ◌<◌}
use mathlib.Core.Path.{◌≡◌, refl, ap, ◌∙◌}
use mathlib.Core.Bool.{true, false, not}
use mathlib.Core.List.{List, []}
use borrow.Author.Tests.{eqb-true}
use lib.Dec.{eqb}
use Rattle.laws.specs.Choice.{by_test, not_both}
use Rattle.laws.specs.Lists.{member, distinct, pos}
use Rattle.laws.specs.Sorted.{ascending}
use Rattle.laws.proofs.Lists.{first_ahead, pos_both, member_first, member_more}
use Rattle.laws.proofs.Parts.{and_both, or_either}
use Rattle.judge_rules.specs.Order.{Edges, without}
use Rattle.judge_rules.specs.Meant.{Takes, Orderly}
use Rattle.judge_rules.specs.Meant.Takes.{stops, takes}
use Rattle.judge_rules.proofs.Without.{gone, stays, left_before, left_other, ascending_left}
use Rattle.judge_rules.proofs.Preceded.{precedes}

-- a job of the list that is not the one taken is still left
pub still : (j : ℕ) (left : List ℕ) (i : ℕ) → member i left ≡ true → eqb j i ≡ false → member i (without j left) ≡ true
still j left i m f = stays j left i f ∙ m

module _ (e : Edges) where
  -- only jobs of the list are taken
  pub taken_only : {left order rest : List ℕ} → Takes e left order rest → (j : ℕ) → member j order ≡ true → member j left ≡ true
  unfolding member
  taken_only (stops end) j m = not_both m refl
  taken_only (takes {j = k} {left = left} {order = order} here' free t) j m =
      or_either (eqb k j) (member j order) m (λ s. rw (← eqb-true k j s) here') (λ l. left_before k left j (taken_only t j l))

  -- no job is taken twice
  pub taken_once : {left order rest : List ℕ} → Takes e left order rest → distinct order ≡ true
  unfolding distinct
  taken_once (stops end) = refl
  taken_once (takes {j = k} {left = left} {order = order} here' free t) =
      and_both (not (member k order)) (distinct order)
      (ap not (by_test (member k order) (λ m. not_both (taken_only t k m) (gone k left)) (λ f. f))) (taken_once t)

  -- every job that does not remain is taken
  pub taken_all : {left order rest : List ℕ} → Takes e left order rest → (j : ℕ) → member j left ≡ true → member j rest ≡ false → member j order ≡ true
  taken_all (stops end) j m f = not_both m f
  taken_all (takes {j = k} {left = left} {order = order} here' free t) j m f =
      by_test (eqb k j) (λ s. rw (← eqb-true k j s) (member_first k order))
      (λ g. member_more k order j (taken_all t j (still k left j m g) f))

  -- every job that remains was there
  pub rest_only : {left order rest : List ℕ} → Takes e left order rest → (j : ℕ) → member j rest ≡ true → member j left ≡ true
  rest_only (stops end) j m = m
  rest_only (takes {j = k} {left = left} here' free t) j m = left_before k left j (rest_only t j m)

  -- a job that is taken does not remain
  pub taken_gone : {left order rest : List ℕ} → Takes e left order rest → (j : ℕ) → member j order ≡ true → member j rest ≡ false
  unfolding member
  taken_gone (stops end) j m = not_both m refl
  taken_gone (takes {j = k} {left = left} {order = order} {rest = rest} here' free t) j m =
      or_either (eqb k j) (member j order) m
      (λ s. by_test (member j rest) (λ r. not_both s (left_other k left j (rest_only t j r))) (λ f. f))
      (λ l. taken_gone t j l)

  -- the jobs that remain ascend if the jobs did
  pub rest_ascending : {left order rest : List ℕ} → Takes e left order rest → ascending left ≡ true → ascending rest ≡ true
  rest_ascending (stops end) a = a
  rest_ascending (takes {j = k} {left = left} here' free t) a = rest_ascending t (ascending_left k left a)

  -- an edge to a job that is taken goes forward: its predecessors were taken before it
  pub taken_ahead : {left order rest : List ℕ} → Takes e left order rest → (i j : ℕ) → member i left ≡ true → member j order ≡ true → e i j ≡ true → pos order i < pos order j
  unfolding member
  taken_ahead (stops end) i j mi mj h = not_both mj refl
  taken_ahead (takes {j = k} {left = left} {order = order} here' free t) i j mi mj h =
      by_test (eqb k j) (λ s. not_both (precedes e left i k mi (rw (eqb-true k j s) h)) free)
      (λ f. by_test (eqb k i) (λ s. first_ahead k order i j s f)
      (λ g. pos_both k order i j g f (taken_ahead t i j (still k left i mi g) (rw f at mj) h)))

  -- if none remains, the jobs taken are an order of all jobs in which every edge goes forward
  pub all_taken : {left order : List ℕ} → Takes e left order [] → Orderly e left order
  unfolding member
  all_taken t =
      record {
        once = taken_once t;
        only = taken_only t;
        all = λ j m. taken_all t j m refl;
        ahead = λ i j mi mj h. taken_ahead t i j mi (taken_all t j mj refl) h;
      }
