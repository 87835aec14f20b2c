-- Edges that agree on the remaining jobs give the same order, leave the same jobs, and have the same predecessors among them.
-- Assumes nothing.
use Prim.Native.Nat.{ℕ, zero, suc}
use mathlib.Core.Path.{◌≡◌, refl, ap, ap₂}
use mathlib.Core.Bool.{Bool, true, not, ◌||◌}
use mathlib.Core.List.{List, [], ◌∷◌}
use lib.ListN.{length}
use Rattle.std.specs.Prelude.{Some}
use Rattle.laws.specs.Choice.{pick}
use Rattle.laws.specs.Lists.{member}
use Rattle.laws.proofs.Lists.{member_first, member_more}
use Rattle.judge_rules.specs.Order.{Edges, first, preceded, ready, without, leads, taken, order_of, stuck}
use Rattle.judge_rules.specs.Knot.{predecessor}
use Rattle.judge_rules.proofs.Firsts.{by_one}
use Rattle.judge_rules.proofs.Without.{left_before}

-- tests that say the same of each job find the same
first_same : (f g : ℕ → Bool) (js : List ℕ) → ((j : ℕ) → member j js ≡ true → f j ≡ g j) → first f js ≡ first g js
unfolding first
first_same f g [] h = refl
first_same f g (j ∷ js) h =
    ap₂ (λ b o. pick b (Some j) o) (h j (member_first j js)) (first_same f g js (λ k m. h k (member_more j js k m)))

module _ (e f : Edges) where
  -- the edges say the same of the jobs
  abbrev pub Same : List ℕ → Type 0
  Same js = (i j : ℕ) → member i js ≡ true → member j js ≡ true → e i j ≡ f i j

  -- a job is preceded by the same
  preceded_same : (js : List ℕ) (j : ℕ) → ((i : ℕ) → member i js ≡ true → e i j ≡ f i j) → preceded e js j ≡ preceded f js j
  unfolding preceded
  preceded_same [] j h = refl
  preceded_same (i ∷ js) j h =
      ap₂ (λ a b. a || b) (h i (member_first i js)) (preceded_same js j (λ k m. h k (member_more i js k m)))

  -- and has the same smallest predecessor
  pub predecessor_same : (js : List ℕ) → Same js → (j : ℕ) → member j js ≡ true → predecessor e js j ≡ predecessor f js j
  unfolding predecessor
  predecessor_same js h j m = first_same (λ i. e i j) (λ i. f i j) js (λ i l. h i j l m)

  -- the same job is ready
  ready_same : (js : List ℕ) → Same js → ready e js ≡ ready f js
  unfolding ready
  ready_same js h = first_same (λ j. not (preceded e js j)) (λ j. not (preceded f js j)) js (λ j m. ap not (preceded_same js j (λ i l. h i j l m)))

  -- and the same are taken away
  taken_same : (n : ℕ) (js : List ℕ) → Same js → taken e n js ≡ taken f n js
  unfolding taken
  taken_same zero js h = refl
  taken_same (suc n) js h =
      rw (ready_same js h)
      (by_one (ready f js) (λ q. rw q)
      (λ j q. rw q (ap (leads j) (taken_same n (without j js) (λ a b l m. h a b (left_before j js a l) (left_before j js b m))))))

  pub order_same : (js : List ℕ) → Same js → order_of e js ≡ order_of f js
  unfolding order_of
  order_same js h = ap (λ t. t.order) (taken_same (length js) js h)

  pub stuck_same : (js : List ℕ) → Same js → stuck e js ≡ stuck f js
  unfolding stuck
  stuck_same js h = ap (λ t. t.remaining) (taken_same (length js) js h)
