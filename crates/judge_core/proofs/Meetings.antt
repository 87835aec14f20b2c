-- An edge between two jobs, by their lines: a line of the first stands before a line of the second that it conflicts with.
-- Assumes nothing.
use Prim.Native.Nat.{ℕ, zero, suc, ◌≤◌, ◌<◌}
use mathlib.Core.Path.{◌≡◌, refl, sym, ap, ap₂, ◌∙◌}
use mathlib.Core.Bool.{Bool, true, false, ◌&&◌, ◌||◌}
use mathlib.Core.List.{List, [], ◌∷◌, map}
use native.Mathlib.Omega.{arith}
use lib.ListN.{get_or}
use borrow.Author.Tests.{eqb-true, lt-ltb, le-ltb}
use lib.Dec.{eqb}
use Rattle.laws.specs.Choice.{by_test}
use Rattle.laws.specs.Lists.{member, put}
use Rattle.laws.proofs.Lists.{member_first, member_more}
use Rattle.conflict.specs.Schedule.{touches, edge}
use Rattle.conflict.proofs.Clauses.{touches_none, touches_own, touches_past, edge_none, edge_own, edge_past}
use Rattle.judge_core.specs.Lists.{listed}
use Rattle.judge_core.specs.Meeting.{action_by, action_at, clashing, meets_later, meetings}
use Rattle.judge_core.proofs.Listing.{listed_is}

-- no line stands before one that stands before it
pub none_later : (clash : ℕ → ℕ → Bool) (x : ℕ) (ys : List ℕ) → ((y : ℕ) → member y ys ≡ true → y ≤ x) → meets_later clash x ys ≡ false
unfolding meets_later
none_later clash x [] h = refl
none_later clash x (y ∷ ys) h =
    rw (le-ltb x y (h y (member_first y ys))) (none_later clash x ys (λ z m. h z (member_more y ys z m)))

-- a line that stands before all of some is met by none of them
pub first_met : (clash : ℕ → ℕ → Bool) (xs : List ℕ) (y : ℕ) (ys : List ℕ) → ((x : ℕ) → member x xs ≡ true → y ≤ x) → meetings clash xs (y ∷ ys) ≡ meetings clash xs ys
unfolding meetings meets_later
first_met clash [] y ys h = refl
first_met clash (x ∷ xs) y ys h =
    rw (le-ltb x y (h x (member_first x xs)), first_met clash xs y ys (λ z m. h z (member_more x xs z m)))

-- line p is one of those that pass, and is of job j
unfoldable pub of_job : List ℕ → (ℕ → Bool) → ℕ → ℕ → Bool
of_job jobs f j p = f p && eqb (get_or jobs p 0) j

module _ (codes jobs cells : List ℕ) (f : ℕ → Bool) where
  -- an action conflicts with a later one of job j where its line meets one of job j's
  touches_is : (p j k m : ℕ) → p < k → touches (action_at codes jobs cells p) j (map (action_at codes jobs cells) (listed f k m)) ≡ meets_later (clashing codes jobs cells) p (listed (of_job jobs f j) k m)
  unfolding clashing meets_later listed of_job put action_at action_by
  touches_is p j k zero b = touches_none (action_at codes jobs cells p) j
  touches_is p j k (suc m) b =
      by_test (f k)
      (λ t. by_test (eqb (get_or jobs k 0) j)
      (λ u. rw (t, u, lt-ltb p k b)
      (touches_own (action_at codes jobs cells p) j (action_at codes jobs cells k) (map (action_at codes jobs cells) (listed f (suc k) m)) u
      ∙ ap (λ y. clashing codes jobs cells p k || y) (touches_is p j (suc k) m (omega arith))))
      (λ u. rw (t, u)
      (touches_past (action_at codes jobs cells p) j (action_at codes jobs cells k) (map (action_at codes jobs cells) (listed f (suc k) m)) u
      ∙ touches_is p j (suc k) m (omega arith))))
      (λ t. rw t (touches_is p j (suc k) m (omega arith)))

  -- an edge goes from one job to another where a line of the one meets one of the other's
  pub edge_is : (i j k m : ℕ) → eqb i j ≡ false → edge (map (action_at codes jobs cells) (listed f k m)) i j ≡ meetings (clashing codes jobs cells) (listed (of_job jobs f i) k m) (listed (of_job jobs f j) k m)
  unfolding meetings listed of_job put action_at action_by
  edge_is i j k zero e = edge_none i j
  edge_is i j k (suc m) e =
      by_test (f k)
      (λ t. by_test (eqb (get_or jobs k 0) i)
      (λ u.
      let other' : eqb (get_or jobs k 0) j ≡ false = rw (eqb-true (get_or jobs k 0) i u) e in
      rw (t, u, other')
      (edge_own (action_at codes jobs cells k) (map (action_at codes jobs cells) (listed f (suc k) m)) i j u
      ∙ ap₂ (λ x y. x || y) (touches_is k j (suc k) m (omega arith)) (edge_is i j (suc k) m e)))
      (λ u.
      let past : edge (action_at codes jobs cells k ∷ map (action_at codes jobs cells) (listed f (suc k) m)) i j ≡ edge (map (action_at codes jobs cells) (listed f (suc k) m)) i j =
      edge_past (action_at codes jobs cells k) (map (action_at codes jobs cells) (listed f (suc k) m)) i j u in
      by_test (eqb (get_or jobs k 0) j)
      (λ v. rw (t, u, v) (past ∙ edge_is i j (suc k) m e ∙ sym (first_met (clashing codes jobs cells) (listed (of_job jobs f i) (suc k) m) k (listed (of_job jobs f j) (suc k) m) (λ x h. omega (arith, (listed_is (of_job jobs f i) (suc k) m x h).0)))))
      (λ v. rw (t, u, v) (past ∙ edge_is i j (suc k) m e))))
      (λ t. rw t (edge_is i j (suc k) m e))
