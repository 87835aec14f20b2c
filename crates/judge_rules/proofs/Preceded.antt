-- Whether a job has a predecessor, and which; and which job is ready.
-- Assumes nothing.
use Rattle.std.specs.Prelude.{None, Some}
use Prim.Native.Nat.{ℕ}
use mathlib.Core.Path.{◌≡◌, refl}
use mathlib.Core.Bool.{true, false, not}
use mathlib.Core.List.{List, [], ◌∷◌}
use borrow.Author.Tests.{eqb-true, not-true, not-false}
use lib.Dec.{eqb}
use Rattle.laws.specs.Choice.{not_both}
use Rattle.laws.specs.Lists.{member}
use Rattle.laws.specs.Sorted.{ascending}
use Rattle.laws.proofs.Lists.{member_first, member_more}
use Rattle.laws.proofs.Parts.{or_either, or_first, or_second}
use Rattle.judge_rules.specs.Order.{Edges, preceded, ready}
use Rattle.judge_rules.specs.Meant.{Smallest}
use Rattle.judge_rules.proofs.Firsts.{first_is, first_none, first_smallest}

-- a job that has a predecessor in the list has one by name
pub preceded_by : (e : Edges) (left : List ℕ) (j : ℕ) → preceded e left j ≡ true → (i : ℕ) × (member i left ≡ true) × (e i j ≡ true)
unfolding preceded
preceded_by e [] j h = not_both h refl
preceded_by e (k ∷ left) j h =
    or_either (e k j) (preceded e left j) h (λ t. (k, member_first k left, t))
    (λ l. let r = preceded_by e left j l in (r.0, member_more k left r.0 r.1, r.2))

-- an edge from a job of the list makes it a predecessor
pub precedes : (e : Edges) (left : List ℕ) (i j : ℕ) → member i left ≡ true → e i j ≡ true → preceded e left j ≡ true
unfolding preceded member
precedes e [] i j m h = m
precedes e (k ∷ left) i j m h =
    or_either (eqb k i) (member i left) m (λ t. or_first (e k j) (preceded e left j) (rw (eqb-true k i t) h))
    (λ l. or_second (e k j) (preceded e left j) (precedes e left i j l h))

-- the job that is ready is one of those left, and none of them precedes it
pub ready_is : (e : Edges) (left : List ℕ) (j : ℕ) → ready e left ≡ Some j → (member j left ≡ true) × (preceded e left j ≡ false)
unfolding ready
ready_is e left j h = let r = first_is (λ k. not (preceded e left k)) left j h in (r.0, not-true (preceded e left j) r.1)

-- if no job is ready, each of those left has a predecessor among them
pub ready_none : (e : Edges) (left : List ℕ) → ready e left ≡ None → (j : ℕ) → member j left ≡ true → preceded e left j ≡ true
unfolding ready
ready_none e left h j m = not-false (preceded e left j) (first_none (λ k. not (preceded e left k)) left h j m)

-- if the jobs left ascend, the ready one is the smallest without a predecessor among them
pub ready_smallest : (e : Edges) (left : List ℕ) → ascending left ≡ true → (j : ℕ) → ready e left ≡ Some j → Smallest (λ k. not (preceded e left k)) left j
unfolding ready
ready_smallest e left a j h = first_smallest (λ k. not (preceded e left k)) left a j h
