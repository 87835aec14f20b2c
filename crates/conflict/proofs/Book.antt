-- The book's own examples: the swaps of Figure 18.8, the graph and the order of Examples 18.7 and 18.8, and the knot of Example 18.9. A is cell 0 and B is cell 1.
-- Assumes nothing.
use Prim.Native.Nat.{ℕ, ◌<◌}
use mathlib.Core.Path.{◌≡◌, refl, sym}
use mathlib.Core.Logic.{◌⊎◌, inl, inr, ⊎_elim}
use mathlib.Core.Bool.{true, false}
use mathlib.Core.List.{[], ◌∷◌}
use lib.Dec.{lit<, eqb}
use borrow.Author.Tests.{eqb-true, eqb-false}
use Rattle.laws.specs.Choice.{not_both}
use Rattle.laws.specs.Lists.{member, distinct, pos}
use Rattle.laws.proofs.Parts.{or_either}
use Rattle.conflict.specs.declared.action.Kind.TheVariants.{Read, Write}
use Rattle.conflict.specs.declared.action.Action.{Action}
use Rattle.conflict.specs.Schedule.{Schedule, agree, conflicts, Swap, Equivalent, keep, own, serial, touches, edge, names, Forward, ConflictSerializable, path, knot}
use Rattle.conflict.specs.Schedule.Swap.{here, later}
use Rattle.conflict.specs.Schedule.Equivalent.{done, after}
use Rattle.conflict.proofs.Edges.{edge_names}
use Rattle.conflict.proofs.Forward.{forward}
use Rattle.conflict.proofs.Backward.{backward, refuted}

abbrev A : ℕ
A = 0

abbrev B : ℕ
B = 1

-- job i reads a cell
abbrev r : ℕ → ℕ → Action
r i c = record { kind = Read; job = i; cell = c }

-- job i writes a cell
abbrev w : ℕ → ℕ → Action
w i c = record { kind = Write; job = i; cell = c }

-- the five lines of Figure 18.8, the first of them the schedule of Example 18.6
abbrev line_1 : Schedule
line_1 = r 1 A ∷ w 1 A ∷ r 2 A ∷ w 2 A ∷ r 1 B ∷ w 1 B ∷ r 2 B ∷ w 2 B ∷ []

abbrev line_2 : Schedule
line_2 = r 1 A ∷ w 1 A ∷ r 2 A ∷ r 1 B ∷ w 2 A ∷ w 1 B ∷ r 2 B ∷ w 2 B ∷ []

abbrev line_3 : Schedule
line_3 = r 1 A ∷ w 1 A ∷ r 1 B ∷ r 2 A ∷ w 2 A ∷ w 1 B ∷ r 2 B ∷ w 2 B ∷ []

abbrev line_4 : Schedule
line_4 = r 1 A ∷ w 1 A ∷ r 1 B ∷ r 2 A ∷ w 1 B ∷ w 2 A ∷ r 2 B ∷ w 2 B ∷ []

abbrev line_5 : Schedule
line_5 = r 1 A ∷ w 1 A ∷ r 1 B ∷ w 1 B ∷ r 2 A ∷ w 2 A ∷ r 2 B ∷ w 2 B ∷ []

-- two neighbours may be swapped if the tests say so
swap_of : (a b : Action) {s : Schedule} → eqb a.job b.job ≡ false → conflicts a b ≡ false → Swap (a ∷ b ∷ s) (b ∷ a ∷ s)
swap_of a b o f = here (eqb-false a.job b.job o) f

-- the pair that is underlined in the first line
swap_1 : Swap line_1 line_2
unfolding conflicts agree
swap_1 = later (later (later (swap_of (w 2 A) (r 1 B) refl refl)))

-- in the second line
swap_2 : Swap line_2 line_3
unfolding conflicts agree
swap_2 = later (later (swap_of (r 2 A) (r 1 B) refl refl))

-- in the third line
swap_3 : Swap line_3 line_4
unfolding conflicts agree
swap_3 = later (later (later (later (swap_of (w 2 A) (w 1 B) refl refl))))

-- in the fourth line
swap_4 : Swap line_4 line_5
unfolding conflicts agree
swap_4 = later (later (later (swap_of (r 2 A) (w 1 B) refl refl)))

-- Figure 18.8: the swaps from the first line to the last
pub figure_18_8 : Equivalent line_1 line_5
figure_18_8 = after swap_1 (after swap_2 (after swap_3 (after swap_4 done)))

-- Example 18.6: the last line is the serial schedule (T1, T2)
pub example_18_6 : line_5 ≡ serial (1 ∷ 2 ∷ []) line_1
unfolding serial own keep
example_18_6 = refl

-- the schedule S of Example 18.7
abbrev S : Schedule
S = r 2 A ∷ r 1 B ∷ w 2 A ∷ r 3 A ∷ w 1 B ∷ w 3 A ∷ r 2 B ∷ w 2 B ∷ []

-- one of three jobs
of_three : (P : ℕ → Type 0) → P 1 → P 2 → P 3 → (i : ℕ) → member i (1 ∷ 2 ∷ 3 ∷ []) ≡ true → P i
unfolding member
of_three P p q r i m =
    or_either (eqb 1 i) (member i (2 ∷ 3 ∷ [])) m (λ e. rw (sym (eqb-true 1 i e)) p)
    (λ m. or_either (eqb 2 i) (member i (3 ∷ [])) m (λ e. rw (sym (eqb-true 2 i e)) q)
    (λ m. or_either (eqb 3 i) false m (λ e. rw (sym (eqb-true 3 i e)) r) (λ e. not_both e refl)))

-- Figure 18.9: an arc from 1 to 2
pub one_to_two : edge S 1 2 ≡ true
unfolding edge touches conflicts agree
one_to_two = refl

-- and one from 2 to 3
pub two_to_three : edge S 2 3 ≡ true
unfolding edge touches conflicts agree
two_to_three = refl

-- an arc of Figure 18.9
abbrev Arc : ℕ → ℕ → Type 0
Arc i j = ((i ≡ 1) × (j ≡ 2)) ⊎ ((i ≡ 2) × (j ≡ 3))

-- among the three jobs these are the only arcs
arcs_of_three : (i : ℕ) → member i (1 ∷ 2 ∷ 3 ∷ []) ≡ true → (j : ℕ) → member j (1 ∷ 2 ∷ 3 ∷ []) ≡ true → edge S i j ≡ true → Arc i j
unfolding edge touches conflicts agree
arcs_of_three =
    of_three (λ i. (j : ℕ) → member j (1 ∷ 2 ∷ 3 ∷ []) ≡ true → edge S i j ≡ true → Arc i j)
    (of_three (λ j. edge S 1 j ≡ true → Arc 1 j) (λ e. not_both e refl) (λ e. inl (refl, refl)) (λ e. not_both e refl))
    (of_three (λ j. edge S 2 j ≡ true → Arc 2 j) (λ e. not_both e refl) (λ e. not_both e refl) (λ e. inr (refl, refl)))
    (of_three (λ j. edge S 3 j ≡ true → Arc 3 j) (λ e. not_both e refl) (λ e. not_both e refl) (λ e. not_both e refl))

-- Example 18.7: these are the only arcs
pub example_18_7 : (i j : ℕ) → edge S i j ≡ true → Arc i j
unfolding names member
example_18_7 i j h =
    let ends = edge_names (1 ∷ 2 ∷ 3 ∷ []) S i j refl h in arcs_of_three i ends.0 j ends.1 h

-- the order (T1, T2, T3): every arc goes forward in it
pub in_order : Forward (1 ∷ 2 ∷ 3 ∷ []) S
unfolding distinct names member pos
in_order =
    record {
      once = refl;
      all = refl;
      ahead = λ i j h. ⊎_elim (λ a. rw (a.0, a.1) (lit< tt)) (λ a. rw (a.0, a.1) (lit< tt)) (example_18_7 i j h);
    }

-- Example 18.8: swaps turn S into the serial schedule S' of that order
pub example_18_8 : Equivalent S (r 1 B ∷ w 1 B ∷ r 2 A ∷ w 2 A ∷ r 2 B ∷ w 2 B ∷ r 3 A ∷ w 3 A ∷ [])
unfolding serial own keep
example_18_8 = forward (1 ∷ 2 ∷ 3 ∷ []) S in_order

-- in every serial order of S, T1 stands before T2 and T2 before T3
pub only_order : (c : ConflictSerializable S) → (pos c.order 1 < pos c.order 2) × (pos c.order 2 < pos c.order 3)
only_order c = (backward S c 1 2 one_to_two, backward S c 2 3 two_to_three)

-- the schedule S1 of Example 18.9, with r2(B) three places further ahead
abbrev s1 : Schedule
s1 = r 2 A ∷ r 1 B ∷ w 2 A ∷ r 2 B ∷ r 3 A ∷ w 1 B ∷ w 3 A ∷ w 2 B ∷ []

-- Figure 18.10: from 1 to 2 and back
pub figure_18_10 : knot (edge s1) (1 ∷ 2 ∷ []) ≡ true
unfolding knot path edge touches conflicts agree
figure_18_10 = refl

-- Example 18.9: S1 is not conflict-serializable
pub example_18_9 : ConflictSerializable s1 → ⊥
example_18_9 = refuted s1 (1 ∷ 2 ∷ []) figure_18_10
