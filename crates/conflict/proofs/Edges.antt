-- The edges of the precedence graph: where one comes from, and that its ends are two jobs of the schedule.
-- Assumes nothing.
use Prim.Native.Nat.{ℕ}
use mathlib.Core.Path.{◌≡◌, refl}
use mathlib.Core.Bool.{true, false, not, ◌&&◌}
use mathlib.Core.List.{List, [], ◌∷◌}
use borrow.Author.Tests.{eqb-true, not-true}
use lib.Dec.{eqb}
use Rattle.laws.specs.Choice.{by_test, not_both}
use Rattle.laws.specs.Lists.{member}
use Rattle.laws.proofs.Parts.{and_first, and_second, or_either, or_second}
use Rattle.conflict.specs.declared.action.Action.{Action}
use Rattle.conflict.specs.Schedule.{Schedule, agree, conflicts, names, touches, edge}

-- an action conflicts with one of job j that comes next
pub touches_here : (a : Action) (j : ℕ) (b : Action) (s : Schedule) → eqb b.job j ≡ true → conflicts a b ≡ true → touches a j (b ∷ s) ≡ true
unfolding touches
touches_here a j b s m c = rw (m, c)

-- or with one that comes later
pub touches_later : (a : Action) (j : ℕ) (b : Action) (s : Schedule) → touches a j s ≡ true → touches a j (b ∷ s) ≡ true
unfolding touches
touches_later a j b s h = or_second (eqb b.job j && conflicts a b) (touches a j s) h

-- and there is no other way
pub touches_cases : {P : Type 0} (a : Action) (j : ℕ) (b : Action) (s : Schedule) → touches a j (b ∷ s) ≡ true → (eqb b.job j ≡ true → conflicts a b ≡ true → P) → (touches a j s ≡ true → P) → P
unfolding touches
touches_cases a j b s h next later' =
    or_either (eqb b.job j && conflicts a b) (touches a j s) h
    (λ x. next (and_first (eqb b.job j) (conflicts a b) x) (and_second (eqb b.job j) (conflicts a b) x)) later'

-- an edge goes from the job of the first action
pub edge_here : (a : Action) (s : Schedule) (i j : ℕ) → eqb a.job i ≡ true → touches a j s ≡ true → edge (a ∷ s) i j ≡ true
unfolding edge
edge_here a s i j m h = rw (m, h)

-- or is one of the later actions
pub edge_later : (a : Action) (s : Schedule) (i j : ℕ) → edge s i j ≡ true → edge (a ∷ s) i j ≡ true
unfolding edge
edge_later a s i j h = or_second (eqb a.job i && touches a j s) (edge s i j) h

-- and there is no other
pub edge_cases : {P : Type 0} (a : Action) (s : Schedule) (i j : ℕ) → edge (a ∷ s) i j ≡ true → (eqb a.job i ≡ true → touches a j s ≡ true → P) → (edge s i j ≡ true → P) → P
unfolding edge
edge_cases a s i j h next later' =
    or_either (eqb a.job i && touches a j s) (edge s i j) h
    (λ x. next (and_first (eqb a.job i) (touches a j s) x) (and_second (eqb a.job i) (touches a j s) x)) later'

-- actions that conflict are of different jobs
pub conflicts_other : (a b : Action) → conflicts a b ≡ true → eqb a.job b.job ≡ false
unfolding conflicts
conflicts_other a b h =
    not-true (eqb a.job b.job)
    (and_second (eqb a.cell b.cell) (not (eqb a.job b.job))
    (and_first (eqb a.cell b.cell && not (eqb a.job b.job)) (not (agree a.kind b.kind)) h))

-- an action that conflicts with one of job j is of another job
pub touches_other : (a : Action) (j : ℕ) (s : Schedule) → touches a j s ≡ true → eqb a.job j ≡ false
unfolding touches
touches_other a j [] h = not_both h refl
touches_other a j (b ∷ s) h =
    touches_cases a j b s h (λ m c. rw (eqb-true b.job j m) at (conflicts_other a b c)) (λ l. touches_other a j s l)

-- no edge goes from a job to itself
pub edge_other : (s : Schedule) (i : ℕ) → edge s i i ≡ false
unfolding edge
edge_other [] i = refl
edge_other (a ∷ s) i =
    by_test (edge (a ∷ s) i i) (λ h. edge_cases a s i i h (λ m t. not_both m (touches_other a i s t)) (λ e. not_both e (edge_other s i))) (λ f. f)

-- a job whose action conflicts is one of the schedule's
touches_names : (order : List ℕ) (a : Action) (j : ℕ) (s : Schedule) → names order s ≡ true → touches a j s ≡ true → member j order ≡ true
unfolding names touches
touches_names order a j [] n h = not_both h refl
touches_names order a j (b ∷ s) n h =
    touches_cases a j b s h (λ m c. rw (eqb-true b.job j m) at (and_first (member b.job order) (names order s) n))
    (λ l. touches_names order a j s (and_second (member b.job order) (names order s) n) l)

-- an edge goes from one of the schedule's jobs to one of its jobs
pub edge_names : (order : List ℕ) (s : Schedule) (i j : ℕ) → names order s ≡ true → edge s i j ≡ true → (member i order ≡ true) × (member j order ≡ true)
unfolding names edge
edge_names order [] i j n h = not_both h refl
edge_names order (a ∷ s) i j n h =
    let rest : names order s ≡ true = and_second (member a.job order) (names order s) n in
    edge_cases a s i j h
    (λ m t. (rw (eqb-true a.job i m) at (and_first (member a.job order) (names order s) n), touches_names order a j s rest t))
    (λ e. edge_names order s i j rest e)
