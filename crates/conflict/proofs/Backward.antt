-- Swaps keep each job's actions and every edge. So each edge goes forward in every serial order, and a schedule with a knot has no serial order (000, 18.2.2 and 18.2.3).
-- Assumes nothing.
use Prim.Native.Nat.{ℕ, ◌<◌}
use mathlib.Core.Path.{◌≡◌, refl, sym, ap, ap₂, ◌∙◌}
use mathlib.Core.Logic.{◌↔◌}
use mathlib.Core.Bool.{Bool, true, false, ◌&&◌, ◌||◌, and-false}
use mathlib.Core.List.{List, [], ◌∷◌, ◌++◌}
use native.Mathlib.Omega.{arith}
use borrow.Author.Tests.{eqb-true}
use lib.Dec.{eqb}
use Rattle.laws.specs.Choice.{by_test, not_both}
use Rattle.laws.specs.Lists.{member, distinct, pos}
use Rattle.laws.proofs.Lists.{first_ahead, pos_both, once_first, once_rest, member_other}
use Rattle.laws.proofs.Parts.{and_first, and_second, or_swap, and_swap}
use Rattle.conflict.specs.declared.action.Action.{Action}
use Rattle.conflict.specs.Schedule.{Schedule, conflicts, Swap, Equivalent, keep, own, serial, names, touches, edge, Forward, ConflictSerializable, path, knot}
use Rattle.conflict.specs.Schedule.Swap.{here, later}
use Rattle.conflict.specs.Schedule.Equivalent.{done, after}
use Rattle.conflict.proofs.Swaps.{conflicts_sym}
use Rattle.conflict.proofs.Edges.{touches_other, edge_cases, edge_names}
use Rattle.conflict.proofs.OwnActions.{names_serial}
use Rattle.conflict.proofs.Forward.{forward_serializable}

-- of two actions that are not both kept, either may come first
keep_swap : (x y : Bool) (a b : Action) (s : Schedule) → (x ≡ true → y ≡ true → ⊥) → keep x a (keep y b s) ≡ keep y b (keep x a s)
unfolding keep
keep_swap true true a b s n = absurd (n refl refl)
keep_swap true false a b s n = refl
keep_swap false true a b s n = refl
keep_swap false false a b s n = refl

-- a swap keeps each job's actions in their order
swap_keeps_own : (j : ℕ) {s t : Schedule} → Swap s t → own j s ≡ own j t
unfolding own
swap_keeps_own j (here {a} {b} {s} o f) =
    keep_swap (eqb a.job j) (eqb b.job j) a b (own j s) (λ x y. o (eqb-true a.job j x ∙ sym (eqb-true b.job j y)))
swap_keeps_own j (later {a} w) = ap (keep (eqb a.job j) a) (swap_keeps_own j w)

-- equivalent schedules have each job's actions in the same order
pub keeps_own : (j : ℕ) {s t : Schedule} → Equivalent s t → own j s ≡ own j t
keeps_own j done = refl
keeps_own j (after w e) = swap_keeps_own j w ∙ keeps_own j e

-- a swap keeps whether an earlier action conflicts with one of job j
swap_keeps_touches : (c : Action) (j : ℕ) {s t : Schedule} → Swap s t → touches c j s ≡ touches c j t
unfolding touches
swap_keeps_touches c j (here {a} {b} {s} o f) =
    or_swap (eqb a.job j && conflicts c a) (eqb b.job j && conflicts c b) (touches c j s)
swap_keeps_touches c j (later {a} w) = ap (λ r. (eqb a.job j && conflicts c a) || r) (swap_keeps_touches c j w)

-- a swap keeps the edges
swap_keeps_edge : (i j : ℕ) {s t : Schedule} → Swap s t → edge s i j ≡ edge t i j
unfolding edge touches
swap_keeps_edge i j (here {a} {b} {s} o f) =
    simp (f, conflicts_sym b a, and-false) (or_swap (eqb a.job i && touches a j s) (eqb b.job i && touches b j s) (edge s i j))
swap_keeps_edge i j (later {a} w) = ap₂ (λ r q. (eqb a.job i && r) || q) (swap_keeps_touches a j w) (swap_keeps_edge i j w)

-- equivalent schedules have the same edges
pub keeps_edge : (i j : ℕ) {s t : Schedule} → Equivalent s t → edge s i j ≡ edge t i j
keeps_edge i j done = refl
keeps_edge i j (after w e) = swap_keeps_edge i j w ∙ keeps_edge i j e

-- a swap keeps the jobs
swap_keeps_names : (order : List ℕ) {s t : Schedule} → Swap s t → names order s ≡ names order t
unfolding names
swap_keeps_names order (here {a} {b} {s} o f) = and_swap (member a.job order) (member b.job order) (names order s)
swap_keeps_names order (later {a} w) = ap (λ r. member a.job order && r) (swap_keeps_names order w)

-- equivalent schedules have the same jobs
pub keeps_names : (order : List ℕ) {s t : Schedule} → Equivalent s t → names order s ≡ names order t
keeps_names order done = refl
keeps_names order (after w e) = swap_keeps_names order w ∙ keeps_names order e

-- one job's actions in front of others: an edge goes from that job to another, or is an edge among the others
edge_behind : {P : Type 0} (k : ℕ) (s t : Schedule) (i j : ℕ) → edge (own k s ++ t) i j ≡ true
    → (eqb k i ≡ true → eqb k j ≡ false → P) → (edge t i j ≡ true → P) → P
unfolding own keep edge
edge_behind k [] t i j h one' two' = two' h
edge_behind k (a ∷ s) t i j h one' two' =
    by_test (eqb a.job k)
    (λ e. edge_cases a (own k s ++ t) i j (rw e at h)
    (λ m c. one' (rw (eqb-true a.job k e) at m) (rw (eqb-true a.job k e) at (touches_other a j (own k s ++ t) c)))
    (λ l. edge_behind k s t i j l one' two'))
    (λ f. edge_behind k s t i j (rw f at h) one' two')

-- in a serial schedule every edge goes forward in its order
pub serial_ahead : (order : List ℕ) (s : Schedule) (i j : ℕ) → distinct order ≡ true → edge (serial order s) i j ≡ true → pos order i < pos order j
unfolding serial edge
serial_ahead [] s i j d h = not_both h refl
serial_ahead (k ∷ order) s i j d h =
    edge_behind k s (serial order s) i j h (λ mine other'. first_ahead k order i j mine other')
    (λ e. let ends = edge_names order (serial order s) i j (names_serial order s) e in
    let f : member k order ≡ false = once_first k order d in
    pos_both k order i j (member_other k i order f ends.0) (member_other k j order f ends.1) (serial_ahead order s i j (once_rest k order d) e))

-- every edge goes forward in each serial order of a schedule
pub backward : (s : Schedule) (c : ConflictSerializable s) (i j : ℕ) → edge s i j ≡ true → pos c.order i < pos c.order j
backward s c i j h =
    serial_ahead c.order c.to i j c.once (sym (ap (λ t. edge t i j) c.serially) ∙ sym (keeps_edge i j c.by_swaps) ∙ h)

-- so a serial order of a schedule names its jobs, none twice, and every edge goes forward in it
pub order_forward : (s : Schedule) (c : ConflictSerializable s) → Forward c.order s
order_forward s c =
    record {
      once = c.once;
      all = keeps_names c.order c.by_swaps ∙ ap (names c.order) c.serially ∙ names_serial c.order c.to;
      ahead = backward s c;
    }

-- a schedule is conflict-serializable exactly if there is an order in which every edge goes forward (000, 18.2.3)
pub decided : (s : Schedule) → ConflictSerializable s ↔ ((order : List ℕ) × Forward order s)
decided s = (λ c. (c.order, order_forward s c), λ f. forward_serializable f.0 s f.1)

-- if every edge goes forward, every path along edges does
path_ahead : (order : List ℕ) (e : ℕ → ℕ → Bool) → ((i j : ℕ) → e i j ≡ true → pos order i < pos order j) → (i : ℕ) (js : List ℕ) (k : ℕ) → path e i js k ≡ true → pos order i < pos order k
unfolding path
path_ahead order e ahead i [] k h = ahead i k h
path_ahead order e ahead i (j ∷ js) k h =
    omega (arith, ahead i j (and_first (e i j) (path e j js k) h), path_ahead order e ahead j js k (and_second (e i j) (path e j js k) h))

-- a schedule with a knot is not conflict-serializable
pub refuted : (s : Schedule) (js : List ℕ) → knot (edge s) js ≡ true → ConflictSerializable s → ⊥
unfolding knot
refuted s [] h c = not_both h refl
refuted s (j ∷ js) h c = omega (arith, path_ahead c.order (edge s) (backward s c) j js j h)
