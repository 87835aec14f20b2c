-- An order in which every edge goes forward is a serial order of the schedule: swaps turn it into the serial schedule (000, 18.2.3).
-- Assumes nothing.
use Prim.Native.Nat.{ℕ}
use mathlib.Core.Path.{◌≡◌, refl, ◌∙◌, subst}
use mathlib.Core.Bool.{true, false, ◌&&◌}
use mathlib.Core.List.{List, [], ◌∷◌, ◌++◌}
use borrow.Author.Tests.{eqb-true, eqb-false}
use lib.Dec.{eqb}
use Rattle.laws.specs.Choice.{by_test, not_both}
use Rattle.laws.proofs.Lists.{same_refl, same_sym, pos_rest, none_ahead, once_first, once_rest}
use Rattle.laws.proofs.Parts.{nor_first, nor_second}
use Rattle.conflict.specs.declared.action.Action.{Action}
use Rattle.conflict.specs.Schedule.{Schedule, conflicts, Equivalent, keep, own, serial, touches, edge, Forward, ConflictSerializable}
use Rattle.conflict.specs.Schedule.Swap.{here}
use Rattle.conflict.specs.Schedule.Equivalent.{done, after}
use Rattle.conflict.proofs.Swaps.{equivalent_trans, equivalent_later, equivalent_behind}
use Rattle.conflict.proofs.Edges.{touches_here, touches_later, touches_cases, edge_here, edge_later, edge_cases}
use Rattle.conflict.proofs.OwnActions.{others, serial_others, serial_again, names_others, names_none}

-- an action of another job can move behind all actions of job j, if none of them conflicts with it
goes_behind : (j : ℕ) (a : Action) (s t : Schedule) → eqb a.job j ≡ false → touches a j s ≡ false → Equivalent (a ∷ (own j s ++ t)) (own j s ++ (a ∷ t))
unfolding own keep touches
goes_behind j a [] t f n = done
goes_behind j a (b ∷ s) t f n =
    let rest : touches a j s ≡ false = nor_second (eqb b.job j && conflicts a b) (touches a j s) n in
    let first : (eqb b.job j && conflicts a b) ≡ false = nor_first (eqb b.job j && conflicts a b) (touches a j s) n in
    by_test (eqb b.job j)
    (λ e. rw e (after (here (λ q. eqb-false a.job j f (q ∙ eqb-true b.job j e)) (rw e at first)) (equivalent_later (goes_behind j a s t f rest))))
    (λ g. rw g (goes_behind j a s t f rest))

-- a job that no edge enters can move to the front: its actions keep their order, and so do the others behind it
pub to_front : (j : ℕ) (s : Schedule) → ((i : ℕ) → edge s i j ≡ false) → Equivalent s (own j s ++ others j s)
unfolding own others keep edge
to_front j [] n = done
to_front j (a ∷ s) n =
    let rest : (i : ℕ) → edge s i j ≡ false = λ i. nor_second (eqb a.job i && touches a j s) (edge s i j) (n i) in
    let first : (eqb a.job a.job && touches a j s) ≡ false = nor_first (eqb a.job a.job && touches a j s) (edge s a.job j) (n a.job) in
    by_test (eqb a.job j) (λ e. rw e (equivalent_later (to_front j s rest)))
    (λ f. rw f (equivalent_trans (equivalent_later (to_front j s rest)) (goes_behind j a s (others j s) f (rw (same_refl a.job) at first))))

-- an action that conflicts with one that is left conflicts with one of the whole
touches_others : (j k : ℕ) (a : Action) (s : Schedule) → touches a k (others j s) ≡ true → touches a k s ≡ true
unfolding touches others keep
touches_others j k a [] h = h
touches_others j k a (b ∷ s) h =
    by_test (eqb b.job j) (λ e. touches_later a k b s (touches_others j k a s (rw e at h)))
    (λ f. touches_cases a k b (others j s) (rw f at h) (λ m c. touches_here a k b s m c)
    (λ l. touches_later a k b s (touches_others j k a s l)))

-- an edge of the schedule without job j is an edge of the whole, and does not touch j
pub edge_others : (j : ℕ) (s : Schedule) (i k : ℕ) → edge (others j s) i k ≡ true → (edge s i k ≡ true) × (eqb j i ≡ false)
unfolding edge others keep
edge_others j [] i k h = not_both h refl
edge_others j (a ∷ s) i k h =
    by_test (eqb a.job j) (λ e. let r = edge_others j s i k (rw e at h) in (edge_later a s i k r.0, r.1))
    (λ f. edge_cases a (others j s) i k (rw f at h)
    (λ m t. (edge_here a s i k m (touches_others j k a s t), same_sym j i ∙ (rw (eqb-true a.job i m) at f)))
    (λ l. let r = edge_others j s i k l in (edge_later a s i k r.0, r.1)))

-- the rest of the order is forward for the other jobs
pub forward_rest : (j : ℕ) (order : List ℕ) (s : Schedule) → Forward (j ∷ order) s → Forward order (others j s)
forward_rest j order s f =
    record {
      once = once_rest j order f.once;
      all = names_others j order s f.all;
      ahead = λ i k h. let e = edge_others j s i k h in pos_rest j order i k e.1 (f.ahead i k e.0);
    }

-- swaps turn a schedule into the serial schedule of an order in which every edge goes forward
pub forward : (order : List ℕ) (s : Schedule) → Forward order s → Equivalent s (serial order s)
unfolding serial
forward [] s f = rw (names_none s f.all) done
forward (j ∷ order) s f =
    equivalent_trans (to_front j s (λ i. by_test (edge s i j) (λ e. none_ahead j order i (f.ahead i j e)) (λ g. g)))
    (equivalent_behind (own j s)
    (subst (Equivalent (others j s)) (serial_others order j s (once_first j order f.once)) (forward order (others j s) (forward_rest j order s f))))

-- so a schedule with such an order is conflict-serializable
pub forward_serializable : (order : List ℕ) (s : Schedule) → Forward order s → ConflictSerializable s
forward_serializable order s f =
    record { order = order; once = f.once; to = serial order s; serially = serial_again order s f.once; by_swaps = forward order s f }
