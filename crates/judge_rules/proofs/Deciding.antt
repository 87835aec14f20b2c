-- The verdict on a schedule's jobs by its edges: orderly is said exactly if the schedule is conflict-serializable, and then with a serial order of it.
-- Assumes nothing.
use Prim.Native.Nat.{ℕ}
use mathlib.Core.Path.{◌≡◌, refl, ap}
use mathlib.Core.Logic.{◌↔◌}
use mathlib.Core.Bool.{true, false}
use mathlib.Core.List.{List}
use Rattle.laws.specs.Choice.{not_both}
use Rattle.laws.specs.Sorted.{ascending}
use Rattle.conflict.specs.Schedule.{Schedule, Equivalent, serial, ConflictSerializable, edge, names, Forward}
use Rattle.conflict.proofs.Edges.{edge_names}
use Rattle.conflict.proofs.Forward.{forward, forward_serializable}
use Rattle.conflict.proofs.Backward.{refuted}
use Rattle.conflict.proofs.CommittedJobs.{names_wider}
use Rattle.judge_rules.specs.Judged.{Finding, orderly, knotted, is_orderly, judged}
use Rattle.judge_rules.specs.Meant.{Orderly}
use Rattle.judge_rules.proofs.Judging.{says_orderly, says_knot}

-- a proof by the two verdicts
pub by_finding : {P : Type 0} (v : Finding) → ((order : List ℕ) → v ≡ orderly order → P) → ((js : List ℕ) → v ≡ knotted js → P) → P
by_finding (orderly order) one' two' = one' order refl
by_finding (knotted js) one' two' = two' js refl

-- an orderly verdict is orderly
pub orderly_is : {v : Finding} (order : List ℕ) → v ≡ orderly order → is_orderly v ≡ true
unfolding is_orderly
orderly_is order h = ap is_orderly h

-- a knot is not
pub knotted_is : {v : Finding} (js : List ℕ) → v ≡ knotted js → is_orderly v ≡ false
unfolding is_orderly
knotted_is js h = ap is_orderly h

module _ (s : Schedule) (jobs : List ℕ) (all : names jobs s ≡ true) where
  -- every edge of the schedule goes forward in the order said
  pub said_forward : (order : List ℕ) → judged (edge s) jobs ≡ orderly order → Forward order s
  said_forward order h =
      let o : Orderly (edge s) jobs order = says_orderly (edge s) jobs order h in
      record {
        once = o.once;
        all = names_wider jobs order s o.all all;
        ahead = λ i j g. let ends = edge_names jobs s i j all g in o.ahead i j ends.0 ends.1 g;
      }

  -- the order said is a serial order of the schedule
  pub said_serial : (order : List ℕ) → judged (edge s) jobs ≡ orderly order → Equivalent s (serial order s)
  said_serial order h = forward order s (said_forward order h)

  module _ (up : ascending jobs ≡ true) where
    -- a schedule on which a knot is said is not conflict-serializable
    pub knot_refutes : (js : List ℕ) → judged (edge s) jobs ≡ knotted js → ConflictSerializable s → ⊥
    knot_refutes js h c = refuted s js (says_knot (edge s) jobs up js h).knots c

    -- orderly is said exactly if the schedule is conflict-serializable
    pub decides : (is_orderly (judged (edge s) jobs) ≡ true) ↔ ConflictSerializable s
    decides = (
      λ t. by_finding (judged (edge s) jobs) (λ order h. forward_serializable order s (said_forward order h)) (λ js h. not_both t (knotted_is js h)),
      λ c. by_finding (judged (edge s) jobs) (λ order h. orderly_is order h) (λ js h. absurd (knot_refutes js h c)),
    )
