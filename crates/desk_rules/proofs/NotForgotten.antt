-- A waiter is not forgotten (demand 3, second sentence). While it waits, some job that was in its way when it began still is, in the same run; so once all those runs have ended, it no longer waits. If it stops waiting without giving up, it was granted its cell in the mode it asked for.
-- Assumes nothing.
use Prim.Native.Nat.{ℕ}
use mathlib.Core.Path.{◌≡◌, refl, subst, ◌∙◌}
use mathlib.Core.Logic.{◌⊎◌}
use mathlib.Core.Bool.{false}
use mathlib.Core.List.{List, [], ◌∷◌, ◌++◌}
use Rattle.conflict.specs.History.{History}
use Rattle.conflict.specs.Runs.{is_end, ended}
use Rattle.conflict.proofs.OneEvent.{marked_none, ended_is}
use Rattle.conflict.proofs.Appended.{ended_append}
use Rattle.desks.specs.Request.{Request}
use Rattle.desk_rules.specs.Desk.{Waiter, Desk}
use Rattle.desk_rules.specs.Locks.{wants}
use Rattle.desk_rules.specs.Step.{step, events, Started}
use Rattle.desks.specs.Requests.{writes}
use Rattle.desk_rules.specs.Requests.{desk_after, history_of}
use Rattle.desk_rules.specs.Waiting.{InWay, IsWaiting, Waits, GivesUp, Granted}
use Rattle.desk_rules.specs.Invariant.{Inv}
use Rattle.desk_rules.proofs.Kept.{step_inv, started_inv}
use Rattle.desk_rules.proofs.Settle.{wants_same}
use Rattle.desks.proofs.StartedThrough.{run_started}
use Rattle.desk_rules.proofs.WaiterStep.{step_on, step_undisturbed, step_not_ended}

-- with no requests no run ends
pub ended_none : (i : ℕ) → ended i [] ≡ false
ended_none i = ended_is i [] ∙ marked_none is_end i

-- a run that ends in neither part of a history does not end in the whole
pub ended_neither : (i : ℕ) (g h : History) → ended i g ≡ false → ended i h ≡ false → ended i (g ++ h) ≡ false
ended_neither i g h p q = ended_append i g h ∙ rw (p, q)

module _ (c : ℕ) (w : Waiter) where
  -- a job that waits through requests waits before them
  pub waits_now : (d : Desk) (rs : List Request) → Waits (desk_after d) c w rs → IsWaiting d c w
  waits_now d [] k = k
  waits_now d (r ∷ rs) k = k.0

  -- and after them
  pub waits_end : (d : Desk) (rs : List Request) → Waits (desk_after d) c w rs → IsWaiting (desk_after d rs) c w
  waits_end d [] k = k
  waits_end d (r ∷ rs) k = waits_end (step d r).desk rs k.1

  -- its lock on the cell stays as it was
  hold_through : {d : Desk} → Inv d → (rs : List Request) → Waits (desk_after d) c w rs → ((desk_after d rs).row c).held w.job ≡ (d.row c).held w.job
  hold_through v [] k = refl
  hold_through {d} v (r ∷ rs) (k, l) = hold_through {d = (step d r).desk} (step_inv v r) rs l ∙ (step_undisturbed v r c w k (waits_now (step d r).desk rs l)).hold

  -- a job that is in its way after them was in its way before them, and has not ended a run in them
  pub ways_through : {d : Desk} → Inv d → (rs : List Request) → Waits (desk_after d) c w rs → (i : ℕ) → InWay ((desk_after d rs).row c) w i → InWay (d.row c) w i × (ended i (history_of d rs) ≡ false)
  unfolding writes
  ways_through v [] k i way = (way, ended_none i)
  ways_through {d} v (r ∷ rs) (k, l) i way =
      let (p, q) = ways_through {d = (step d r).desk} (step_inv v r) rs l i way in
      ((step_undisturbed v r c w k (waits_now (step d r).desk rs l)).ways i p, ended_neither i (events d r) (history_of (step d r).desk rs) (step_not_ended v r c w k i p) q)

module _ {d : Desk} {h : History} (s : Started d h) (c : ℕ) (w : Waiter) (rs : List Request) where
  -- a step that is not its give-up leaves it waiting, or grants it its cell in the mode it asked for
  pub waits_or_granted : Waits (desk_after d) c w rs → (r : Request) → (GivesUp w.job r → ⊥) → IsWaiting (step (desk_after d rs) r).desk c w ⊎ Granted (step (desk_after d rs) r) c w (wants (d.row c).held w)
  waits_or_granted k r n =
      subst (λ m. IsWaiting (step (desk_after d rs) r).desk c w ⊎ Granted (step (desk_after d rs) r) c w m)
      (wants_same ((desk_after d rs).row c).held (d.row c).held w (hold_through c w (started_inv s) rs k))
      (step_on (started_inv (run_started s rs)) r c w (waits_end c w d rs k) n)
