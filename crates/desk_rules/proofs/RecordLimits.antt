-- The numbers in a history that the desk writes: each job is from 1 to 4,294,967,295, and each cell is one of the 64 (01, Jobs and their numbers; 01, refusal 2).
-- Assumes nothing.
use Prim.Native.Nat.{ℕ, ◌≤◌, ◌<◌}
use mathlib.Core.Path.{◌≡◌, sym, ◌∙◌, subst}
use mathlib.Core.Bool.{true}
use Rattle.laws.specs.Choice.{not_both}
use Rattle.terms.specs.Limits.{cells}
use Rattle.conflict.specs.declared.action.Action.{Action}
use Rattle.conflict.specs.declared.action.Event.TheVariants.{Does}
use Rattle.conflict.specs.History.{History, line_of}
use Rattle.laws.proofs.Parts.{or_either}
use Rattle.conflict.proofs.OneEvent.{line_none, same_action, no_mark}
use Rattle.conflict.proofs.Appended.{line_append}
use Rattle.desks.specs.Request.{Request}
use Rattle.laws.specs.Standing.{In}
use Rattle.desk_rules.specs.Desk.{Desk}
use Rattle.desk_rules.specs.Rules.{Outcome, wake, rows_after}
use Rattle.desks.specs.Started.{fresh, after}
use Rattle.desk_rules.specs.Step.{events, Started}
use Rattle.desk_rules.specs.Invariant.{Inv}
use Rattle.desk_rules.proofs.Kept.{started_inv}
use Rattle.desk_rules.proofs.RunEnd.{wakes_after, row_releases}
use Rattle.desk_rules.proofs.Written.{asking, Wrote, nothing, action, mark, step_wrote}
use Rattle.desk_rules.proofs.WakeOrder.{GrantedAt, search_order}
use Rattle.desk_rules.proofs.WakeRecords.{recorded_wake}
use Rattle.desk_rules.proofs.NoEventAfterEnd.{line_open}
use Rattle.desk_rules.proofs.NumberLimits.{limits}
use Rattle.laws.proofs.Standing.{in_none, in_split, in_either}

-- in every history that the desk writes, a job's number is from 1 to 4,294,967,295
pub recorded_jobs : {d : Desk} {h : History} → Started d h → (j : ℕ) → line_of j h ≡ true → (1 ≤ j) × (j ≤ 4_294_967_295)
recorded_jobs (fresh n _ _) j l = not_both l (line_none j)
recorded_jobs (after {d = d} {h = h} s r) j l =
    or_either (line_of j h) (line_of j (events d r)) (sym (line_append j h (events d r)) ∙ l) (λ t. recorded_jobs s j t)
    (λ t. (limits s).open_within j (line_open (started_inv s) (step_wrote d r (started_inv s)) j t))

module _ {d : Desk} (v : Inv d) (r : Request) where
  -- a woken action is on the cell in whose queue its job stood
  woken_cell : (x : Action) → GrantedAt (rows_after d r.job) cells x → x.cell < cells
  unfolding wake
  woken_cell x k =
      let w = k.waiter in
      subst (λ y. y.cell < cells) (sym k.is) ((v.rows k.cell).within w ((row_releases v r.job k.cell).woken_was w k.granted))

  -- an action that a step writes is on the cell that was asked for, or on that of a wake
  wrote_cell : {o : Outcome} {g : History} → Wrote d r o g → (x : Action) → In (Does x) g → x.cell < cells
  unfolding asking
  wrote_cell (nothing w) x h = in_none h
  wrote_cell (action a k w c) x h = in_split h (λ e. subst (λ y. y.cell < cells) (sym (same_action e)) k.within) in_none
  wrote_cell (mark m s js said o l _) x h = in_split h no_mark (λ k. woken_cell x ((search_order (rows_after d r.job) cells).granted (recorded_wake (wakes_after d r.job) k)))

-- in every history that the desk writes, an action's cell is below 64
pub recorded_cells : {d : Desk} {h : History} → Started d h → (x : Action) → In (Does x) h → x.cell < 64
recorded_cells (fresh n _ _) x k = in_none k
recorded_cells (after {d = d} {h = h} s r) x k =
    in_either h (events d r) k (λ t. recorded_cells s x t) (wrote_cell (started_inv s) r (step_wrote d r (started_inv s)) x)
