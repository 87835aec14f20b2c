-- In every history that a timestamp desk writes, jobs are 1 to 4,294,967,295 and cells 0 to 63; and a step writes at most one record (01, Jobs and their numbers; 02, No. 6).
-- Assumes nothing.
use Prim.Native.Nat.{ℕ, ◌≤◌, ◌<◌}
use mathlib.Core.Path.{◌≡◌, sym, subst, ◌∙◌}
use mathlib.Core.Bool.{true}
use native.Mathlib.Omega.{arith}
use lib.ListN.{length}
use Rattle.laws.specs.Choice.{not_both}
use Rattle.laws.specs.Standing.{In}
use Rattle.laws.proofs.Parts.{or_either}
use Rattle.laws.proofs.Standing.{in_none, in_split, in_either}
use Rattle.conflict.specs.declared.action.Action.{Action}
use Rattle.conflict.specs.declared.action.Event.TheVariants.{Does}
use Rattle.conflict.specs.History.{History, line_of}
use Rattle.conflict.proofs.OneEvent.{line_none, same_action, no_mark}
use Rattle.conflict.proofs.Appended.{line_append}
use Rattle.desks.specs.Request.{Request}
use Rattle.desks.specs.Records.{records_by}
use Rattle.desks.specs.Started.{fresh, after}
use Rattle.stamp_rules.specs.Desk.{Desk}
use Rattle.stamp_rules.specs.Step.{step, Started}
use Rattle.stamp_rules.proofs.NoEventAfterEnd.{line_open}
use Rattle.stamp_rules.proofs.NumberLimits.{limits}
use Rattle.stamp_rules.proofs.Written.{Wrote, nothing, action, mark, step_wrote}

-- a job's number is from 1 to 4,294,967,295
pub recorded_jobs : {d : Desk} {h : History} → Started d h → (j : ℕ) → line_of j h ≡ true → (1 ≤ j) × (j ≤ 4_294_967_295)
recorded_jobs (fresh n _ _) j l = not_both l (line_none j)
recorded_jobs (after {d = d} {h = h} s r) j l =
    let g = records_by step d r in
    or_either (line_of j h) (line_of j g) (sym (line_append j h g) ∙ l) (λ t. recorded_jobs s j t) (λ t. (limits s).open_within j (line_open (step_wrote d r) j t))

-- an action that a step writes is on the cell that was asked for
wrote_cell : {d : Desk} {r : Request} {e : Desk} {g : History} → Wrote d r e g → (x : Action) → In (Does x) g → x.cell < 64
wrote_cell (nothing s) x h = in_none h
wrote_cell (action a k f) x h = in_split h (λ e. subst (λ y. y.cell < 64) (sym (same_action e)) k.within) in_none
wrote_cell (mark m o) x h = in_split h no_mark in_none

-- so an action's cell is below 64
pub recorded_cells : {d : Desk} {h : History} → Started d h → (x : Action) → In (Does x) h → x.cell < 64
recorded_cells (fresh n _ _) x k = in_none k
recorded_cells (after {d = d} {h = h} s r) x k = in_either h (records_by step d r) k (λ t. recorded_cells s x t) (wrote_cell (step_wrote d r) x)

-- what is written of a step is at most one record
wrote_few : {d : Desk} {r : Request} {e : Desk} {g : History} → Wrote d r e g → length g ≤ 1
wrote_few (nothing s) = omega arith
wrote_few (action a k f) = omega arith
wrote_few (mark m o) = omega arith

-- so a step writes at most one record
pub one_record : (d : Desk) (r : Request) → length (records_by step d r) ≤ 1
one_record d r = wrote_few (step_wrote d r)
