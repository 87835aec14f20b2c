-- THE DESK THAT RUNS DOES AS THE PAPER'S DESK DOES: new arrays show a fresh desk, and each step of started arrays is the step of the desk that they show.
-- Assumes nothing.
use Prim.Native.Nat.{ℕ, ◌≤◌}
use lib.ListN.{length, get_or}
use mathlib.Core.Path.{◌≡◌, sym, ap, ◌∙◌, fun_ext}
use Rattle.conflict.specs.History.{History}
use Rattle.desk_rules.specs.Desk as paper
use Rattle.desks.specs.Request.{Request}
use Rattle.desks.specs.Started.{fresh}
use Rattle.desk_rules.specs.Step.{step}
use Rattle.desk_rules.specs.Seen.{seen_by}
use Rattle.desks.specs.Course.{shown}
use Rattle.desk_rules.specs.Faithful.{Faithful}
use Rattle.desk_rules.specs.Invariant.{Inv}
use Rattle.desk_rules.proofs.Kept.{step_inv, started_inv}
use Rattle.desk_rules.proofs.SeenDesk.{seen_desk}
use Rattle.desk_arrays.specs.declared.state.Desk.{Desk}
use Rattle.desk_arrays.specs.Steps.{no_action, empty_desk, step_of}
use Rattle.desk_arrays.specs.Stands.{Stands, wakes_told}
use Rattle.desk_arrays.specs.Seen.{view, on_arrays, Started}
use Rattle.desk_arrays.proofs.FreshStands.{fresh_stands}
use Rattle.desk_arrays.proofs.StepTied.{tie}
use Rattle.desk_arrays.proofs.StartedStands.{stands_for_paper}

-- what is seen in arrays that stand for a paper's desk, with what holds of every started one, is that desk
view_is : {d : Desk} {D : paper.Desk} → Stands d D → Inv D → view d ≡ D
view_is s v = (λ i. seen_by (s.next i) (s.jobs i) (fun_ext (λ j. sym (s.stat j)) i) (λ c. fun_ext (λ j. sym (s.held c j)) i)) ∙ seen_desk v

-- the step of started arrays is the step of the desk that is seen in them
view_step : (d : Desk) (h : History) → Started d h → (r : Request) → shown view (on_arrays d r) ≡ step (view d) r
view_step d h s r =
    let (D, k, t) = stands_for_paper s in
    let v = started_inv k in
    let o = tie t v r.kind r.job r.cell in
    (λ i. record { desk = view_is o.stands (step_inv v r) i; said = o.answer i; wakes = o.wakes i }) ∙ ap (λ E. step E r) (sym (view_is t v))

-- the wakes are the first of their list, at most 31, and nothing stands past them
pub desk_wakes_few : {d : Desk} {h : History} → Started d h → (kind job c : ℕ) → ((step_of d kind job c).said.count ≤ 31) × (length (wakes_told (step_of d kind job c).said) ≡ (step_of d kind job c).said.count) × ((q : ℕ) → (step_of d kind job c).said.count ≤ q → get_or (step_of d kind job c).said.wakes q no_action ≡ no_action)
desk_wakes_few s kind job c =
    let (D, k, t) = stands_for_paper s in
    let o = tie t (started_inv k) kind job c in
    (o.few, ap length o.wakes ∙ sym o.count, o.rest)

-- so the arrays do as the paper's desk does
pub faithful : Faithful view on_arrays empty_desk
faithful = record { starts = λ n l u. view_is (fresh_stands n) (started_inv (fresh n l u)); same = view_step }
