-- Started arrays stand for a started paper's desk with the same history.
-- Assumes nothing.
use mathlib.Core.Path.{◌≡◌, subst}
use mathlib.Core.List.{◌++◌}
use Rattle.conflict.specs.History.{History}
use Rattle.desk_rules.specs.Desk as paper
use Rattle.desks.specs.Request.{Request}
use Rattle.desk_rules.specs.Desk.{fresh_desk}
use Rattle.desk_rules.specs.Step as paper-step
use Rattle.desks.specs.Records.{records_by}
use Rattle.desks.specs.Started.{fresh, after}
use Rattle.desk_rules.specs.Step.{events, step}
use Rattle.desk_rules.proofs.Kept.{started_inv}
use Rattle.desk_arrays.specs.declared.state.Desk.{Desk}
use Rattle.desk_arrays.specs.Steps.{step_of}
use Rattle.desk_arrays.specs.Stands.{Stands, Tied}
use Rattle.desk_arrays.specs.Seen.{on_arrays, Started}
use Rattle.desk_arrays.proofs.FreshStands.{fresh_stands}
use Rattle.desk_arrays.proofs.StepTied.{tie}

-- the records that a tied step writes are the paper's
records_same : (d : Desk) (D : paper.Desk) (r : Request) → Tied (step_of d r.kind r.job r.cell) (step D r) → events D r ≡ records_by on_arrays d r
unfolding records_by
records_same d D r t = rw (t.answer, t.wakes)

-- started arrays stand for a started paper's desk that has written the same history
pub stands_for_paper : {d : Desk} {h : History} → Started d h → (D : paper.Desk) × (paper-step.Started D h) × Stands d D
stands_for_paper (fresh n l m) = (fresh_desk n, fresh n l m, fresh_stands n)
stands_for_paper (after {d = d} {h = h} s r) = further (stands_for_paper s)
  where
    further : (D : paper.Desk) × (paper-step.Started D h) × Stands d D → (D : paper.Desk) × (paper-step.Started D (h ++ records_by on_arrays d r)) × Stands (on_arrays d r).desk D
    further (D, g, t) =
        let e : Tied (step_of d r.kind r.job r.cell) (step D r) = tie t (started_inv g) r.kind r.job r.cell in
        ((step D r).desk, subst (λ w. paper-step.Started (step D r).desk (h ++ w)) (records_same d D r e) (after g r), e.stands)
