-- Whether two actions conflict, in the order the code looks: their cells, their jobs, then their kinds.
-- Assumes nothing.
use mathlib.Core.Path.{◌≡◌, refl}
use mathlib.Core.Bool.{Bool, true, false, not, ◌&&◌}
use borrow.Author.Tests.{eq-eqb, ne_eqb, eqb-true, not-true}
use lib.Dec.{eqb}
use Rattle.laws.proofs.Parts.{and_first, and_second}
use Rattle.conflict.specs.declared.action.Action.{Action}
use Rattle.conflict.specs.Schedule.{agree, conflicts}

-- a conjunction fails if one of its parts fails
and_none : (a b : Bool) → false ≡ ((a && false) && b)
and_none true b = refl
and_none false b = refl

module _ (a b : Action) where
  -- actions on two cells do not conflict
  pub apart : (a.cell ≡ b.cell → ⊥) → false ≡ conflicts a b
  unfolding conflicts
  apart n = rw (ne_eqb a.cell b.cell n)

  -- nor do actions of one job
  pub one_job : a.job ≡ b.job → false ≡ conflicts a b
  unfolding conflicts
  one_job e = rw (eq-eqb a.job b.job e) (and_none (eqb a.cell b.cell) (not (agree a.kind b.kind)))

  -- for actions on one cell by two jobs, the kinds decide
  pub by_kinds : (r : Bool) → a.cell ≡ b.cell → (a.job ≡ b.job → ⊥) → r ≡ agree a.kind b.kind → not r ≡ conflicts a b
  unfolding conflicts
  by_kinds r e n h = rw (eq-eqb a.cell b.cell e, ne_eqb a.job b.job n, h)

  module _ (t : conflicts a b ≡ true) where
    -- actions that conflict are on one cell
    pub conflict_cell : a.cell ≡ b.cell
    unfolding conflicts
    conflict_cell =
        eqb-true a.cell b.cell
        (and_first (eqb a.cell b.cell) (not (eqb a.job b.job))
        (and_first (eqb a.cell b.cell && not (eqb a.job b.job)) (not (agree a.kind b.kind)) t))

    -- and their kinds do not agree
    pub conflict_kinds : agree a.kind b.kind ≡ false
    unfolding conflicts
    conflict_kinds =
        not-true (agree a.kind b.kind)
        (and_second (eqb a.cell b.cell && not (eqb a.job b.job)) (not (agree a.kind b.kind)) t)
