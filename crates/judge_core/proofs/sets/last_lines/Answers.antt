-- `judge_core::sets::last_lines` meets its contract: the table has the last of the lines passed.
-- Assumes nothing.
use Rattle.std.proofs.Common.{arith, refl, sym, ◌∙◌}
use Rattle.judge_core.proofs.Covering.{lasts_none, lasts_keep, lasts_any, lasts_more}
use Rattle.judge_core.proofs.sets.last_lines.Goals.{then-j-ne0, else-j-ne0}
use Rattle.judge_core.proofs.sets.last_lines.Goals as goal

pub loop-p-init : goal.loop-p-init
loop-p-init c = lasts_none _ _ _

pub loop-p-preserved : goal.loop-p-preserved
loop-p-preserved c = elim c.if-j-ne0.branch [
  | then-j-ne0 w ↦
      let small = c.requires.small c.loop-p.p (omega arith) in
      let low = c.requires.cell _ (omega arith) (λ z. w.if-j-ne0.true (c.from-j.ensures ∙ z)) in
      let any = lasts_any _ _ _ _ _ c.loop-p.invariant _ _ _ small low c.from-j.ensures w.last_key.ensures.0 refl in
      rw w.lasts-is (lasts_more _ _ _ _ _ any.0 small (c.requires.code _ (omega arith) (λ z. w.if-j-ne0.true (c.from-j.ensures ∙ z))) low any.1 _ _ _ c.from-j.ensures w.last_key-then-j-ne0.ensures.0 refl)
  | else-j-ne0 w ↦ rw w.lasts-is (lasts_keep _ _ _ _ _ c.loop-p.invariant (sym c.from-j.ensures ∙ w.if-j-ne0.false))
]
