-- `clerk::records::put_wakes` meets its contract. The loop's invariant: the records of the wakes passed stand in the buffer, at most 24 bytes each.
-- Assumes nothing.
use native.Mathlib.Omega.{arith}
use mathlib.Core.Path.{ap, ◌∙◌}
use Rattle.desk_arrays.specs.Steps.{wake_at}
use Rattle.clerk.specs.Parts.{wake_record}
use Rattle.clerk.proofs.Adding.{added_as}
use Rattle.clerk.proofs.Waking.{wakes_none, wakes_more}
use Rattle.clerk.proofs.records.put_wakes.Goals as goal

pub loop-p-init : goal.loop-p-init
loop-p-init c = let a = c.args in wakes_none a.h.view a.h.line (wake_at a.w.number.now a.w.cell.now a.w.ask.now) a.woken.now (omega arith)

pub loop-p-preserved : goal.loop-p-preserved
loop-p-preserved c =
    let a = c.args in
    let f = wake_at a.w.number.now a.w.cell.now a.w.ask.now in
    let l = c.loop-p in
    wakes_more a.h.view a.h.line f a.woken.now l.p-index c.loop-p-test.true l.invariant (added_as c.put_wake-next.ensures (ap (wake_record a.h.view a.h.line) (c.wake_at.ensures ∙ ap f c.from.ensures)))
