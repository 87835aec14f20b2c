-- `clerk::work::work` meets its contract. The loop's invariant: what is left to do decides as the whole does, and there was room so far.
-- Assumes nothing.
use native.Mathlib.Omega.{arith}
use mathlib.Core.Path.{sym, ◌∙◌}
use Rattle.laws.specs.Choice.{was_true, was_false}
use Rattle.program_rules.specs.Work.{roomy}
use Rattle.clerk.proofs.Going.{left_none, left_passes, left_full, cut_moves, left_answers}
use Rattle.clerk.proofs.work.work.Goals as goal

pub loop-next-smaller-then-is_due : goal.loop-next-smaller-then-is_due
loop-next-smaller-then-is_due c =
    let a = c.args in
    let l = c.loop-next in
    let m = cut_moves a.view a.c a.chunk.now a.from a.out.now a.at (record { desks = l.desks; splitter = l.splitter }) l.next l.out l.place l.invariant.0 c.cut-cut.result c.cut-cut.ensures c.loop-next-test.true in
    omega (arith, c.loop-next-test.true)

pub loop-next-preserved-then-is_due : goal.loop-next-preserved-then-is_due
unfolding roomy
loop-next-preserved-then-is_due c =
    let a = c.args in
    let l = c.loop-next in
    let room = was_true _ c.has_room.ensures c.if-not-has_room.false in
    (left_answers a.view a.c a.chunk.now a.from a.out.now a.at (record { desks = l.desks; splitter = l.splitter }) l.next l.out l.place l.invariant.0 c.cut-cut.result c.cut-cut.ensures c.loop-next-test.true room _ c.answer_line-place.ensures.0 c.answer_line-place.ensures.1, l.invariant.1)

pub loop-next-smaller : goal.loop-next-smaller
loop-next-smaller c =
    let a = c.args in
    let l = c.loop-next in
    let m = cut_moves a.view a.c a.chunk.now a.from a.out.now a.at (record { desks = l.desks; splitter = l.splitter }) l.next l.out l.place l.invariant.0 c.cut-cut.result c.cut-cut.ensures c.loop-next-test.true in
    omega (arith, c.loop-next-test.true)

pub returns-after-loop-next : goal.returns-after-loop-next
returns-after-loop-next c =
    let a = c.args in
    let l = c.loop-next in
    rw l.invariant.1 (left_none a.view a.c a.chunk.now a.from a.out.now a.at (record { desks = l.desks; splitter = l.splitter }) l.next l.out l.place l.invariant.0 c.loop-next-test.false)

pub returns-then-not-has_room : goal.returns-then-not-has_room
unfolding roomy
returns-then-not-has_room c =
    let a = c.args in
    let l = c.loop-next in
    left_full a.view a.c a.chunk.now a.from a.out.now a.at (record { desks = l.desks; splitter = l.splitter }) l.next l.out l.place l.invariant.0 c.loop-next-test.true (was_false _ c.has_room.ensures c.if-not-has_room.true)

pub loop-next-preserved : goal.loop-next-preserved
unfolding roomy
loop-next-preserved c =
    let a = c.args in
    let l = c.loop-next in
    let room = was_true _ c.has_room.ensures c.if-not-has_room.false in
    (left_passes a.view a.c a.chunk.now a.from a.out.now a.at (record { desks = l.desks; splitter = l.splitter }) l.next l.out l.place l.invariant.0 c.cut-cut.result c.cut-cut.ensures c.loop-next-test.true room (sym c.is_due.ensures ∙ c.if-is_due.false), l.invariant.1)
