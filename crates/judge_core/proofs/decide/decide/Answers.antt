-- `judge_core::decide::decide` meets its contract: the jobs with a c are taken away by the edges between them, and what remains decides.
-- Assumes nothing.
use Rattle.std.proofs.Common.{arith, rules, sym, ◌∙◌}
use Rattle.std.proofs.lemmas.List.{length-take-le}
use Rattle.judge_core.proofs.Said.{took_few, took_long, took_knot, took_room, said_order, put_order, said_knot, put_knot}
use Rattle.judge_core.proofs.decide.decide.Goals as goal

pub slice_bounds-copy_from_slice-end : goal.slice_bounds-copy_from_slice-end
slice_bounds-copy_from_slice-end c = omega (arith, took_few _ _ _ _ _ c.take_jobs-taken.ensures, c.requires)

pub slice_bounds-copy_from_slice-end-in-None : goal.slice_bounds-copy_from_slice-end-in-None
slice_bounds-copy_from_slice-end-in-None c = sym (length-take-le _ _ (omega (arith, took_few _ _ _ _ _ c.take_jobs-taken.ensures, c.requires)))

pub copy_from_slice-requires : goal.copy_from_slice-requires
copy_from_slice-requires c = length-take-le _ _ (omega (arith, took_few _ _ _ _ _ c.take_jobs-taken.ensures, c.requires)) ∙ sym (took_long _ _ _ _ _ c.take_jobs-taken.ensures)

pub returns-in-None-clause-value : goal.returns-in-None-clause-value
returns-in-None-clause-value c = said_order _ _ _ _ _ c.take_jobs-taken.ensures (search rules) c.in-None.ensures _

pub returns-in-None-clause-order_after : goal.returns-in-None-clause-order_after
returns-in-None-clause-order_after c = put_order _ _ _ _ _ c.take_jobs-taken.ensures (search rules) c.in-None.ensures _ _ c.copy_from_slice.ensures.after

pub knot-requires : goal.knot-requires
knot-requires c =
    let t = c.take_jobs-taken.ensures in
    let s = c.in-Some.ensures in
    ((took_knot _ _ _ _ _ t (search rules) _ s).0, omega (arith, took_room _ _ _ _ _ t (search rules) _ s, c.requires))

pub returns-in-Some-clause-value : goal.returns-in-Some-clause-value
returns-in-Some-clause-value c = said_knot _ _ _ _ _ c.take_jobs-taken.ensures (search rules) _ c.in-Some.ensures _ _ c.knot.ensures.value

pub returns-in-Some-clause-order_after : goal.returns-in-Some-clause-order_after
returns-in-Some-clause-order_after c = put_knot _ _ _ _ _ c.take_jobs-taken.ensures (search rules) _ c.in-Some.ensures _ _ c.knot.ensures.order_after
