-- `try_lent::put_record` is safe and ends: what stands before the place that the writer tells lies in the buffer.
-- Assumes nothing.
use Rattle.std.proofs.Common.{arith, sym}
use Rattle.std.proofs.lemmas.List.{length-take-le}
use Rattle.text.proofs.Placed.{placed}
use Rattle.try_lent.proofs.put_record.Goals as goal

pub slice_bounds-out-end : goal.slice_bounds-out-end
slice_bounds-out-end c = omega (arith, placed _ _ _ _ _ c.write_answer.ensures.0 c.in-Ok.is)

pub slice_bounds-put_out-end : goal.slice_bounds-put_out-end
slice_bounds-put_out-end c = sym (length-take-le _ _ (omega (arith, placed _ _ _ _ _ c.write_answer.ensures.0 c.in-Ok.is)))
