-- `desk_io::serve_chunk` meets its contract: if output is not taken, the front has seen the chunk up to the place that the call of the work told.
-- Assumes nothing.
use Rattle.desk_io.proofs.Places.{seen_more, serves_some}
use Rattle.desk_io.proofs.serve_chunk.Goals as goal

pub returns-in_err-put_out : goal.returns-in_err-put_out
returns-in_err-put_out c =
    let e = seen_more c.args.front.now c.loop-seen.invariant.0 c.serve_some-called.ensures in
    serves_some c.serve_some-called.result.next c.from_residual.result e c.from_residual.ensures.1 c.in_err-put_out.ensures
