-- `desk_io::serve_some` meets its contract: a call of the work from the buffer's first byte.
-- Assumes nothing.
use native.Mathlib.Omega.{arith}
use Rattle.desk_io.proofs.Places.{call_turned}
use Rattle.desk_io.proofs.serve_some.Goals as goal

pub returns : goal.returns
returns c =
    let a = c.args in
    let w = c.work-worked.ensures in
    call_turned a.front a.chunk.now a.from a.out.now (omega arith) (omega arith) w.0 w.1
