-- `verdict::take_all` meets its contract: one more chunk is kept, as far as there is room.
-- Assumes nothing.
use native.Mathlib.Omega.{arith}
use borrow.Author.Rules.{rules}
use Rattle.verdict.proofs.Keeping.{took_more}
use Rattle.verdict.proofs.take_all.Goals as goal

pub loop-len-preserved : goal.loop-len-preserved
loop-len-preserved c =
    let i = c.loop-len.invariant in
    let k = c.keep-len in
    let t = took_more i.0 (omega arith) _ i.1 k.ensures.0 k.ensures.1 in
    (t, search rules)
