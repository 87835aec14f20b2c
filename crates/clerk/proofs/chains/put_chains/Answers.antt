-- `clerk::chains::put_chains` meets its contract. The loop's invariant: the chains written so far and those left from here are all.
-- Assumes nothing.
use native.Mathlib.Omega.{arith}
use lib.ListN.{length-take}
use Rattle.clerk.proofs.Chaining.{chain_fits, chained_more, chained_over, chained_all}
use Rattle.clerk.proofs.chains.put_chains.Goals as goal

pub slice_bounds-put_chain-end : goal.slice_bounds-put_chain-end
slice_bounds-put_chain-end c =
    let e = c.next_chain-n.ensures in
    let f = chain_fits _ _ e.0 e.1 in
    omega (arith, length-take c.next_chain-n.result c.next_chain-n.new.list)

pub loop-i-preserved : goal.loop-i-preserved
loop-i-preserved c =
    let e = c.next_chain-n.ensures in
    chained_more _ c.loop-i.invariant c.loop-i-test.true (omega arith) e.0 e.1 c.if-n-eq0.false c.put_chain-next.ensures

pub returns-after-loop-i : goal.returns-after-loop-i
returns-after-loop-i c = chained_all c.loop-i.invariant c.loop-i-test.false

pub returns-then-n-eq0 : goal.returns-then-n-eq0
returns-then-n-eq0 c = chained_over c.loop-i.invariant (omega (arith, c.next_chain-n.ensures.0, c.if-n-eq0.true))
