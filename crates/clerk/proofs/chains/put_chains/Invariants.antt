-- `clerk::chains::put_chains` meets its contract. The loop's invariant: the chains written so far and those left from here are all.
-- Assumes nothing.
use Rattle.clerk.proofs.Chaining.{ChainsPut}
use Rattle.clerk.proofs.chains.put_chains.Given as goal

abbrev pub invariant-loop-i : goal.invariant-loop-i
invariant-loop-i l = ChainsPut l.d l.at l.next l.last l._i l.initial.out l.out
