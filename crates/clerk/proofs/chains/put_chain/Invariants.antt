-- `clerk::chains::put_chain` meets its contract. The loop's invariant: the jobs passed stand on the line, with tabs between.
-- Assumes nothing.
use Prim.Native.Nat.{◌+◌}
use Rattle.clerk.proofs.Listing.{Listed}
use Rattle.clerk.proofs.chains.put_chain.Given as goal

abbrev pub invariant-loop-job : goal.invariant-loop-job
invariant-loop-job l = Listed l.jobs l.at l.next (l.job-index + 1) l.fn.out l.out
