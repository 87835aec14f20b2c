-- `clerk::work::work` meets its contract. The loop's invariant: what is left to do decides as the whole does, and there was room so far.
-- The measure is what is left of the chunk. Assumes nothing.
use Prim.Native.Nat.{◌-◌}
use lib.ListN.{length}
use mathlib.Core.Path.{◌≡◌}
use mathlib.Core.Bool.{false}
use Rattle.clerk.proofs.Going.{Left}
use Rattle.clerk.proofs.work.work.Given as goal

abbrev pub invariant-loop-next : goal.invariant-loop-next
invariant-loop-next l = (Left l.view (record { desks = l.initial.desks; splitter = l.initial.splitter }) l.chunk l.from l.initial.out l.at (record { desks = l.desks; splitter = l.splitter }) l.next l.out l.place) × (l.full ≡ false)

abbrev pub decreases-loop-next : goal.decreases-loop-next
decreases-loop-next l = length l.chunk - l.next
