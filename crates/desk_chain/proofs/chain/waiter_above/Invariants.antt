-- `desk_chain::chain::waiter_above` meets its contract. The loop's invariant: the waiter with the smallest number among the places passed, and that number.
-- Assumes nothing.
use Prim.Native.Nat.{suc}
use mathlib.Core.Path.{◌≡◌}
use lib.ListN.{get_or}
use Rattle.terms.specs.Limits.{last_number}
use Rattle.desk_chain.specs.Chains.{waiter_above}
use Rattle.desk_chain.proofs.chain.waiter_above.Given as goal

abbrev pub invariant-loop-q : goal.invariant-loop-q
invariant-loop-q l = (l.best ≡ waiter_above l.b.number.now l.b.status.now l.last l.q) × (l.least ≡ get_or l.b.number.now l.best (suc last_number))
