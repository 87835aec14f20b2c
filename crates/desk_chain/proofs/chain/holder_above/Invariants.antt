-- `desk_chain::chain::holder_above` meets its contract. The loop's invariant: the youngest holder among the places passed, and its number.
-- Assumes nothing.
use mathlib.Core.Path.{◌≡◌}
use lib.ListN.{get_or}
use Rattle.desk_chain.specs.Chains.{holder_above}
use Rattle.desk_chain.proofs.chain.holder_above.Given as goal

abbrev pub invariant-loop-q : goal.invariant-loop-q
invariant-loop-q l = (l.best ≡ holder_above l.b.number.now l.b.held.now l.c l.job l.q) × (l.age ≡ get_or l.b.number.now l.best l.job)
