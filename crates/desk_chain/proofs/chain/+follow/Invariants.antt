-- The proof of `desk_chain::chain::follow`, which calls itself. The measure is how many jobs are younger than the one at the place: each further look has fewer left.
-- Assumes nothing.
use lib.ListN.{get_or}
use Rattle.desk_rules.specs.Chain.{younger_than}
use Rattle.desk_chain.proofs.chain.+follow.Given as goal

abbrev pub decreases-follow : goal.decreases-follow
decreases-follow l = younger_than (get_or l.b.number.now l.p 0) l.b.number.now
