-- `desk_plan::places::older_than_holders` meets its contract: the test is made at every place, up to one where it fails.
-- Assumes nothing.
use Prim.Native.Nat.{ℕ}
use mathlib.Core.Bool.{Bool, ◌||◌}
use lib.Dec.{eqb, ltb}
use lib.ListN.{get_or}
use Rattle.conflict.specs.Modes.{is_free}
use Rattle.desk_arrays.specs.Places.{mode_at, older_at}
use borrow.Author.Rules.{rules}
use Rattle.std.proofs.iter.runs.Sources.{ranges}
use Rattle.desk_plan.proofs.Every.{all_decided}
use Rattle.desk_plan.proofs.places.older_than_holders.Goals as goal

pub returns : goal.returns
unfolding older_at
returns c =
    let f : ℕ → Bool = λ q. eqb q c.args.p || (is_free (mode_at c.args.b.held.now c.args.c q) || ltb c.args.job (get_or c.args.b.number.now q 0)) in
    all_decided f c.all.result (search (rules, ranges))
