-- `desk_plan::places::older_than_waiters` meets its contract: the test is made at every place, up to one where it fails.
-- Assumes nothing.
use Prim.Native.Nat.{ℕ}
use mathlib.Core.Bool.{Bool, not, ◌||◌}
use lib.Dec.{ltb}
use lib.ListN.{get_or}
use Rattle.desk_arrays.specs.Places.{waits_at, oldest_of}
use borrow.Author.Rules.{rules}
use Rattle.std.proofs.iter.runs.Sources.{ranges}
use Rattle.desk_plan.proofs.Every.{all_decided}
use Rattle.desk_plan.proofs.places.older_than_waiters.Goals as goal

pub returns : goal.returns
unfolding oldest_of
returns c =
    let f : ℕ → Bool = λ q. not (waits_at c.args.b.status.now c.args.b.cell.now c.args.c q) || ltb c.args.job (get_or c.args.b.number.now q 0) in
    all_decided f c.all.result (search (rules, ranges))
