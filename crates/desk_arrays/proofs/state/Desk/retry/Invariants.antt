-- `desk_arrays::state::Desk::retry` meets its contract. The loop's invariant: the desk is unchanged, and the search among the places not yet passed finds the job's place.
-- Assumes nothing.
use Prim.Native.Nat.{◌+◌}
use mathlib.Core.Path.{◌≡◌}
use lib.ListN.{length, drop}
use Rattle.laws.specs.Lists.{pos}
use Rattle.desk_arrays.proofs.state.Desk.retry.Given as goal

abbrev pub invariant-loop-p : goal.invariant-loop-p
invariant-loop-p l = (length l.self.number ≡ 32) × (l.self ≡ l.initial.self) × (l.p + pos (drop l.p l.self.number) l.job ≡ pos l.self.number l.job)
