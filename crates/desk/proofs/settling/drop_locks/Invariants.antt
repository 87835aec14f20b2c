-- `desk::settling::drop_locks` meets its contract. The loop's invariant: the locks on the cells passed are dropped.
-- Assumes nothing.
use mathlib.Core.Path.{◌≡◌}
use Rattle.desk_arrays.specs.Settling.{dropped_by}
use Rattle.desk.proofs.settling.drop_locks.Given as goal

abbrev pub invariant-loop-c : goal.invariant-loop-c
invariant-loop-c l = l.held ≡ dropped_by l.initial.held l.p l.c
