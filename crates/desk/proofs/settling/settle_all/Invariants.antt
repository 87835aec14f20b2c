-- `desk::settling::settle_all` meets its contract. The loop's invariant: the cells passed are settled.
-- Assumes nothing.
use mathlib.Core.List.{[]}
use Rattle.desk_arrays.specs.Settling.{settle_all}
use Rattle.desk.specs.InPlace.{Reached}
use Rattle.desk.proofs.settling.settle_all.Given as goal

abbrev pub invariant-loop-c : goal.invariant-loop-c
invariant-loop-c l = Reached (settle_all l.w.number.now l.w.cell.now l.w.ask.now l.c (record { held = l.initial.held; status = l.initial.status; woken = [] })) l.initial.woken l.held l.status l.woken l.k
