-- `desk::settling::settle_cell` meets its contract. The loop's invariant: so many grants have been tried as turns are counted. Once it stops early, further grants change nothing.
-- Assumes nothing.
use Rattle.desk_arrays.specs.Settling.{settle_cell}
use Rattle.desk.specs.InPlace.{Reached}
use Rattle.desk.proofs.Cells.{holds}
use Rattle.desk.proofs.settling.settle_cell.Given as goal

abbrev pub invariant-loop : goal.invariant-loop
invariant-loop l = Reached (settle_cell l.w.number.now l.w.cell.now l.w.ask.now l.c l.counter (holds l.initial.held l.initial.status l.initial.woken l.count)) l.initial.woken l.held l.status l.woken l.k
