-- `desk::settling::settle_all` meets its contract: one cell more is settled, or nobody waits for it.
-- Assumes nothing.
use Prim.Native.Nat.{◌≤◌}
use mathlib.Core.List.{[]}
use native.Mathlib.Omega.{arith}
use Rattle.terms.specs.Limits.{places}
use Rattle.desk_arrays.specs.Places.{waiters}
use Rattle.desk_arrays.specs.Settling.{Settling}
use Rattle.desk_arrays.proofs.WaitingCount.{waiters_most}
use Rattle.desk.proofs.Room.{room}
use Rattle.desk.proofs.Cells.{reached_by, cells_room, cells_settled, cells_passed}
use Rattle.desk.proofs.settling.settle_all.Goals as goal
use Rattle.desk.proofs.settling.settle_all.Goals.{then-wanted, else-wanted}

pub settle_cell-k-requires : goal.settle_cell-k-requires
settle_cell-k-requires c =
    let s : Settling = record { held = c.args.held.now; status = c.args.status.now; woken = [] } in
    let f : waiters c.args.status.now 32 ≤ 32 = waiters_most c.args.status.now 32 in
    let b : room s ≤ places = omega arith in
    (omega arith, cells_room _ _ _ s _ c.loop-c.invariant b)

pub loop-c-preserved : goal.loop-c-preserved
loop-c-preserved c =
    elim c.if-wanted.branch [
      | then-wanted w ↦ reached_by (cells_settled _ _ _ _ _ c.loop-c.invariant w.settle_cell-k.ensures) w.held-is w.status-is w.woken-is w.k-is
      | else-wanted w ↦ reached_by (cells_passed _ _ _ _ _ c.loop-c.invariant c.wanted_cells-cells.ensures (omega arith) w.if-wanted.false) w.held-is w.status-is w.woken-is w.k-is
    ]
