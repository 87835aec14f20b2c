-- `desk::settling::settle_cell` meets its contract: a grant is a place with room for its wake; once nobody is granted, further grants change nothing.
-- Assumes nothing.
use Prim.Native.Nat.{◌<◌}
use mathlib.Core.Path.{◌≡◌}
use native.Mathlib.Omega.{arith}
use lib.ListN.{length, take}
use lib.Seq.{length-take-le}
use Rattle.desk.proofs.Cells.{cell_stops, turn_place, turn_room, turn_granted}
use Rattle.desk.proofs.settling.settle_cell.Goals as goal

pub returns-in_default : goal.returns-in_default
returns-in_default c = cell_stops _ _ _ _ _ c.requires.0 _ c.loop.invariant c.front_grant.ensures c.in_default.is (omega arith)

pub overflow_add-held : goal.overflow_add-held
overflow_add-held c =
    let b : c.in-Some.p < 32 = turn_place _ _ _ _ _ c.requires.0 _ c.loop.invariant c.front_grant.ensures c.in-Some.is in
    omega arith

pub bounds-held-c : goal.bounds-held-c
bounds-held-c c =
    let b : c.in-Some.p < 32 = turn_place _ _ _ _ _ c.requires.0 _ c.loop.invariant c.front_grant.ensures c.in-Some.is in
    omega arith

pub bounds-status-p : goal.bounds-status-p
bounds-status-p c = turn_place _ _ _ _ _ c.requires.0 _ c.loop.invariant c.front_grant.ensures c.in-Some.is

pub overflow_cast-woken : goal.overflow_cast-woken
overflow_cast-woken c =
    let b : c.in-Some.p < 32 = turn_place _ _ _ _ _ c.requires.0 _ c.loop.invariant c.front_grant.ensures c.in-Some.is in
    omega arith

pub bounds-woken-k : goal.bounds-woken-k
bounds-woken-k c =
    let e : length (take c.args.count c.args.woken.now) ≡ c.args.count = length-take-le c.args.count c.args.woken.now (omega arith) in
    turn_room _ _ _ _ _ c.requires.0 _ c.loop.invariant c.front_grant.ensures c.in-Some.is (rw e c.requires.1)

pub loop-preserved : goal.loop-preserved
loop-preserved c =
    let e : length (take c.args.count c.args.woken.now) ≡ c.args.count = length-take-le c.args.count c.args.woken.now (omega arith) in
    let b : c.loop.k < 32 = turn_room _ _ _ _ _ c.requires.0 _ c.loop.invariant c.front_grant.ensures c.in-Some.is (rw e c.requires.1) in
    turn_granted _ _ _ _ _ c.requires.0 _ c.loop.invariant c.front_grant.ensures c.in-Some.is c.from.ensures (omega arith)
