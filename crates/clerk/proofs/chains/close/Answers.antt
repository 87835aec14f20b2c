-- `clerk::chains::close` meets its contract: if there is room, what the view writes last is written.
-- Assumes nothing.
use Prim.Native.Nat.{◌+◌, ◌≤◌}
use native.Mathlib.Omega.{arith}
use borrow.Author.Tests.{not-true, not-false}
use lib.ListN.{length}
use Rattle.text_rules.proofs.WroteLaws.{wrote_none, wrote_as}
use Rattle.program_rules.specs.Closing.{closing_room}
use Rattle.program_rules.proofs.Ends.{closes_room, closes_put}
use Rattle.clerk.proofs.Cases.{last_none, last_chains}
use Rattle.clerk.proofs.chains.close.Goals as goal

pub returns-in-Answers : goal.returns-in-Answers
returns-in-Answers c =
    let room : c.args.at + closing_room c.args.view ≤ length c.args.out.now = closes_room c.args.view c.args.c c.args.out.now c.args.at c.closing_room.ensures c.has_room.ensures (search (not-true, not-false)) in
    closes_put _ _ _ _ c.closing_room.ensures c.has_room.ensures (search (not-true, not-false)) (wrote_as (wrote_none (omega (arith, room))) (search last_none))

pub returns-in-Chains : goal.returns-in-Chains
returns-in-Chains c = closes_put _ _ _ _ c.closing_room.ensures c.has_room.ensures (search (not-true, not-false)) (wrote_as c.put_waiting-to.ensures (search last_chains))
