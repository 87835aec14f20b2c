-- `desk_chain::chain::follow` meets its contract: the next job has fewer younger jobs, so the part behind the first place has room for its chain.
-- Assumes nothing.
use mathlib.Core.Path.{◌≡◌}
use native.Mathlib.Omega.{arith}
use lib.ListN.{length}
use Rattle.desk_chain.proofs.Looks.{chain_most}
use Rattle.desk_chain.proofs.Filling.{next_fewer, next_room, filled_next, filled_last}
use Rattle.desk_chain.proofs.chain.+follow.Goals as goal

pub follow-requires : goal.follow-requires
follow-requires t c =
    let n : length c.args.b.number.now ≡ 32 = omega arith in
    let e = c.next_at-q.ensures in
    let h = c.if-q-lt-PLACES.true in (
      omega (arith, next_fewer _ _ _ _ _ _ c.args.list.now n c.requires.number_in_bounds e h, c.decreases),
      (h, next_room _ _ _ _ _ _ c.args.list.now n c.requires.number_in_bounds e h),
    )

pub overflow_add-result : goal.overflow_add-result
overflow_add-result t c =
    let a = c.args in
    let f = filled_next _ _ _ _ _ _ _ (omega arith) c.requires.number_in_bounds c.next_at-q.ensures c.if-q-lt-PLACES.true _ c.follow.ensures.0 c.follow.ensures.1 in
    omega (arith, f.0, chain_most a.b.number.now a.b.status.now a.b.cell.now a.b.held.now a.p, c.requires.number_in_bounds)

pub returns-then-q-lt-PLACES : goal.returns-then-q-lt-PLACES
returns-then-q-lt-PLACES t c =
    filled_next _ _ _ _ _ _ _ (omega arith) c.requires.number_in_bounds c.next_at-q.ensures c.if-q-lt-PLACES.true _ c.follow.ensures.0 c.follow.ensures.1

pub returns : goal.returns
returns t c = filled_last _ _ _ _ _ _ _ (omega arith) c.requires.number_in_bounds c.next_at-q.ensures c.if-q-lt-PLACES.false
