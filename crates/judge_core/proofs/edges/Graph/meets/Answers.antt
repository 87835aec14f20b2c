-- `judge_core::edges::Graph::meets` meets its contract. The lines left decide as all do; no last line of a kind passed conflicts.
-- Assumes nothing.
use Rattle.std.proofs.Common.{arith, ◌-◌}
use Rattle.std.proofs.lemmas.Bool.{not_from_false, not_from_true}
use Rattle.laws.specs.Choice.{was_true}
use Rattle.judge_core.proofs.ByParts.{its_reach}
use Rattle.judge_core.proofs.Searching.{at_member, meets_past, meets_found}
use Rattle.judge_core.proofs.Reaching.{reach_found, reach_none, passed_none, passed_cell}
use Rattle.judge_core.proofs.edges.Graph.meets.Goals as goal

pub outer-preserved-then-not-may_meet : goal.outer-preserved-then-not-may_meet
outer-preserved-then-not-may_meet c =
    let reach = its_reach _ _ _ _ _ _ _ c.args.self.now.worked _ c.requires.j_lt_slots.0 c.requires.j_lt_slots.1 in (
      c.outer.invariant.0,
      meets_past _ _ _ c.outer.i _ (omega arith) (omega arith) c.from-x.ensures
          (passed_none _ _ _ _ _ _ reach _ _ _ _ c.requires.masked (at_member _ _ _ (omega arith) c.from-x.ensures) c.may_meet.ensures (not_from_false c.may_meet.result c.if-not-may_meet.true))
          c.outer.invariant.1,
    )

pub outer-preserved : goal.outer-preserved
outer-preserved c =
    let reach = its_reach _ _ _ _ _ _ _ c.args.self.now.worked _ c.requires.j_lt_slots.0 c.requires.j_lt_slots.1 in
    (c.loop-kind.invariant.0, meets_past _ _ _ c.outer.i _ (omega arith) (omega arith) c.from-x.ensures (reach_none _ _ _ _ _ _ reach _ (λ y h. c.loop-kind.invariant.1 y (omega arith))) c.outer.invariant.1)

pub meets_last-requires : goal.meets_last-requires
meets_last-requires c = (
  omega (arith, c.requires.j_lt_slots.2.known (c.outer.i - 1)),
  omega arith,
  omega arith,
  passed_cell _ _ _ _ _ _ c.may_meet.ensures (not_from_true c.may_meet.result c.if-not-may_meet.false),
)

pub returns-then-meets_last : goal.returns-then-meets_last
returns-then-meets_last c =
    let reach = its_reach _ _ _ _ _ _ _ c.args.self.now.worked _ c.requires.j_lt_slots.0 c.requires.j_lt_slots.1 in
    meets_found _ _ _ c.outer.i _ (omega arith) (omega arith) c.from-x.ensures
    (reach_found _ _ _ _ _ _ reach _ _ (omega arith) (passed_cell _ _ _ _ _ _ c.may_meet.ensures (not_from_true c.may_meet.result c.if-not-may_meet.false)) (was_true _ c.meets_last.ensures c.if-meets_last.true))
    c.outer.invariant.1
