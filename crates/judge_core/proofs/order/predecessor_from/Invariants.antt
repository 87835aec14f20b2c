-- `judge_core::order::predecessor_from` meets its contract. The loop's invariant: the search from i on finds the same predecessor.
-- Assumes nothing.
use Rattle.std.proofs.Common.{◌≡◌}
use Rattle.judge_rules.specs.Order.{first}
use Rattle.judge_core.specs.Edges.{edges_of}
use Rattle.judge_core.specs.Left.{left_from}
use Rattle.judge_core.proofs.order.predecessor_from.Given as goal

abbrev pub invariant-loop-i : goal.invariant-loop-i
invariant-loop-i l = first (λ k. edges_of l.graph k l.j) (left_from l.left l.from) ≡ first (λ k. edges_of l.graph k l.j) (left_from l.left l.i)
