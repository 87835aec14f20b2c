-- `judge_core::edges::Graph::edge_between` meets its contract: by the definition's own test, or because the sets do not meet.
-- Assumes nothing.
use Rattle.judge_core.proofs.ByParts.{edge_parts, masked_apart, its_mask}
use Rattle.judge_core.proofs.edges.Graph.edge_between.Goals as goal

pub returns-then-mask-eq0 : goal.returns-then-mask-eq0
returns-then-mask-eq0 c =
    let pre = c.requires in
    edge_parts _ _ _ _ _ _ _ c.if-i-j.false _ (masked_apart _ _ _ _ _ _ c.if-mask-eq0.true (its_mask _ _ _ _ _ _ _ c.args.self.now.worked _ _ _ _ _ pre.0 pre.1 pre.2 pre.3 c.touched.ensures c.touched-2.ensures c.meeting_cells-mask.ensures))

pub meets-requires-clause-masked : goal.meets-requires-clause-masked
meets-requires-clause-masked c =
    let pre = c.requires in
    rw c.part.ensures (its_mask _ _ _ _ _ _ _ c.args.self.now.worked _ _ _ _ _ pre.0 pre.1 pre.2 pre.3 c.touched.ensures c.touched-2.ensures c.meeting_cells-mask.ensures)
