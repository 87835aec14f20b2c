-- `judge_core::decide::take_jobs` meets its contract: the passes give the edges by the lines, which say of the jobs with a c what the precedence graph says.
-- Assumes nothing.
use Rattle.std.proofs.Common.{ap, length, ◌∙◌}
use Rattle.judge_core.proofs.JobFlags.{took}
use Rattle.judge_core.proofs.Placing.{parted, part_is}
use Rattle.judge_core.proofs.Assembled.{starts_fit, starts_spaced, edges_agree, rest_same, known_same}
use Rattle.judge_core.proofs.SameEdges.{order_same}
use Rattle.judge_core.proofs.Workings.{acting, worked}
use Rattle.judge_core.proofs.decide.take_jobs.Goals as goal

pub starts-start-requires : goal.starts-start-requires
starts-start-requires c = starts_fit _ _ _ c.args.history.few c.tallies-count.ensures

pub grouped-lines-requires : goal.grouped-lines-requires
grouped-lines-requires c = (c.args.history.few, starts_spaced _ _ _ _ c.args.history.few c.tallies-count.ensures c.starts-start.ensures)

pub invariant_of-graph : goal.invariant_of-graph
invariant_of-graph c =
    let few = c.args.history.few in
    let spaced' = starts_spaced _ _ _ _ few c.tallies-count.ensures c.starts-start.ensures in
    let grouped' = c.grouped-lines.ensures in
    record {
      worked = worked _ _ _ _ _ (acting _ _ _ _ _ _ few c.committed_jobs-jobs.ensures.bytes c.args.history.celled c.owners-owner.ensures) _ c.cells_of-sets.ensures _ _ _ (parted _ _ _ _ spaced' grouped') (part_is _ _ _ _ spaced' grouped') c.last_lines-lasts.ensures;
    }

pub returns : goal.returns
returns c =
    let few = c.args.history.few in
    let jobs' = c.committed_jobs-jobs.ensures in
    let agree = edges_agree _ _ _ _ _ _ _ _ _ few jobs'.bytes jobs'.value c.counted_from-since.ensures c.owners-owner.ensures (starts_spaced _ _ _ _ few c.tallies-count.ensures c.starts-start.ensures) c.grouped-lines.ensures in
    let taken = c.take_away.ensures in
    let same' = order_same _ _ _ agree in
    took _ _ _ _ jobs'.bytes _ jobs'.value _ _ _ _ (rest_same _ _ _ _ agree taken.left_after) (taken.placed_after.0 ∙ same') (taken.placed_after.1 ∙ ap length same') (known_same _ _ _ _ agree taken.left_after _ taken.known)
