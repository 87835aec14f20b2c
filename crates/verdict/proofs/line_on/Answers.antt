-- `verdict::line_on` meets its contract: the reporter tells the line's length and leaves the line in the first places.
-- Assumes nothing.
use Rattle.verdict.proofs.Written.{line_before, place_within}
use Rattle.verdict.proofs.line_on.Goals as goal

pub slice_bounds-result-end : goal.slice_bounds-result-end
slice_bounds-result-end c = place_within _ _ _ c.requires c.verdict_line.ensures.0 c.verdict_line.ensures.1 c.unwrap_or-next.ensures

pub returns : goal.returns
returns c = line_before _ _ _ c.requires c.verdict_line.ensures.0 c.verdict_line.ensures.1 c.unwrap_or-next.ensures
