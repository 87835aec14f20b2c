-- `judge::entry::judge` meets its contract: the line's place is the judgement's, and the numbers are the verdict's.
-- Assumes nothing.
use Rattle.judge.proofs.Handing.{judged_small}
use Rattle.judge.proofs.entry.judge.Goals as goal

pub in_numbers-requires : goal.in_numbers-requires
in_numbers-requires c = search judged_small
