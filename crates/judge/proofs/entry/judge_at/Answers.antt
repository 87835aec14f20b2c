-- `judge::entry::judge_at` meets its contract: place and length are those of the judgement's line, and the numbers are the verdict's.
-- Assumes nothing.
use Rattle.judge.proofs.Handing.{judged_small}
use Rattle.judge.proofs.entry.judge_at.Goals as goal

pub in_numbers-requires : goal.in_numbers-requires
in_numbers-requires c = search judged_small
