-- `judge_core::edges::apart` meets its contract: one list is empty, or the last line of one is compared with the first of the other.
-- Assumes nothing.
use Rattle.std.proofs.Common.{arith}
use Rattle.std.proofs.lemmas.Grind.{common_steps}
use Rattle.judge_core.proofs.Reaching.{apart_empty'}
use Rattle.judge_core.proofs.edges.apart.Goals as goal

pub returns-in_default-last : goal.returns-in_default-last
returns-in_default-last c = λ t. apart_empty' _ _ c.requires.0 c.requires.1 (grind (arith, common_steps))
