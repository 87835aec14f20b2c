-- `desk_io::put_rest` meets its contract, by why no more is read.
-- Assumes nothing.
use Rattle.desk_io.proofs.Rest.{rests_ended, rests_read}
use borrow.Author.Rules.{rules}
use borrow.Author.Rules.{rules}
use Rattle.desk_io.proofs.put_rest.Goals as goal

pub returns-in-Ended : goal.returns-in-Ended
returns-in-Ended c = rests_ended _ _ (search rules) c.put_ended.ensures.0 c.put_ended.ensures.1 (search rules)

pub returns-in-AllRead : goal.returns-in-AllRead
returns-in-AllRead c = rests_read _ _ (search rules) c.put_closed.ensures.0 c.put_closed.ensures.1 (search rules) (search rules)
