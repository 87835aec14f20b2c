-- `desk_io::put_unread` meets its contract: answers and history end, and no chain is told.
-- Assumes nothing.
use mathlib.Core.Path.{refl}
use borrow.Author.Rules.{rules}
use Rattle.desk_io.proofs.Rest.{rests_told}
use Rattle.desk_io.proofs.put_unread.Goals as goal

pub returns-in-Answers : goal.returns-in-Answers
returns-in-Answers c = rests_told _ _ (search rules) c.put_ended.ensures.0 c.put_ended.ensures.1 refl (search rules)
