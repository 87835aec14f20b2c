-- `clerk::records::put_answer` meets its contract: the record fits.
-- Assumes nothing.
use Rattle.text_rules.proofs.Length.{answer_at_most_24}
use Rattle.text_rules.specs.Records.{longest_record}
use Rattle.clerk.proofs.Adding.{added_next, fits_told}
use Rattle.clerk.proofs.records.put_answer.Goals as goal

pub unwrap-requires : goal.unwrap-requires
unwrap-requires c = fits_told _ _ _ longest_record c.write_answer.ensures.0 (answer_at_most_24 _ _ _ _ c.args.h.numbered c.requires.0 c.requires.1.0 c.requires.1.1 c.requires.1.2) c.requires.2

pub returns : goal.returns
returns c = added_next c.write_answer.ensures.0 c.unwrap.ensures c.write_answer.ensures.1 (answer_at_most_24 _ _ _ _ c.args.h.numbered c.requires.0 c.requires.1.0 c.requires.1.1 c.requires.1.2)
