-- `clerk::records::put_line` meets its contract: the record fits.
-- Assumes nothing.
use borrow.Author.Rules.{rules}
use Rattle.text_rules.specs.Records.{longest_record}
use Rattle.clerk.proofs.Adding.{added_next, fits_told, line_at_most_24}
use Rattle.clerk.proofs.records.put_line.Goals as goal

pub unwrap-requires : goal.unwrap-requires
unwrap-requires c = fits_told _ _ _ longest_record c.write_line.ensures.0 (line_at_most_24 _ _ _ (search rules) (search rules)) c.requires

pub returns : goal.returns
returns c =
    let e = c.write_line.ensures in
    let j = c.from.ensures in
    let k = c.from-2.ensures in
    rw (← j, ← k) (added_next e.0 c.unwrap.ensures e.1 (line_at_most_24 _ _ _ (search rules) (search rules)))
