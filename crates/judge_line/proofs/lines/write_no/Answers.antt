-- `judge_line::lines::write_no` meets its contract: a line that fits is written field by field; a line that does not is refused.
-- Assumes nothing.
use Rattle.std.proofs.Common.{arith}
use Rattle.terms.specs.declared.words.Word.TheVariants.{No}
use Rattle.text_rules.specs.Records.{given}
use Rattle.text_rules.proofs.RoomLaws.{written, refused}
use Rattle.text_rules.proofs.WroteLaws.{wrote_as, wrote_then}
use Rattle.judge_line.proofs.WordLines.{two_numbers, two_numbers_length}
use Rattle.judge_line.proofs.lines.write_no.Goals as goal

pub returns-then-width-given_width : goal.returns-then-width-given_width
returns-then-width-given_width c =
    let w = wrote_then (wrote_then c.put_word-a.ensures c.put_field-b.ensures) c.put_field-c.ensures in
    written (wrote_as (wrote_then (wrote_then w c.put_given-d.ensures) c.put_end.ensures) (two_numbers No _ _ _))

pub returns-else-width-given_width : goal.returns-else-width-given_width
returns-else-width-given_width c = refused _ _ _ (omega (arith, two_numbers_length No c.args.line c.args.number (given c.args.fault)))
