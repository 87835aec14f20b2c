-- `text::writer::write_line` meets its contract: a line that fits is written into the lent later part, and one that does not is refused.
-- Assumes nothing.
use Rattle.std.proofs.Common.{◌≡◌, length, arith}
use Rattle.terms.specs.Letters.{has_job, has_cell}
use Rattle.text_rules.specs.Records.{field, line_record}
use Rattle.text_rules.proofs.Length.{line_length}
use Rattle.text_rules.proofs.FieldLaws.{line_is}
use Rattle.text_rules.proofs.RoomLaws.{written_from, refused_there}
use Rattle.text_rules.proofs.WroteLaws.{wrote_as}
use Rattle.text.proofs.writer.write_line.Goals as goal

pub returns-then-not-has_room : goal.returns-then-not-has_room
returns-then-not-has_room c =
    let s = c.args in
    let h : field (has_job s.letter) c.of_field-second.result ≡ field (has_job s.letter) s.job = cc in
    let k : field (has_cell s.letter) c.of_field-third.result ≡ field (has_cell s.letter) s.cell = cc in
    let f : c.field_width.result ≡ length (field (has_job s.letter) s.job) = cc in
    let g : c.field_width-2.result ≡ length (field (has_cell s.letter) s.cell) = cc in
    refused_there _ _ _ _ c.has_room.ensures c.if-not-has_room.true (omega (arith, line_length s.letter s.job s.cell))

pub returns : goal.returns
returns c =
    let s = c.args in
    let h : field (has_job s.letter) c.of_field-second.result ≡ field (has_job s.letter) s.job = cc in
    let k : field (has_cell s.letter) c.of_field-third.result ≡ field (has_cell s.letter) s.cell = cc in
    let e : line_record s.letter c.of_field-second.result c.of_field-third.result ≡ line_record s.letter s.job s.cell = rw (line_is s.letter c.of_field-second.result c.of_field-third.result, line_is s.letter s.job s.cell, h, k) in
    written_from _ _ _ c.has_room.ensures c.if-not-has_room.false (wrote_as c.put_line.ensures e)
