-- `text::writer::write_field` meets its contract: a field that fits is written into the lent later part, and one that does not is refused.
-- Assumes nothing.
use Rattle.std.proofs.Common.{◌∙◌, ap, length, true, refl}
use Rattle.text_rules.specs.Records.{field}
use Rattle.text_rules.proofs.FieldLaws.{field_there}
use Rattle.text_rules.proofs.WroteLaws.{wrote_as}
use Rattle.text_rules.proofs.RoomLaws.{written_from, refused_there}
use Rattle.text.proofs.writer.write_field.Goals as goal

pub returns-then-not-has_room : goal.returns-then-not-has_room
returns-then-not-has_room c =
    refused_there _ _ _ _ c.has_room.ensures c.if-not-has_room.true
    (c.field_width.ensures ∙ ap (λ n. length (field true n)) c.new-number.ensures ∙ ap length (field_there true c.args.n refl))

pub returns : goal.returns
returns c =
    written_from _ _ _ c.has_room.ensures c.if-not-has_room.false
    (wrote_as c.put_field.ensures (ap (field true) c.new-number.ensures ∙ field_there true c.args.n refl))
