-- `text::writer::write_number` meets its contract: a number that fits is written into the lent later part, and one that does not is refused.
-- Assumes nothing.
use Rattle.std.proofs.Common.{ap}
use Rattle.text_rules.specs.Decimal.{decimal}
use Rattle.text_rules.proofs.WroteLaws.{wrote_as}
use Rattle.text_rules.proofs.RoomLaws.{written_from, refused_there}
use Rattle.text.proofs.writer.write_number.Goals as goal

pub returns-then-not-has_room : goal.returns-then-not-has_room
returns-then-not-has_room c = refused_there _ _ _ _ c.has_room.ensures c.if-not-has_room.true (cc)

pub returns : goal.returns
returns c = written_from _ _ _ c.has_room.ensures c.if-not-has_room.false (wrote_as c.put_number.ensures (ap decimal c.new-number.ensures))
