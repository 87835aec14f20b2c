-- `text::writer::write_word` meets its contract: a word that fits is written into the lent later part, and one that does not is refused.
-- Assumes nothing.
use Rattle.std.proofs.Common.{ap, length}
use Rattle.text_rules.proofs.RoomLaws.{written_from, refused_there}
use Rattle.text.proofs.writer.write_word.Goals as goal

pub returns-then-not-has_room : goal.returns-then-not-has_room
returns-then-not-has_room c = refused_there _ _ _ _ c.has_room.ensures c.if-not-has_room.true (ap length c.spelled.ensures)

pub returns : goal.returns
returns c = written_from _ _ _ c.has_room.ensures c.if-not-has_room.false c.put_word.ensures
