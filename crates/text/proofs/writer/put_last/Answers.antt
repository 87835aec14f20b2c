-- `text::writer::put_last` meets its contract: the newline stands right after the field.
-- Assumes nothing.
use Rattle.std.proofs.Common.{arith}
use Rattle.terms.specs.Words.{newline}
use Rattle.text_rules.proofs.WroteLaws.{wrote_byte}
use Rattle.text.proofs.writer.put_last.Goals as goal

pub returns : goal.returns
returns c = wrote_byte newline c.put_field-end.ensures (omega (arith, c.put_field-end.ensures.ends))
