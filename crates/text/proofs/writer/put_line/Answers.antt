-- `text::writer::put_line` meets its contract: each field goes into the part after the one before.
-- Assumes nothing.
use Rattle.std.proofs.Common.{[], ◌∷◌, ◌++◌, ap}
use Rattle.terms.specs.Words.{newline}
use Rattle.text_rules.specs.Records.{field}
use Rattle.text_rules.proofs.FieldLaws.{line_is}
use Rattle.text_rules.proofs.WroteLaws.{wrote_as, wrote_more}
use Rattle.text.proofs.writer.put_line.Goals as goal

pub returns : goal.returns
returns c =
    let l = wrote_as c.put_byte-a.ensures (ap (λ x. x ∷ []) c.from.ensures) in
    let j = wrote_as c.put_field.ensures (ap (λ b. field b c.args.job) c.has_job.ensures) in
    let e = wrote_as c.put_last.ensures (ap (λ b. field b c.args.cell ++ newline ∷ []) c.has_cell.ensures) in
    rw (line_is _ _ _) (wrote_more (wrote_more l j) e)
