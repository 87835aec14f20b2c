-- `text::writer::put_answer` meets its contract: each field goes into the part after the one before.
-- Assumes nothing.
use Rattle.std.proofs.Common.{[], ◌∷◌, ◌++◌, ap, ltb}
use Rattle.terms.specs.Words.{newline}
use Rattle.text_rules.specs.Records.{field}
use Rattle.text_rules.proofs.FieldLaws.{answer_is}
use Rattle.text_rules.proofs.WroteLaws.{wrote_as, wrote_more}
use Rattle.text.proofs.writer.put_answer.Goals as goal

pub returns : goal.returns
returns c =
    let w = wrote_more c.put_number-a.ensures c.put_second.ensures in
    let v = wrote_more w c.put_field.ensures in
    let e = wrote_as c.put_last.ensures (ap (λ n. field (ltb 0 n) c.args.fault ++ newline ∷ []) c.value.ensures) in
    rw (answer_is _ _ _ _) (wrote_more v e)
