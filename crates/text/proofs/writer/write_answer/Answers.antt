-- `text::writer::write_answer` meets its contract: a record that fits is written into the lent later part, and one that does not is refused.
-- Assumes nothing.
use Rattle.std.proofs.Common.{◌≡◌, ◌∙◌, ℕ, ◌-◌, List, length, ap, true, ltb, arith}
use borrow.Author.Rules.{part_to_end}
use borrow.Rule.Slice.PartMut.{mid_of}
use lib.ListN.{length-drop}
use Rattle.text_rules.specs.Decimal.{decimal}
use Rattle.text_rules.specs.Records.{field, answer_record}
use Rattle.text_rules.proofs.Length.{answer_length}
use Rattle.text_rules.proofs.RoomLaws.{room_for, written_from, refused_there}
use Rattle.text_rules.proofs.WroteLaws.{wrote_as}
use Rattle.text.proofs.writer.write_answer.Goals as goal

pub returns-then-not-has_room : goal.returns-then-not-has_room
returns-then-not-has_room c =
    let s = c.args in
    let d : c.digits.result ≡ length (decimal s.line) = cc in
    let f : c.field_width.result ≡ length (field true s.number) = cc in
    let g : c.field_width-2.result ≡ length (field (ltb 0 s.fault) s.fault) = cc in
    refused_there _ _ _ _ c.has_room.ensures c.if-not-has_room.true (omega (arith, answer_length s.line s.word s.number s.fault, ap length c.spelled.ensures))

-- how many bytes a lent later part has, wherever it begins
part_length : (b : List ℕ) (a : ℕ) → length (mid_of a (length b - a) b) ≡ length b - a
part_length b a = ap length (part_to_end b a) ∙ length-drop a b

pub put_answer-requires : goal.put_answer-requires
put_answer-requires c =
    let s = c.args in
    let r = answer_record c.new-first.result s.word c.new-third.result c.new-fourth.result in
    let e : answer_record s.line s.word s.number s.fault ≡ r = cc in
    let d : c.digits.result ≡ length (decimal s.line) = cc in
    let f : c.field_width.result ≡ length (field true s.number) = cc in
    let g : c.field_width-2.result ≡ length (field (ltb 0 s.fault) s.fault) = cc in
    let h = room_for _ _ _ (length r) c.has_room.ensures c.if-not-has_room.false (omega (arith, answer_length s.line s.word s.number s.fault, ap length c.spelled.ensures, ap length e)) in
    omega (arith, h, part_length)

pub returns : goal.returns
returns c =
    let s = c.args in
    let e : answer_record c.new-first.result s.word c.new-third.result c.new-fourth.result ≡ answer_record s.line s.word s.number s.fault = cc in
    written_from _ _ _ c.has_room.ensures c.if-not-has_room.false (wrote_as c.put_answer.ensures e)
