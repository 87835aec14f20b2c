-- No second result and no second buffer meets the contract of a function of the record writer.
-- Assumes nothing.
use mathlib.Core.Path.{sym, ◌∙◌}
use Rattle.laws.specs.Unique.{Unique, UniqueLent}
use Rattle.text.proofs.writer.width.Reads as width
use Rattle.text.proofs.writer.width.Kinds as widthK
use Rattle.text.proofs.writer.has_room.Reads as has_room
use Rattle.text.proofs.writer.has_room.Kinds as has-roomK
use Rattle.text.proofs.writer.write_answer.Reads as write-answer
use Rattle.text.proofs.writer.write_answer.Kinds as write-answerK
use Rattle.text.proofs.writer.write_line.Reads as write_line
use Rattle.text.proofs.writer.write_line.Kinds as write-lineK
use Rattle.text.proofs.writer.write_word.Reads as write_word
use Rattle.text.proofs.writer.write_word.Kinds as write-wordK
use Rattle.text.proofs.writer.write_number.Reads as write-number
use Rattle.text.proofs.writer.write_number.Kinds as write-numberK
use Rattle.text.proofs.writer.write_field.Reads as write-field
use Rattle.text.proofs.writer.write_field.Kinds as write-fieldK
use Rattle.text.proofs.writer.write_end.Reads as write-end
use Rattle.text.proofs.writer.write_end.Kinds as write-endK

-- how many digits a number has
pub width_unique : Unique widthK.ps widthK.r width.Post
width_unique κs a x y e f p q = p ∙ sym q

-- whether that many bytes fit from a place on
pub has_room_unique : Unique has-roomK.ps has-roomK.r has_room.Post
has_room_unique κs a x y e f p q = p ∙ sym q

-- what writing an answer record tells, and what the buffer then holds
pub write_answer_unique : UniqueLent write-answerK.ps write-answerK.r write-answer.Post (λ κs e. e.0.now)
write_answer_unique κs a x y e f p q = (p.0 ∙ sym q.0, p.1 ∙ sym q.1)

-- what writing a letter's line tells, and what the buffer then holds
pub write_line_unique : UniqueLent write-lineK.ps write-lineK.r write_line.Post (λ κs e. e.0.now)
write_line_unique κs a x y e f p q = (p.0 ∙ sym q.0, p.1 ∙ sym q.1)

-- what writing a word tells, and what the buffer then holds
pub write_word_unique : UniqueLent write-wordK.ps write-wordK.r write_word.Post (λ κs e. e.0.now)
write_word_unique κs a x y e f p q = (p.0 ∙ sym q.0, p.1 ∙ sym q.1)

-- what writing a number tells, and what the buffer then holds
pub write_number_unique : UniqueLent write-numberK.ps write-numberK.r write-number.Post (λ κs e. e.0.now)
write_number_unique κs a x y e f p q = (p.0 ∙ sym q.0, p.1 ∙ sym q.1)

-- what writing a further field tells, and what the buffer then holds
pub write_field_unique : UniqueLent write-fieldK.ps write-fieldK.r write-field.Post (λ κs e. e.0.now)
write_field_unique κs a x y e f p q = (p.0 ∙ sym q.0, p.1 ∙ sym q.1)

-- what writing the newline that ends a line tells, and what the buffer then holds
pub write_end_unique : UniqueLent write-endK.ps write-endK.r write-end.Post (λ κs e. e.0.now)
write_end_unique κs a x y e f p q = (p.0 ∙ sym q.0, p.1 ∙ sym q.1)
