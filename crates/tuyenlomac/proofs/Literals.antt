-- What callers are told and what they pass in, as literal numbers and bytes: wakes, answers, words, lines and records, each shown on an example that any other reading of the numbers makes false (01, Lines; 01, rule 4; 02, No. 5).
-- Assumes nothing.
use Rattle.std.specs.Prelude.{None, Some, Ok, Err}
use Prim.Native.Nat.{ℕ}
use mathlib.Core.Path.{◌≡◌, refl}
use mathlib.Core.List.{List, [], ◌∷◌, map}
use Rattle.laws.specs.Lists.{filled}
use Rattle.terms.specs.declared.words.Word.TheVariants.{Go, Wait, Back, No, Wake}
use Rattle.terms.specs.declared.refusals.Refusal.TheVariants.{NotOpen, NoRoom}
use Rattle.terms.specs.Letters.{letter_of, of_requests}
use Rattle.conflict.specs.declared.action.Kind.TheVariants.{Read, Write, Increment}
use Rattle.text_rules.specs.Decimal.{digits_in, decimal}
use Rattle.text_rules.specs.EventRecords.{ask_by}
use Rattle.text_rules.specs.Lines.{parts, field_ahead, after_field, is_digit, digits_only, value_from, shortest, is_number, number_then, ending, cell_part, job_part, letter_in, letter_part, read_line}
use Rattle.text_rules.specs.Quoted.{bytes}
use Rattle.text_rules.specs.Records.{tabbed, word_line, given, answer_record, field, line_record, fits, told, left}
use Rattle.desks.specs.declared.Answer.TheVariants.{Go as goes, Wait as waits, Back as back, No as refuses}
use Rattle.desks.specs.AnswerWords.{word_of, number_beside}
use Rattle.tuyenlomac.specs.Desks.{lists_of, kind_byte, wakes_in}
use Rattle.tuyenlomac.specs.Numbers.{word_at, in_three}
use Rattle.tuyenlomac.specs.Texts.{line_in, written_numbers, answer_bytes, line_bytes, told_of, left_of}

-- three wakes in three lists of four places: their jobs, their cells, and r, w or i as bytes; the fourth place of each stays
pub wakes_are :
    wakes_in (record { job = 7; cell = 5; kind = Read } ∷ record { job = 8; cell = 0; kind = Write } ∷ record { job = 9; cell = 63; kind = Increment } ∷ [])
    (lists_of (1 ∷ 1 ∷ 1 ∷ 1 ∷ []) (2 ∷ 2 ∷ 2 ∷ 2 ∷ []) (3 ∷ 3 ∷ 3 ∷ 3 ∷ []))
    ≡ lists_of (7 ∷ 8 ∷ 9 ∷ 1 ∷ []) (5 ∷ 0 ∷ 63 ∷ 2 ∷ []) (114 ∷ 119 ∷ 105 ∷ 3 ∷ [])
unfolding wakes_in kind_byte ask_by filled
wakes_are = refl

-- answers: 0 go, 1 wait and 2 back with the job, 3 no with the refusal; and the number of wakes
pub answers_are :
    in_three (goes 7) 2 ∷ in_three (waits 7) 0 ∷ in_three (back 7) 1 ∷ in_three (refuses NotOpen) 0 ∷ []
    ≡ record { word = 0; number = 7; wakes = 2 } ∷ record { word = 1; number = 7; wakes = 0 } ∷ record { word = 2; number = 7; wakes = 1 } ∷ record { word = 3; number = 3; wakes = 0 } ∷ []
unfolding in_three word_of number_beside
answers_are = refl

-- words that a record may have: 0 to 4, the last being wake; 5, the first of the judge's words, is not one
pub words_are : map word_at (0 ∷ 1 ∷ 2 ∷ 3 ∷ 4 ∷ 5 ∷ []) ≡ Some Go ∷ Some Wait ∷ Some Back ∷ Some No ∷ Some Wake ∷ None ∷ []
words_are = refl

-- what lines say: a write of job 7 at cell 5; a commit of job 7; a begin; the field at fault of a line that lacks its cell
pub lines_are :
    map (λ l. line_in (read_line of_requests (bytes l))) ("w\t7\t5\n" ∷ "c\t7\n" ∷ "b\n" ∷ "r\t7\n" ∷ [])
    ≡ record { job = 7; cell = 5; kind = 119; field = 0 } ∷ record { job = 7; cell = 0; kind = 99; field = 0 } ∷ record { job = 0; cell = 0; kind = 98; field = 0 } ∷ record { job = 0; cell = 0; kind = 0; field = 3 } ∷ []
unfolding line_in bytes parts field_ahead after_field is_digit digits_only value_from shortest is_number number_then ending cell_part job_part letter_in letter_part read_line
lines_are = refl

-- answer records: the line's number, the word, the number, and the field at fault if it is not 0; a number that stands for no word has no record
pub answer_bytes_are :
    answer_bytes 12 (word_at 1) 7 0 ∷ answer_bytes 8 (word_at 4) 2 0 ∷ answer_bytes 3 (word_at 3) 9 2 ∷ answer_bytes 12 (word_at 5) 7 0 ∷ []
    ≡ Some (bytes "12\twait\t7\n") ∷ Some (bytes "8\twake\t2\n") ∷ Some (bytes "3\tno\t9\t2\n") ∷ None ∷ []
unfolding answer_bytes answer_record word_line tabbed given decimal digits_in bytes
answer_bytes_are = refl

-- lines of letters, with the job and the cell that the letter has; a byte that is not a letter's has no line
pub line_bytes_are :
    line_bytes (letter_of 119) 7 5 ∷ line_bytes (letter_of 107) 7 5 ∷ line_bytes (letter_of 98) 7 5 ∷ line_bytes (letter_of 120) 7 5 ∷ []
    ≡ Some (bytes "w\t7\t5\n") ∷ Some (bytes "k\t7\n") ∷ Some (bytes "b\n") ∷ None ∷ []
unfolding line_bytes line_record field decimal digits_in bytes
line_bytes_are = refl

-- what writing tells: the refusal's number, or 0, and then the place after the record; a record that does not exist gets 1, and every byte stays, whatever the buffer and the place
pub written_are : map written_numbers (Ok 9 ∷ Err NoRoom ∷ []) ≡ (0 ∷ 9 ∷ []) ∷ (15 ∷ 0 ∷ []) ∷ []
unfolding written_numbers
written_are = refl

pub none_such : (buffer : List ℕ) (at : ℕ) → (written_numbers (told_of buffer at None) ≡ 1 ∷ 0 ∷ []) × (left_of buffer at None ≡ buffer)
unfolding written_numbers told_of left_of
none_such buffer at = (refl, refl)

-- and a line of four bytes, written into nine zeros from place 3
pub write_is :
    (written_numbers (told_of (0 ∷ 0 ∷ 0 ∷ 0 ∷ 0 ∷ 0 ∷ 0 ∷ 0 ∷ 0 ∷ []) 3 (line_bytes (letter_of 99) 7 5)) ≡ 0 ∷ 7 ∷ [])
    × (left_of (0 ∷ 0 ∷ 0 ∷ 0 ∷ 0 ∷ 0 ∷ 0 ∷ 0 ∷ 0 ∷ []) 3 (line_bytes (letter_of 99) 7 5) ≡ 0 ∷ 0 ∷ 0 ∷ 99 ∷ 9 ∷ 55 ∷ 10 ∷ 0 ∷ 0 ∷ [])
unfolding written_numbers told_of left_of line_bytes line_record field decimal digits_in told left fits
write_is = (refl, refl)
