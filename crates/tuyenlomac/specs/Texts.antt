-- Lines and records in numbers: what a line says, and what writing a record tells and leaves, also for a number that stands for no word or letter (01, Lines; 02, No. 5).
use Rattle.std.specs.Prelude.{ℕ, List, [], ◌∷◌, Option, None, Some, Err, Result, Ok}
use Rattle.terms.specs.declared.letters.Letter.{Letter}
use Rattle.terms.specs.declared.refusals.Refusal.TheVariants.{UnknownKind}
use Rattle.terms.specs.Letters.{byte_of}
use Rattle.terms.specs.Refusals.{number_of, field_number}
use Rattle.text_rules.specs.Records.{answer_record, line_record, told, left}
use Rattle.tuyenlomac.specs.declared.lines.Line.{Line}
use Rattle.terms.specs.declared.words.Word.{Word}
use Rattle.text_rules.specs.Lines.{Reading}
use Rattle.terms.specs.declared.refusals.Refusal.{Refusal}

-- what a line says: for a good line its letter's byte, job and cell, and 0; for a bad line the field at fault (02, No. 5)
unfoldable pub line_in : Reading → Line
line_in (Ok line) = record { job = line.job; cell = line.cell; kind = byte_of line.letter; field = 0 }
line_in (Err which) = record { job = 0; cell = 0; kind = 0; field = field_number which }

-- what writing tells: 0 and the place after the record, or the refusal's number and 0
unfoldable pub written_numbers : (Result ℕ Refusal) → List ℕ
written_numbers (Ok place) = 0 ∷ place ∷ []
written_numbers (Err why) = number_of why ∷ 0 ∷ []

-- the bytes of an answer record, if there is such a word
unfoldable pub answer_bytes : ℕ → Option Word → ℕ → ℕ → Option (List ℕ)
answer_bytes line (Some w) number fault = Some (answer_record line w number fault)
answer_bytes line None number fault = None

-- the bytes of the line of a letter, if there is such a letter
unfoldable pub line_bytes : Option Letter → ℕ → ℕ → Option (List ℕ)
line_bytes (Some l) job cell = Some (line_record l job cell)
line_bytes None job cell = None

-- what writing tells: the same as for any record, and 1 if there is none
unfoldable pub told_of : List ℕ → ℕ → Option (List ℕ) → Result ℕ Refusal
told_of buffer at None = Err UnknownKind
told_of buffer at (Some bytes) = told buffer at bytes

-- and what the buffer then holds: all as it was if there is none
unfoldable pub left_of : List ℕ → ℕ → Option (List ℕ) → List ℕ
left_of buffer at None = buffer
left_of buffer at (Some bytes) = left buffer at bytes
