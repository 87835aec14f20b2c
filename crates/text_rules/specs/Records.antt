-- The records, and what writing one into a lent buffer tells and leaves (01, Lines).
use Rattle.std.specs.Prelude.{ℕ, ◌+◌, Bool, true, false, List, [], ◌∷◌, ◌++◌, ltb, leb, length, Result, Ok, Err}
use Rattle.laws.specs.Choice.{pick}
use Rattle.terms.specs.declared.letters.Letter.{Letter}
use Rattle.terms.specs.declared.words.Word.{Word}
use Rattle.terms.specs.declared.words.Word.TheVariants.{Go, Wait, Back, No, Wake, Orderly, Knot, Dirty}
use Rattle.terms.specs.declared.refusals.Refusal.TheVariants.{NoRoom}
use Rattle.terms.specs.Letters.{byte_of, has_job, has_cell}
use Rattle.terms.specs.Words.{tab, newline, spelt}
use Rattle.text_rules.specs.Decimal.{decimal}
use Rattle.text_rules.specs.Wrote.{put_from}
use Rattle.terms.specs.declared.refusals.Refusal.{Refusal}

-- the words of answer records: go, wait, back, no and wake (01, Lines)
abbrev pub of_answers : Word → Bool
of_answers Go = true
of_answers Wait = true
of_answers Back = true
of_answers No = true
of_answers Wake = true
of_answers Orderly = false
of_answers Knot = false
of_answers Dirty = false

-- numbers, with a tab before each
unfoldable pub tabbed : List ℕ → List ℕ
tabbed [] = []
tabbed (n ∷ ns) = tab ∷ decimal n ++ tabbed ns

-- a line of a word and numbers: the verdict, and an answer record behind its line number (01, The judge's rules; 01, Lines)
unfoldable pub word_line : Word → List ℕ → List ℕ
word_line w ns = spelt w ++ tabbed ns ++ newline ∷ []

-- a number, unless it is 0
unfoldable pub given : ℕ → List ℕ
given n = pick (ltb 0 n) (n ∷ []) []

-- answer record: request line number, word, number; one more field if the fourth is not 0: the field at fault of a refusal 9 (01, Lines; 02, No. 5)
unfoldable pub answer_record : ℕ → Word → ℕ → ℕ → List ℕ
answer_record line word number fault = decimal line ++ tab ∷ word_line word (number ∷ given fault)

-- the size of the longest answer record of the desk programs: `answer_at_most_24`, `answer_24` (01, Lines: the longest is 24 bytes)
abbrev pub longest_record : ℕ
longest_record = 24

-- a further field, if there is one: a tab and the number
unfoldable pub field : Bool → ℕ → List ℕ
field there n = pick there (tab ∷ decimal n) []

-- the line of a letter with its fields: a history record, and also a request line (01, Lines)
unfoldable pub line_record : Letter → ℕ → ℕ → List ℕ
line_record l job cell = byte_of l ∷ field (has_job l) job ++ field (has_cell l) cell ++ newline ∷ []

-- numbers, with a tab between them
unfoldable pub tabs_between : List ℕ → List ℕ
tabs_between [] = []
tabs_between (n ∷ ns) = decimal n ++ tabbed ns

-- a line of jobs with a tab between them: a chain (02, No. 3)
unfoldable pub jobs_line : List ℕ → List ℕ
jobs_line js = tabs_between js ++ newline ∷ []

-- a record fits from the place given: it ends within the buffer, so the place is not past the end (01, refusal 15)
unfoldable pub fits : List ℕ → ℕ → List ℕ → Bool
fits buffer at bytes = leb (at + length bytes) (length buffer)

-- what the writer tells: the place after the record, or refusal 15 (01, Lines)
unfoldable pub told : List ℕ → ℕ → List ℕ → Result ℕ Refusal
told buffer at bytes = pick (fits buffer at bytes) (Ok (at + length bytes)) (Err NoRoom)

-- what the buffer then holds: the record from the place given and not before it, and all other bytes as they were; after a refusal, every byte as it was (01, Lines)
unfoldable pub left : List ℕ → ℕ → List ℕ → List ℕ
left buffer at bytes = pick (fits buffer at bytes) (put_from buffer at bytes) buffer
