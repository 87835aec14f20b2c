-- An answer in the paper's words and numbers: its word, the number beside it, and the field of a bad line (01, Refusals by number; 01, Lines; 02, No. 5).
use Rattle.std.specs.Prelude.{ℕ}
use Rattle.terms.specs.declared.words.Word.{Word}
use Rattle.terms.specs.declared.words.Word.TheVariants.{Go, Wait, Back, No}
use Rattle.terms.specs.Refusals.{number_of, field_of}
use Rattle.desks.specs.declared.Answer.{Answer}
use Rattle.desks.specs.declared.Answer.TheVariants.{Go as goes, Wait as waits, Back as back, No as refuses}

-- the word of an answer
unfoldable pub word_of : Answer → Word
word_of (goes j) = Go
word_of (waits j) = Wait
word_of (back j) = Back
word_of (refuses why) = No

-- the number beside it: the job, or the refusal's number (01, Lines)
unfoldable pub number_beside : Answer → ℕ
number_beside (goes j) = j
number_beside (waits j) = j
number_beside (back j) = j
number_beside (refuses why) = number_of why

-- the field beside that: the field at fault of a bad line, or 0 if there is none (02, No. 5)
unfoldable pub field_beside : Answer → ℕ
field_beside (goes j) = 0
field_beside (waits j) = 0
field_beside (back j) = 0
field_beside (refuses why) = field_of why
