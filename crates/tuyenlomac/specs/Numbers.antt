-- Answers in numbers, for callers that have no enums. The numbers of the words are our own: include/tuyenlomac.h names the first five, and tells the judge's words by their own four numbers.
use Rattle.std.specs.Prelude.{ℕ, eqb, Option, None, Some}
use Rattle.laws.specs.Choice.{pick}
use Rattle.terms.specs.declared.words.Word.{Word}
use Rattle.terms.specs.declared.words.Word.TheVariants.{Go, Wait, Back, No, Wake, Orderly, Knot, Dirty}
use Rattle.desks.specs.declared.Answer.{Answer}
use Rattle.desks.specs.AnswerWords.{word_of, number_beside}
use Rattle.tuyenlomac.specs.declared.answers.Answered.{Answered}

-- the number of a word; the last three are the judge's words, which no answer has
abbrev pub word_number : Word → ℕ
word_number Go = 0
word_number Wait = 1
word_number Back = 2
word_number No = 3
word_number Wake = 4
word_number Orderly = 5
word_number Knot = 6
word_number Dirty = 7

-- this word if n is its number, else what the rest gives
abbrev or_else : Word → ℕ → Option Word → Option Word
or_else w n rest = pick (eqb n (word_number w)) (Some w) rest

-- the word of answer records that has a number (01, Lines: go, wait, back, no and wake)
abbrev pub word_at : ℕ → Option Word
word_at n = or_else Go n (or_else Wait n (or_else Back n (or_else No n (or_else Wake n None))))

-- an answer with this many wakes: the word's number, the number beside it, and the number of wakes
unfoldable pub in_three : Answer → ℕ → Answered
in_three a wakes = record { word = word_number (word_of a); number = number_beside a; wakes = wakes }
