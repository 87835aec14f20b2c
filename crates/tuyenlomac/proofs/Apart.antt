-- The numbers that callers get tell the cases apart: a desk's answers, and what a line says. The number of an answer's word is the one that the record writer takes for it.
-- Assumes nothing.
use Rattle.std.specs.Prelude.{Option, None, Some}
use Prim.Native.Nat.{ℕ}
use mathlib.Core.Path.{◌≡◌, refl, sym, ap, ◌∙◌}
use mathlib.Core.List.{[], ◌∷◌}
use lib.ListN.{get_or}
use Rattle.std.specs.Prelude.{Err, Ok}
use Rattle.terms.specs.declared.words.Word.{Word}
use Rattle.terms.specs.declared.words.Word.TheVariants.{Go, Wait, Back, No, Wake, Orderly, Knot, Dirty}
use Rattle.terms.specs.declared.letters.Letter.{Letter}
use Rattle.terms.specs.declared.letters.Letter.TheVariants.{Begin}
use Rattle.terms.specs.declared.refusals.Field.TheVariants.{First, Second, Third, Fourth}
use Rattle.terms.specs.Letters.{letter_of}
use Rattle.terms.proofs.Alphabet.{letter_of_byte}
use Rattle.desks.specs.declared.Answer.{Answer}
use Rattle.desks.specs.declared.Answer.TheVariants.{Go as goes, Wait as waits, Back as back, No as refuses}
use Rattle.desks.specs.AnswerWords.{word_of, field_beside}
use Rattle.desks.proofs.AnswerNumbers.{same_answer}
use Rattle.tuyenlomac.specs.declared.answers.Answered.{Answered}
use Rattle.tuyenlomac.specs.declared.lines.Line.{Line}
use Rattle.tuyenlomac.specs.Numbers.{word_number, word_at, in_three}
use Rattle.tuyenlomac.specs.Texts.{line_in}
use Rattle.text_rules.specs.Lines.{Reading, good}

-- the word of a number, among the eight
abbrev word_by : ℕ → Word
word_by n = get_or (Go ∷ Wait ∷ Back ∷ No ∷ Wake ∷ Orderly ∷ Knot ∷ []) n Dirty

at_word : (w : Word) → word_by (word_number w) ≡ w
at_word Go = refl
at_word Wait = refl
at_word Back = refl
at_word No = refl
at_word Wake = refl
at_word Orderly = refl
at_word Knot = refl
at_word Dirty = refl

-- EQUAL NUMBERS, EQUAL ANSWERS: two answers that tell no field at fault, as no desk's does, are equal if their numbers are
pub same_told : (a b : Answer) (n m : ℕ) → field_beside a ≡ field_beside b → in_three a n ≡ in_three b m → (a ≡ b) × (n ≡ m)
unfolding in_three
same_told a b n m f e =
    (same_answer a b (sym (at_word (word_of a)) ∙ ap (λ (t : Answered). word_by t.word) e ∙ at_word (word_of b)) (ap (λ (t : Answered). t.number) e) f, ap (λ (t : Answered). t.wakes) e)

-- the word's number, handed to the record writer, is that word
pub word_again : (a : Answer) (n : ℕ) → word_at (in_three a n).word ≡ Some (word_of a)
unfolding in_three word_of
word_again (goes j) n = refl
word_again (waits j) n = refl
word_again (back j) n = refl
word_again (refuses why) n = refl

-- the reading of a line from its numbers
abbrev letter_by : Option Letter → Letter
letter_by (Some l) = l
letter_by None = Begin

abbrev reading_by : Line → Reading
reading_by l = get_or (good (letter_by (letter_of l.kind)) l.job l.cell ∷ Err First ∷ Err Second ∷ Err Third ∷ []) l.field (Err Fourth)

at_reading : (r : Reading) → reading_by (line_in r) ≡ r
unfolding line_in
at_reading (Ok line) = ap (λ x. good (letter_by x) line.job line.cell) (letter_of_byte line.letter)
at_reading (Err First) = refl
at_reading (Err Second) = refl
at_reading (Err Third) = refl
at_reading (Err Fourth) = refl

-- EQUAL NUMBERS, EQUAL LINES
pub same_line : (r s : Reading) → line_in r ≡ line_in s → r ≡ s
same_line r s e = sym (at_reading r) ∙ ap reading_by e ∙ at_reading s
