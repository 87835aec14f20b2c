-- How many bytes a record has: exactly, and at most (01, Lines: the longest answer record has 24).
-- Assumes nothing.
use Prim.Native.Nat.{ℕ, ◌+◌, ◌≤◌, ◌<◌}
use mathlib.Core.Path.{◌≡◌, refl}
use mathlib.Core.Bool.{true}
use mathlib.Core.List.{[], ◌∷◌}
use native.Mathlib.Omega.{arith}
use lib.Dec.{ltb}
use borrow.Author.Tests.{ltb-true}
use lib.ListN.{length, length-append}
use Rattle.laws.specs.Choice.{by_test, not_both}
use Rattle.terms.specs.declared.letters.Ask.TheVariants.{Increment}
use Rattle.terms.specs.declared.letters.Letter.{Letter}
use Rattle.terms.specs.declared.letters.Letter.TheVariants.{Asks}
use Rattle.terms.specs.declared.words.Word.{Word}
use Rattle.terms.specs.declared.words.Word.TheVariants.{Go, Wait, Back, No, Wake, Orderly, Knot, Dirty}
use Rattle.terms.specs.Letters.{has_job, has_cell}
use Rattle.terms.specs.Words.{spelt}
use Rattle.text_rules.specs.Decimal.{decimal, digits_in}
use Rattle.text_rules.specs.Lines.{last_cell}
use Rattle.text_rules.specs.Records.{of_answers, answer_record, longest_record, field, line_record, tabbed, word_line, given}
use Rattle.text_rules.specs.Split.{kept}
use Rattle.text_rules.proofs.DigitLaws.{digits_at_most}
use Rattle.text_rules.proofs.FieldLaws.{field_at_most, no_field_length, answer_is}

-- the length of an answer record: its fields, a tab and a newline, and the tabs of the third and fourth fields
pub answer_length : (line : ℕ) (word : Word) (number fault : ℕ) →
    length (answer_record line word number fault) ≡ length (decimal line) + length (spelt word) + length (field true number) + length (field (ltb 0 fault) fault) + 2
answer_length line word number fault = rw (answer_is line word number fault) (simp length-append (omega arith))

-- the length of a letter's line: its letter, its further fields and a newline
pub line_length : (l : Letter) (job cell : ℕ) → length (line_record l job cell) ≡ length (field (has_job l) job) + length (field (has_cell l) cell) + 2
unfolding line_record
line_length l job cell = simp length-append (omega arith)

-- a word of answer records has at most four bytes
pub answer_word_at_most_4 : (w : Word) → of_answers w ≡ true → length (spelt w) ≤ 4
answer_word_at_most_4 Go e = omega arith
answer_word_at_most_4 Wait e = omega arith
answer_word_at_most_4 Back e = omega arith
answer_word_at_most_4 No e = omega arith
answer_word_at_most_4 Wake e = omega arith
answer_word_at_most_4 Orderly e = not_both e refl
answer_word_at_most_4 Knot e = not_both e refl
answer_word_at_most_4 Dirty e = not_both e refl

-- what follows the word of an answer record has at most eleven bytes: a tab and a number of ten digits, or a refusal's number of two and the field at fault
pub besides_at_most_11 : (number fault : ℕ) → number ≤ 4_294_967_295 → fault ≤ 9 → (0 < fault → number ≤ 99) → length (field true number) + length (field (ltb 0 fault) fault) ≤ 11
besides_at_most_11 number fault h f two =
    by_test (ltb 0 fault)
    (λ e. let n = two (ltb-true 0 fault e) in omega (arith, field_at_most 1 true number (omega arith), field_at_most 0 (ltb 0 fault) fault (omega arith)))
    (λ e. omega (arith, field_at_most 9 true number (omega arith), no_field_length (ltb 0 fault) fault e))

-- no answer record of the desk programs is longer than 24 bytes, a refusal 9 included (01, Lines; 02, No. 5)
pub answer_at_most_24 : (line : ℕ) (word : Word) (number fault : ℕ) → line ≤ 1_000_000 → of_answers word ≡ true → number ≤ 4_294_967_295 → fault ≤ 9 → (0 < fault → number ≤ 99) →
    length (answer_record line word number fault) ≤ 24
answer_at_most_24 line word number fault h a g f two =
    omega (
      arith,
      answer_length line word number fault,
      digits_at_most 6 line (omega arith),
      answer_word_at_most_4 word a,
      besides_at_most_11 number fault g f two,
    )

-- and one is that long: line 1,000,000, a wake, and a job of ten digits (01, Lines)
pub answer_24 : length (answer_record 1_000_000 Wake 4_294_967_295 0) ≡ 24
unfolding answer_record word_line tabbed given decimal digits_in
answer_24 = refl

-- no letter's line that can be read is longer than 16 bytes
pub line_at_most_16 : (l : Letter) (job cell : ℕ) → job ≤ 4_294_967_295 → cell ≤ 99 → length (line_record l job cell) ≤ 16
line_at_most_16 l job cell h g =
    omega (arith, line_length l job cell, field_at_most 9 (has_job l) job (omega arith), field_at_most 1 (has_cell l) cell (omega arith))

-- and one is that long
pub line_16 : length (line_record (Asks Increment) 4_294_967_295 99) ≡ 16
unfolding line_record field decimal digits_in
line_16 = refl

-- this crate's own numbers: the largest cell that can be read, the bytes kept of a line, the bytes of the longest answer record
pub sizes_are : last_cell ∷ kept ∷ longest_record ∷ [] ≡ 99 ∷ 16 ∷ 24 ∷ []
sizes_are = refl
