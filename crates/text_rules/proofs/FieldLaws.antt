-- A further field, present or absent, with its length.
-- Assumes nothing.
use Prim.Native.Nat.{ℕ, suc, ◌+◌, ◌^◌, ◌≤◌, ◌<◌}
use mathlib.Core.Path.{◌≡◌, refl, sym, ap, ◌∙◌}
use mathlib.Core.Bool.{Bool, true, false}
use mathlib.Core.List.{[], ◌∷◌, ◌++◌, append_assoc, append-nil}
use native.Mathlib.Omega.{arith}
use lib.Dec.{ltb}
use lib.ListN.{length}
use Rattle.laws.specs.Choice.{by_test}
use Rattle.terms.specs.declared.letters.Letter.{Letter}
use Rattle.terms.specs.declared.words.Word.{Word}
use Rattle.terms.specs.Letters.{byte_of, has_job, has_cell}
use Rattle.terms.specs.Words.{tab, newline, spelt}
use Rattle.text_rules.specs.Decimal.{decimal}
use Rattle.text_rules.proofs.DigitLaws.{decimal_at_most_20, digits_at_most}
use Rattle.text_rules.specs.Records.{tabbed, word_line, given, field, answer_record, line_record}

-- a field that is present is a tab and its number
pub field_there : (there : Bool) (n : ℕ) → there ≡ true → field there n ≡ tab ∷ decimal n
unfolding field
field_there there n e = rw e

-- a field that is absent has no bytes
pub field_none : (there : Bool) (n : ℕ) → there ≡ false → field there n ≡ []
unfolding field
field_none there n e = rw e

-- a field that is present has one byte more than its number has digits
pub field_length : (there : Bool) (n : ℕ) → there ≡ true → length (field there n) ≡ length (decimal n) + 1
field_length there n e = rw (field_there there n e) (omega arith)

-- a field that is absent has length 0
pub no_field_length : (there : Bool) (n : ℕ) → there ≡ false → length (field there n) ≡ 0
no_field_length there n e = rw (field_none there n e)

-- a field whose number is below a power of ten has at most one byte more than the exponent
pub field_at_most : (k : ℕ) (there : Bool) (n : ℕ) → n < 10 ^ suc k → length (field there n) ≤ k + 2
field_at_most k true n h = omega (arith, field_length true n refl, digits_at_most k n h)
field_at_most k false n h = omega (arith, no_field_length false n refl)

-- no field of a number of 64 bits has more than twenty-one bytes
pub field_at_most_21 : (there : Bool) (n : ℕ) → n < 2 ^ 64 → length (field there n) ≤ 21
field_at_most_21 true n h = let d = decimal_at_most_20 n h in omega (arith, field_length true n refl)
field_at_most_21 false n h = omega (arith, no_field_length false n refl)

-- a number that is written unless it is 0 is a field that is present unless it is 0
pub given_field : (n : ℕ) → tabbed (given n) ≡ field (ltb 0 n) n
unfolding given field tabbed
given_field n = by_test (ltb 0 n) (λ e. rw e (append-nil (tab ∷ decimal n))) (λ e. rw e)

-- an answer record: the line number, then word and number behind their tabs, and the last field, if there is one, with the newline
pub answer_is : (line : ℕ) (word : Word) (number fault : ℕ) →
    answer_record line word number fault ≡ decimal line ++ tab ∷ spelt word ++ field true number ++ (field (ltb 0 fault) fault ++ newline ∷ [])
unfolding answer_record word_line tabbed field
answer_is line word number fault =
    let n = tab ∷ decimal number in
    let f = field (ltb 0 fault) fault in
    ap (λ g. decimal line ++ tab ∷ (spelt word ++ (n ++ g) ++ newline ∷ [])) (given_field fault)
    ∙ ap (λ r. decimal line ++ tab ∷ r) (append_assoc (spelt word) (n ++ f) (newline ∷ []) ∙ ap (λ r. spelt word ++ r) (append_assoc n f (newline ∷ [])))
    ∙ sym (append_assoc (decimal line ++ tab ∷ spelt word) n (f ++ newline ∷ []) ∙ append_assoc (decimal line) (tab ∷ spelt word) (n ++ (f ++ newline ∷ [])))

-- a letter's line: the letter, the second field if it has one, and the last field with the newline
pub line_is : (l : Letter) (job cell : ℕ) →
    line_record l job cell ≡ (byte_of l ∷ []) ++ field (has_job l) job ++ (field (has_cell l) cell ++ newline ∷ [])
unfolding line_record
line_is l job cell = append_assoc (byte_of l ∷ field (has_job l) job) (field (has_cell l) cell) (newline ∷ [])
