-- Lines of a word and numbers: their parts, their lengths, and whether they fit.
-- Assumes nothing.
use Prim.Native.Nat.{ℕ, ◌+◌, ◌-◌, ◌^◌, ◌≤◌, ◌<◌}
use mathlib.Core.Path.{◌≡◌, refl, sym, ap, ◌∙◌}
use mathlib.Core.Bool.{Bool, true, false}
use mathlib.Core.List.{List, [], ◌∷◌, ◌++◌, append_assoc}
use native.Mathlib.Omega.{arith}
use borrow.Author.Tests.{leb-true, leb-false, lt-ltb, le-ltb}
use lib.Dec.{ltb, leb}
use lib.ListN.{length, length-append}
use Rattle.terms.specs.declared.words.Word.{Word}
use Rattle.terms.specs.Words.{tab, newline, spelt}
use Rattle.text_rules.specs.Decimal.{decimal}
use Rattle.text_rules.specs.Records.{tabbed, word_line, given}
use Rattle.text_rules.proofs.FieldLaws.{given_field, field_there, field_at_most, field_at_most_21}

-- how many bytes a line of a word and numbers has
pub word_line_length : (w : Word) (ns : List ℕ) → length (word_line w ns) ≡ length (spelt w) + length (tabbed ns) + 1
unfolding word_line
word_line_length w ns = simp length-append (omega arith)

-- such a line, part by part
pub word_line_is : (w : Word) (ns : List ℕ) → spelt w ++ tabbed ns ++ newline ∷ [] ≡ word_line w ns
unfolding word_line
word_line_is w ns = refl

-- a line fits where its word and newline do, and its numbers fit into what is left
pub line_fits : {r : Bool} (w : Word) (ns : List ℕ) (room len : ℕ) → len ≡ length (spelt w) → len < room → r ≡ leb (length (tabbed ns)) (room - len - 1) → r ≡ true →
    length (spelt w) + length (tabbed ns) + 1 ≤ room
line_fits w ns room len e h f t = let g = leb-true (length (tabbed ns)) (room - len - 1) (sym f ∙ t) in omega arith

-- and it does not fit where its numbers do not
pub line_too_long : {r : Bool} (w : Word) (ns : List ℕ) (room len : ℕ) → len ≡ length (spelt w) → len < room → r ≡ leb (length (tabbed ns)) (room - len - 1) → r ≡ false →
    room < 0 + length (word_line w ns)
line_too_long w ns room len e h f t =
    let g = leb-false (length (tabbed ns)) (room - len - 1) (sym f ∙ t) in
    omega (arith, word_line_length w ns)

-- nor where its word and newline do not
pub word_too_long : (w : Word) (ns : List ℕ) (room len : ℕ) → len ≡ length (spelt w) → room ≤ len → room < 0 + length (word_line w ns)
word_too_long w ns room len e h = omega (arith, word_line_length w ns)

-- a line of a word, two numbers and what more there is, field by field
pub two_numbers : (w : Word) (a b : ℕ) (ns : List ℕ) → spelt w ++ tab ∷ decimal a ++ tab ∷ decimal b ++ tabbed ns ++ newline ∷ [] ≡ word_line w (a ∷ b ∷ ns)
unfolding word_line tabbed
two_numbers w a b ns =
    ap (λ l. l ++ newline ∷ [])
    (ap (λ l. l ++ tabbed ns) (append_assoc (spelt w) (tab ∷ decimal a) (tab ∷ decimal b))
    ∙ append_assoc (spelt w) (tab ∷ decimal a ++ tab ∷ decimal b) (tabbed ns)
    ∙ ap (λ l. spelt w ++ l) (append_assoc (tab ∷ decimal a) (tab ∷ decimal b) (tabbed ns)))

-- how many bytes such a line has
pub two_numbers_length : (w : Word) (a b : ℕ) (ns : List ℕ) → length (word_line w (a ∷ b ∷ ns)) ≡ length (spelt w) + length (decimal a) + length (decimal b) + length (tabbed ns) + 3
two_numbers_length w a b ns = rw (← two_numbers w a b ns) (simp length-append (omega arith))

-- a number that is not 0 is written behind a tab
pub given_there : (n : ℕ) → 0 < n → tabbed (given n) ≡ tab ∷ decimal n
given_there n h = given_field n ∙ field_there (ltb 0 n) n (lt-ltb 0 n h)

-- and of 0 nothing is
pub given_none : (n : ℕ) → n ≤ 0 → tabbed (given n) ≡ []
unfolding given tabbed
given_none n h = rw (le-ltb 0 n h)

-- a number that is written so has at most 21 bytes
pub given_at_most_21 : (n : ℕ) → n < 2 ^ 64 → length (tabbed (given n)) ≤ 21
given_at_most_21 n h = rw (given_field n) (field_at_most_21 (ltb 0 n) n h)

-- and one digit at most two
pub given_at_most_2 : (n : ℕ) → n ≤ 9 → length (tabbed (given n)) ≤ 2
given_at_most_2 n h = rw (given_field n) (omega (arith, field_at_most 0 (ltb 0 n) n (omega arith)))
