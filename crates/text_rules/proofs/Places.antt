-- A line from a place on: it begins with the byte at that place, or nothing is left of it. So each definition can go by the byte at a place, as the code does.
-- Assumes nothing.
use Rattle.std.specs.Prelude.{Option, None}
use Prim.Native.Nat.{ℕ, ◌+◌, ◌<◌}
use mathlib.Core.Path.{◌≡◌, sym, ap, ◌∙◌}
use mathlib.Core.Bool.{Bool, true, false, not}
use mathlib.Core.List.{List, [], ◌∷◌}
use native.Mathlib.Numerals.{add-one}
use lib.Dec.{ltb, eqb}
use lib.ListN.{length, get_or, drop, drop_of_length-le}
use lib.Seq.{drop-cons}
use borrow.Author.Tests.{ltb-true, ltb-false}
use Rattle.std.specs.Prelude.{Err, Option, None}
use Rattle.laws.specs.Choice.{pick, by_test}
use Rattle.text_rules.specs.declared.Numeral.{Numeral}
use Rattle.text_rules.specs.Lines.{parts, is_digit, shortest, ending, Reading}
use Rattle.text_rules.specs.Fields.{digits_of, digit_ahead, end_ahead, first_letter, digits_at, number_at}
use Rattle.terms.specs.declared.letters.Letter.{Letter}
use Rattle.terms.specs.Words.{tab, newline}
use Rattle.terms.specs.declared.refusals.Field.TheVariants.{Fourth}
use Rattle.terms.specs.Letters.{letter_of}

-- within the line, the rest begins with the byte at that place
pub byte_here : (line : List ℕ) (at : ℕ) → at < length line → drop at line ≡ get_or line at 0 ∷ drop (at + 1) line
byte_here line at h = rw (add-one, drop-cons line at 0)

-- a question about the rest of a line splits by whether the place is within the line
pub by_place : {A : Type 0} (f : List ℕ → A) (line : List ℕ) (at : ℕ) → f (drop at line) ≡ pick (ltb at (length line)) (f (get_or line at 0 ∷ drop (at + 1) line)) (f [])
by_place f line at =
    by_test (ltb at (length line)) (λ e. rw (e, byte_here line at (ltb-true _ _ e)))
    (λ e. rw (e, drop_of_length-le line (ltb-false _ _ e)))

-- whether a digit stands at a place
pub digit_placed : (line : List ℕ) (at : ℕ) (r : Bool) → r ≡ pick (ltb at (length line)) (is_digit (get_or line at 0)) false → r ≡ digit_ahead (drop at line)
unfolding digit_ahead
digit_placed line at r e = e ∙ sym (by_place digit_ahead line at)

-- whether a field ends before a place
pub end_placed : (line : List ℕ) (at : ℕ) (r : Bool) → r ≡ pick (ltb at (length line)) (parts (get_or line at 0)) true → r ≡ end_ahead (drop at line)
unfolding end_ahead
end_placed line at r e = e ∙ sym (by_place end_ahead line at)

-- digits are shortest if the first is not zero or stands alone
first_decides : (b : ℕ) (t : List ℕ) → shortest (digits_of (b ∷ t)) ≡ pick (is_digit b) (pick (eqb b 48) (not (digit_ahead t)) true) false
unfolding shortest digits_of digit_ahead
first_decides b [] = by_test (is_digit b) (λ d. rw d (by_test (eqb b 48) (λ z. rw z) (λ z. rw z))) (λ d. rw d)
first_decides b (c ∷ t) =
    by_test (is_digit b)
    (λ d. rw d (by_test (is_digit c) (λ e. rw e (by_test (eqb b 48) (λ z. rw z) (λ z. rw z))) (λ e. rw e (by_test (eqb b 48) (λ z. rw z) (λ z. rw z)))))
    (λ d. rw d)

-- whether the digits at a place are shortest
pub shortest_placed : (line : List ℕ) (at : ℕ) (r : Bool) → r ≡ pick (ltb at (length line)) (pick (is_digit (get_or line at 0)) (pick (eqb (get_or line at 0) 48) (not (digit_ahead (drop (at + 1) line))) true) false) false → r ≡ shortest (digits_of (drop at line))
unfolding shortest digits_of
shortest_placed line at r e = e ∙ sym (by_place (λ t. shortest (digits_of t)) line at ∙ ap (λ x. pick (ltb at (length line)) x false) (first_decides _ _))

-- the number field at a place
pub number_placed : (most : ℕ) (line : List ℕ) (at : ℕ) (r : Option Numeral) → r ≡ pick (ltb at (length line)) (pick (eqb (get_or line at 0) tab) (pick (shortest (digits_of (drop (at + 1) line))) (digits_at most 0 (at + 1) (drop (at + 1) line)) None) None) None → r ≡ number_at most at (drop at line)
unfolding number_at
number_placed most line at r e = e ∙ sym (by_place (number_at most at) line at)

-- the end of a line at a place: it is the last place, and a newline stands there
pub ending_placed : (line : List ℕ) (at : ℕ) (good r : Reading) → r ≡ pick (ltb at (length line)) (pick (ltb (at + 1) (length line)) (Err Fourth) (pick (eqb (get_or line at 0) newline) good (Err Fourth))) (Err Fourth) → r ≡ ending (drop at line) good
unfolding ending
ending_placed line at good r e =
    e
    ∙ sym (by_place (λ t. ending t good) line at
    ∙ ap (λ x. pick (ltb at (length line)) x (Err Fourth)) (by_place (λ t. ending (get_or line at 0 ∷ t) good) line (at + 1)))

-- the letter that a line begins with, if its field ends after it
pub letter_placed : (line : List ℕ) (r : Option Letter) → r ≡ pick (ltb 0 (length line)) (pick (end_ahead (drop 1 line)) (letter_of (get_or line 0 0)) None) None → r ≡ first_letter line
unfolding first_letter
letter_placed line r e = e ∙ sym (by_place first_letter line 0)
