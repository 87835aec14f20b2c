-- A field that is a number, in the paper's words: digits only, no leading zero except the single 0, and not too large; a cell has one or two digits (01, Lines).
-- Assumes nothing.
use Rattle.std.specs.Prelude.{Option, None, Some}
use Prim.Native.Nat.{ℕ, ◌≤◌}
use mathlib.Core.Path.{◌≡◌, sym, ap}
use mathlib.Core.Bool.{true}
use mathlib.Core.Logic.{◌↔◌}
use mathlib.Core.List.{List, [], ◌∷◌}
use native.Mathlib.Omega.{arith}
use lib.ListN.{length}
use Rattle.laws.specs.Choice.{by_test, not_both}
use Rattle.text_rules.specs.Decimal.{decimal}
use Rattle.text_rules.specs.FieldFaults.{Number}
use Rattle.text_rules.specs.Lines.{digits_only, value_from, shortest, is_number}
use Rattle.text_rules.proofs.DecimalLaws.{only_parts, decimal_digits, decimal_shortest, decimal_value, decimal_unique}
use Rattle.text_rules.proofs.DigitLaws.{digits_at_most}
use Rattle.text_rules.proofs.Digits.{digit_bounds}
use Rattle.text_rules.proofs.WrittenFields.{number_is, is_number_lem}

-- equal fields that are there have equal bytes
pub same_field : (f g : List ℕ) → Some f ≡ Some g → f ≡ g
same_field f g e = cc

-- a field is a number as written exactly if the reader takes it for one
pub number_test : (most : ℕ) (f : List ℕ) → Number most (Some f) ↔ (is_number most f ≡ true)
number_test most f = (
  λ k. rw (same_field f (decimal k.0) k.2) (number_is most k.0 k.1),
  λ h. let i = is_number_lem most f h in (value_from 0 f, i.1, ap Some i.0),
)

-- a field that is not there is not a number
pub none_no_number : (most : ℕ) → Number most None → ⊥
none_no_number most k = let e = k.2 in let z : ◌≡◌ {A = ℕ} 0 1 = cc in omega arith

-- a field is a number, or it is not
pub by_number_lem : {P : Type 0} (most : ℕ) (field : Option (List ℕ)) → (Number most field → P) → ((Number most field → ⊥) → P) → P
by_number_lem most None right wrong = wrong (none_no_number most)
by_number_lem most (Some f) right wrong =
    by_test (is_number most f) (λ h. right ((number_test most f).1 h)) (λ h. wrong (λ k. not_both ((number_test most f).0 k) h))

-- A NUMBER: digits only, no sign and no blank, no leading zero except the single 0, and not above the limit
pub number_worded : (most : ℕ) (f : List ℕ) → Number most (Some f) ↔ ((digits_only f ≡ true) × (shortest f ≡ true) × (value_from 0 f ≤ most))
number_worded most f = (
  λ k. rw (same_field f (decimal k.0) k.2, decimal_value k.0) (decimal_digits k.0, decimal_shortest k.0, k.1),
  λ w. (value_from 0 f, w.2, ap Some (sym (decimal_unique f w.0 w.1))),
)

-- one or two digits stand for at most 99
two_small : (f : List ℕ) → digits_only f ≡ true → length f ≤ 2 → value_from 0 f ≤ 99
unfolding value_from
two_small [] o h = omega arith
two_small (a ∷ []) o h =
    let x = (digit_bounds a (only_parts a [] o).0).1 in
    omega arith
two_small (a ∷ b ∷ []) o h =
    let p = only_parts a (b ∷ []) o in
    let x = (digit_bounds a p.0).1 in
    let y = (digit_bounds b (only_parts b [] p.1).0).1 in
    omega arith
two_small (a ∷ b ∷ c ∷ f) o h = absurd (omega arith)

-- A CELL HAS ONE OR TWO DIGITS
pub cell_worded : (f : List ℕ) → Number 99 (Some f) ↔ ((digits_only f ≡ true) × (shortest f ≡ true) × (length f ≤ 2))
cell_worded f = (
  λ k.
      let w = (number_worded 99 f).0 k in
      let small = k.1 in
      let short : length (decimal k.0) ≤ 2 = digits_at_most 1 k.0 (omega arith) in
      (w.0, w.1, rw (same_field f (decimal k.0) k.2) short),
  λ w. (number_worded 99 f).1 (w.0, w.1, two_small f w.0 w.2),
)
