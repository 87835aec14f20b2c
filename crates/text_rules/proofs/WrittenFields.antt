-- A number field that was written is read back, and one that is read was written.
-- Assumes nothing.
use Prim.Native.Nat.{ℕ, ◌≤◌}
use mathlib.Core.Path.{◌≡◌, refl, sym, ap, ◌∙◌}
use mathlib.Core.Bool.{true}
use mathlib.Core.List.{List, [], ◌∷◌, ◌++◌}
use native.Mathlib.Omega.{arith}
use lib.Dec.{eqb}
use borrow.Author.Tests.{eqb-true, le-leb, leb-true}
use Rattle.std.specs.Prelude.{Err, Ok}
use Rattle.laws.specs.Choice.{by_test, not_both}
use Rattle.terms.specs.declared.letters.Letter.{Letter}
use Rattle.terms.specs.declared.refusals.Field.{Field}
use Rattle.terms.specs.Words.{tab, newline}
use Rattle.text_rules.specs.declared.Line.{Line}
use Rattle.text_rules.specs.Decimal.{decimal}
use Rattle.text_rules.specs.Lines.{field_ahead, after_field, digits_only, value_from, shortest, is_number, number_then, ending, Reading, good}
use Rattle.text_rules.specs.Fields.{end_ahead}
use Rattle.text_rules.proofs.DecimalLaws.{decimal_digits, decimal_shortest, decimal_value, decimal_unique}
use Rattle.text_rules.proofs.FieldParts.{field_then, digits_before}

-- a number in decimal is a number field
pub number_is : (most n : ℕ) → n ≤ most → is_number most (decimal n) ≡ true
unfolding is_number
number_is most n small = rw (decimal_digits n, decimal_shortest n, decimal_value n) (le-leb n most small)

-- and a number field is its number in decimal, which is small enough
pub is_number_lem : (most : ℕ) (f : List ℕ) → is_number most f ≡ true → (f ≡ decimal (value_from 0 f)) × (value_from 0 f ≤ most)
unfolding is_number
is_number_lem most f h =
    by_test (digits_only f)
    (λ d. by_test (shortest f)
    (λ s. (sym (decimal_unique f d s), leb-true _ _ (rw (d, s) at h)))
    (λ s. not_both (rw (d, s) at h) refl))
    (λ d. not_both (rw d at h) refl)

-- a number that was written is read back
pub reads_number : (most n : ℕ) (at : Field) (t : List ℕ) (rest : ℕ → List ℕ → Reading) → n ≤ most → end_ahead t ≡ true → number_then most at (tab ∷ decimal n ++ t) rest ≡ rest n t
unfolding number_then
reads_number most n at t rest small stop =
    let e = digits_before (decimal n) t (decimal_digits n) stop in
    rw (e.0, e.1, number_is most n small, decimal_value n)

-- what a good line's number field tells: the number, what is left after it, that the field was written this way, and that what is left leads to the good line
pub record NumberField (most : ℕ) (t : List ℕ) (rest : ℕ → List ℕ → Reading) (r : Reading) : Type 0 where
  pub number : ℕ
  pub left : List ℕ
  pub written : t ≡ tab ∷ decimal number ++ left
  pub small : number ≤ most
  pub goes_on : rest number left ≡ r

-- a good line is not bad
pub not_bad : {P : Type 0} {at : Field} {l : Letter} {job cell : ℕ} → Err at ≡ good l job cell → P
not_bad e = let z : ◌≡◌ {A = ℕ} 0 1 = cc in absurd (omega arith)

-- equal good readings have equal parts
pub same_good : (l m : Letter) (job₁ job₂ cell₁ cell₂ : ℕ) → good l job₁ cell₁ ≡ good m job₂ cell₂ → (l ≡ m) × (job₁ ≡ job₂) × (cell₁ ≡ cell₂)
same_good l m job₁ job₂ cell₁ cell₂ e = (ap (λ x. x.letter) (same_line _ _ e), ap (λ x. x.job) (same_line _ _ e), ap (λ x. x.cell) (same_line _ _ e))
  where
    same_line : (x y : Line) → ◌≡◌ {A = Reading} (Ok x) (Ok y) → x ≡ y
    same_line x y e = cc

-- a number that is read was written
pub number_written : (most : ℕ) (at : Field) (t : List ℕ) (rest : ℕ → List ℕ → Reading) (l : Letter) (job cell : ℕ) → number_then most at t rest ≡ good l job cell → NumberField most t rest (good l job cell)
unfolding number_then
number_written most at [] rest l job cell e = not_bad e
number_written most at (b ∷ t) rest l job cell e =
    by_test (eqb b tab)
    (λ k. by_test (is_number most (field_ahead t))
    (λ n. let i = is_number_lem most (field_ahead t) n in record {
      number = value_from 0 (field_ahead t);
      left = after_field t;
      written = rw (eqb-true b tab k) (ap (λ u. tab ∷ u) (sym (field_then t) ∙ ap (λ u. u ++ after_field t) i.0));
      small = i.1;
      goes_on = rw (k, n) at e;
    })
    (λ n. not_bad (rw (k, n) at e)))
    (λ k. not_bad (rw k at e))

-- a line that ends well ends in one newline
pub ending_written : (t : List ℕ) (r : Reading) (l : Letter) (job cell : ℕ) → ending t r ≡ good l job cell → (t ≡ newline ∷ []) × (r ≡ good l job cell)
unfolding ending
ending_written [] r l job cell e = not_bad e
ending_written (b ∷ []) r l job cell e =
    by_test (eqb b newline) (λ k. (ap (λ x. x ∷ []) (eqb-true b newline k), rw k at e)) (λ k. not_bad (rw k at e))
ending_written (b ∷ c ∷ t) r l job cell e = not_bad e
