-- One step of the reader at a time: what it reads if a field is right, if it is not, and at the line's end.
-- Assumes nothing.
use Prim.Native.Nat.{ℕ, ◌+◌, ◌≤◌}
use mathlib.Core.Path.{◌≡◌, refl, ap, ◌∙◌}
use mathlib.Core.Bool.{Bool, true, false}
use mathlib.Core.List.{List, [], ◌∷◌}
use native.Mathlib.Omega.{arith}
use lib.Dec.{eqb, leb}
use lib.ListN.{length}
use borrow.Author.Tests.{eqb-true, leb-true, le-leb}
use Rattle.std.specs.Prelude.{Err}
use Rattle.laws.specs.Choice.{pick, by_test, not_both}
use Rattle.terms.specs.declared.refusals.Field.{Field}
use Rattle.terms.specs.declared.refusals.Field.TheVariants.{Fourth}
use Rattle.terms.specs.Words.{tab, newline}
use Rattle.text_rules.specs.FieldFaults.{ended, field_at, Number}
use Rattle.text_rules.specs.Fields.{end_ahead}
use Rattle.text_rules.specs.Lines.{parts, field_ahead, after_field, value_from, is_number, number_then, ending, Reading}
use Rattle.text_rules.proofs.FieldLists.{more, fields_are, first_is, ended_after_lem, ended_tab}
use Rattle.text_rules.proofs.FieldParts.{after_ends}
use Rattle.text_rules.proofs.NumberWords.{number_test, none_no_number, by_number_lem}

-- the next field is right: a number, if there should be one
abbrev pub NextRight : Bool → ℕ → List ℕ → Type 0
NextRight there most t = there ≡ true → Number most (field_at 1 (more t))

-- what is read of a text that begins with a number field, if there should be one
abbrev pub next_then : Bool → ℕ → Field → List ℕ → (ℕ → List ℕ → Reading) → Reading
next_then there most at t rest = pick there (number_then most at t rest) (rest 0 t)

-- the next field is right: its number, and what is left after it
pub record Past (there : Bool) (most : ℕ) (at : Field) (t : List ℕ) (rest : ℕ → List ℕ → Reading) : Type 0 where
  pub number : ℕ
  pub left : List ℕ
  pub stops : end_ahead left ≡ true
  pub reads : next_then there most at t rest ≡ rest number left
  pub others : there ≡ true → field_at 2 (more t) ≡ field_at 1 (more left)
  pub count : length (more t) ≡ pick there 1 0 + length (more left)
  pub ends : ended t ≡ ended left

-- a number after its tab
past_tab : (most : ℕ) (at : Field) (t : List ℕ) (rest : ℕ → List ℕ → Reading) → Number most (field_at 1 (more (tab ∷ t))) → Past true most at (tab ∷ t) rest
unfolding more number_then field_at
past_tab most at t rest k =
    let n : is_number most (field_ahead t) ≡ true = (number_test most (field_ahead t)).0 (rw (first_is t) at k) in
    record {
      number = value_from 0 (field_ahead t);
      left = after_field t;
      stops = after_ends t;
      reads = rw n;
      others = λ h. rw (fields_are t);
      count = rw (fields_are t) (omega arith);
      ends = ended_tab t ∙ ended_after_lem t;
    }

-- a number, if there should be one
past_there : (most : ℕ) (at : Field) (t : List ℕ) (rest : ℕ → List ℕ → Reading) → Number most (field_at 1 (more t)) → Past true most at t rest
unfolding more field_at
past_there most at [] rest k = absurd (none_no_number most k)
past_there most at (b ∷ t) rest k =
    by_test (eqb b tab) (λ e. rw (eqb-true b tab e) (past_tab most at t rest (rw (eqb-true b tab e) at k)))
    (λ e. absurd (none_no_number most (rw e at k)))

-- the reader goes on after a field that is right, and stays if there should be none
pub past : (there : Bool) (most : ℕ) (at : Field) (t : List ℕ) (rest : ℕ → List ℕ → Reading) → end_ahead t ≡ true → NextRight there most t → Past there most at t rest
past true most at t rest stop right = past_there most at t rest (right refl)
past false most at t rest stop right = record {
  number = 0;
  left = t;
  stops = stop;
  reads = refl;
  others = λ h. not_both h refl;
  count = omega arith;
  ends = refl;
}

-- a number field that is missing, or is not such a number
not_there : (most : ℕ) (at : Field) (t : List ℕ) (rest : ℕ → List ℕ → Reading) → (Number most (field_at 1 (more t)) → ⊥) → number_then most at t rest ≡ Err at
unfolding more number_then
not_there most at [] rest wrong = refl
not_there most at (b ∷ t) rest wrong =
    by_test (eqb b tab)
    (λ e. by_test (is_number most (field_ahead t))
    (λ n. absurd (wrong (rw (e, first_is t) ((number_test most (field_ahead t)).1 n))))
    (λ n. rw (e, n)))
    (λ e. rw e)

-- the line is bad at a field that is not right
pub not_past : (there : Bool) (most : ℕ) (at : Field) (t : List ℕ) (rest : ℕ → List ℕ → Reading) → (NextRight there most t → ⊥) → next_then there most at t rest ≡ Err at
not_past true most at t rest wrong = not_there most at t rest (λ k. wrong (λ h. k))
not_past false most at t rest wrong = absurd (wrong (λ h. not_both h refl))

-- a field is right, or it is not
pub by_right : {P : Type 0} (there : Bool) (most n : ℕ) (fs : List (List ℕ)) → ((there ≡ true → Number most (field_at n fs)) → P) → (((there ≡ true → Number most (field_at n fs)) → ⊥) → P) → P
by_right true most n fs right wrong = by_number_lem most (field_at n fs) (λ k. right (λ h. k)) (λ k. wrong (λ r. k (r refl)))
by_right false most n fs right wrong = right (λ h. not_both h refl)

-- a line ends well if no field follows and one newline does
pub ending_right : (t : List ℕ) (good : Reading) → end_ahead t ≡ true → length (more t) ≤ 0 → ended t ≡ true → ending t good ≡ good
unfolding end_ahead more ended ending parts
ending_right [] good stop few e = not_both e refl
ending_right (b ∷ []) good stop few e = rw e
ending_right (b ∷ c ∷ t) good stop few e =
    by_test (eqb b newline) (λ n. not_both (rw n at e) refl)
    (λ n. by_test (eqb b tab)
    (λ k. absurd (omega (arith, ap length (fields_are (c ∷ t)), rw k at few)))
    (λ k. not_both stop (rw (k, n))))

-- and not otherwise
pub ending_wrong : (t : List ℕ) (good : Reading) → ((length (more t) ≤ 0) × (ended t ≡ true) → ⊥) → ending t good ≡ Err Fourth
unfolding more ended ending
ending_wrong [] good wrong = refl
ending_wrong (b ∷ []) good wrong =
    by_test (eqb b newline) (λ n. absurd (wrong (rw (eqb-true b newline n) (omega arith, refl)))) (λ n. rw n)
ending_wrong (b ∷ c ∷ t) good wrong = refl

-- what stands after the last field is right, or it is not
pub by_end : {P : Type 0} (n k : ℕ) (e : Bool) → ((n ≤ k) × (e ≡ true) → P) → (((n ≤ k) × (e ≡ true) → ⊥) → P) → P
by_end n k e right wrong =
    by_test (leb n k)
    (λ h. by_test e (λ y. right (leb-true n k h, y)) (λ y. wrong (λ r. not_both r.1 y)))
    (λ h. wrong (λ r. not_both (le-leb n k r.0) h))
