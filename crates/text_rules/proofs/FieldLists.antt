-- The fields of a line one after another: the first is the field that the line begins with, and the others come after the tab that ends it.
-- Assumes nothing.
use Rattle.std.specs.Prelude.{Some}
use Prim.Native.Nat.{ℕ}
use mathlib.Core.Path.{◌≡◌, refl}
use mathlib.Core.List.{List, [], ◌∷◌}
use lib.Dec.{eqb}
use borrow.Author.Tests.{eqb-true}
use Rattle.laws.specs.Choice.{pick, by_test}
use Rattle.terms.specs.Words.{tab, newline}
use Rattle.text_rules.specs.FieldFaults.{fields_of, ended, field_at}
use Rattle.text_rules.specs.Lines.{parts, field_ahead, after_field}
use Rattle.text_rules.specs.Split.{in_front}

-- the fields that follow where a field ends: those behind its tab, or none
unfoldable pub more : List ℕ → List (List ℕ)
more [] = []
more (b ∷ t) = pick (eqb b tab) (fields_of t) []

-- the fields of a line are the field that it begins with and those that follow
pub fields_are : (t : List ℕ) → fields_of t ≡ field_ahead t ∷ more (after_field t)
unfolding fields_of field_ahead after_field more parts in_front
fields_are [] = refl
fields_are (b ∷ t) =
    by_test (eqb b newline) (λ n. rw (eqb-true b newline n))
    (λ n. by_test (eqb b tab) (λ e. rw (eqb-true b tab e)) (λ e. rw (n, e, fields_are t)))

-- the first field is the field that the line begins with
pub first_is : (t : List ℕ) → field_at 1 (fields_of t) ≡ Some (field_ahead t)
unfolding field_at
first_is t = rw (fields_are t)

-- the second is the first of those that follow
pub second_is : (t : List ℕ) → field_at 2 (fields_of t) ≡ field_at 1 (more (after_field t))
unfolding field_at
second_is t = rw (fields_are t)

-- and the third is the second of them
pub third_is : (t : List ℕ) → field_at 3 (fields_of t) ≡ field_at 2 (more (after_field t))
unfolding field_at
third_is t = rw (fields_are t)

-- a line ends with its newline if what follows its first field does
pub ended_after_lem : (t : List ℕ) → ended t ≡ ended (after_field t)
unfolding ended after_field parts
ended_after_lem [] = refl
ended_after_lem (b ∷ []) =
    by_test (eqb b newline) (λ n. rw (eqb-true b newline n))
    (λ n. by_test (eqb b tab) (λ e. rw (eqb-true b tab e)) (λ e. rw (n, e)))
ended_after_lem (b ∷ c ∷ t) =
    by_test (eqb b newline) (λ n. rw (eqb-true b newline n))
    (λ n. by_test (eqb b tab) (λ e. rw (eqb-true b tab e)) (λ e. rw (n, e) (ended_after_lem (c ∷ t))))

-- a tab in front does not change this
pub ended_tab : (t : List ℕ) → ended (tab ∷ t) ≡ ended t
unfolding ended
ended_tab [] = refl
ended_tab (b ∷ t) = refl
