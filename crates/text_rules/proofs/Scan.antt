-- The place after a line: after the first newline from a place on, or at the text's end.
-- Assumes nothing.
use Rattle.std.proofs.Common.{◌≡◌, ◌==◌, ℕ, ◌+◌, ◌≤◌, min, Bool, List, [], ◌∷◌, Some, None, length, drop, eqb, ltb, refl, arith, drop_of_length-le, add-zero, sym}
use Rattle.std.specs.List.{position, position_or_len}
use borrow.Author.Tests.{ltb-true, ltb-false}
use Rattle.laws.specs.Choice.{by_test}
use Rattle.terms.specs.Words.{newline}
use Rattle.text_rules.specs.Split.{used}

-- whether a byte is a newline, as the code asks it
abbrev ends : ℕ → Bool
ends b = b == newline

-- a line's bytes are those before the first newline and the newline, or all if there is none
used_is : (t : List ℕ) → used t ≡ min (position_or_len ends t + 1) (length t)
unfolding used
used_is [] = refl
used_is (b ∷ t) = by_test (eqb b newline) (λ e. rw e (omega arith)) (λ e. rw e (omega (arith, used_is t)))

-- where a newline is found, the line ends after it
pub line_found : (t : List ℕ) (i : ℕ) → position ends t ≡ Some i → i + 1 ≡ used t
line_found t i h =
    let n = position_or_len ends t in
    by_test (ltb n (length t))
    (λ e. let k : n ≡ i = cc (rw e at h) in omega (arith, used_is t, ltb-true n (length t) e))
    (λ e. let z : ◌≡◌ {A = ℕ} 0 1 = cc (rw e at h) in absurd (omega arith))

-- where none is found, the text is one line
pub line_whole : (t : List ℕ) → position ends t ≡ None → length t ≡ used t
line_whole t h =
    let n = position_or_len ends t in
    by_test (ltb n (length t))
    (λ e. let z : ◌≡◌ {A = ℕ} 0 1 = cc (rw e at h) in absurd (omega arith))
    (λ e. omega (arith, used_is t, ltb-false n (length t) e))

-- past the text's end there is no line
pub end_past : (t : List ℕ) (from : ℕ) → length t ≤ from → from ≡ from + used (drop from t)
unfolding used
end_past t from h = rw (drop_of_length-le t h) (sym (add-zero from))
