-- What one cut goes through: the bytes up to and including the next newline, as a part of the chunk by themselves.
-- Assumes nothing.
use Prim.Native.Nat.{ℕ, ◌+◌, ◌-◌, ◌≤◌, ◌<◌}
use mathlib.Core.Path.{◌≡◌, refl, sym, ap, ap₂, ◌∙◌}
use mathlib.Core.Bool.{true, false}
use mathlib.Core.List.{List, [], ◌∷◌}
use native.Mathlib.Omega.{arith}
use lib.Dec.{eqb}
use lib.ListN.{length, take, drop, length-drop}
use lib.Seq.{length-take-le}
use Rattle.laws.specs.Choice.{by_test}
use Rattle.terms.specs.Words.{newline}
use Rattle.text_rules.specs.declared.splitter.Splitter.{Splitter}
use Rattle.text_rules.specs.declared.splitter.Cut.{Cut}
use Rattle.text_rules.specs.Split.{following, taken, under_way, through, used, part, cut_of}

-- a line is no longer than the text
pub used_within : (t : List ℕ) → used t ≤ length t
unfolding used
used_within [] = omega arith
used_within (b ∷ t) =
    by_test (eqb b newline) (λ e. rw e (omega arith)) (λ e. rw e (omega (arith, used_within t)))

-- a text that has a byte has a line
pub used_some : (t : List ℕ) → 0 < length t → 0 < used t
unfolding used
used_some [] h = absurd (omega arith)
used_some (b ∷ t) h = by_test (eqb b newline) (λ e. rw e (omega arith)) (λ e. rw e (omega arith))

-- a line by itself has no newline before its last byte
line_alone : (t : List ℕ) → used (take (used t) t) ≡ used t
unfolding used
line_alone [] = refl
line_alone (b ∷ t) = by_test (eqb b newline) (λ e. simp e) (λ e. simp (e, line_alone t))

-- what comes after the line does not matter
through_line : (s : Splitter) (t : List ℕ) → through s (take (used t) t) ≡ through s t
unfolding used through
through_line s [] = refl
through_line s (b ∷ t) = by_test (eqb b newline) (λ e. simp e) (λ e. simp (e, through_line (taken s b) t))

-- if no byte is left, the splitter stays as it is
through_none : (s : Splitter) (t : List ℕ) → used t ≡ 0 → through s t ≡ s
through_none s t h = sym (through_line s t) ∙ rw h (unfold through in refl)

-- the first byte of a new line is the first of a line under way with nothing kept
first_byte : (s : Splitter) (b : ℕ) → s.ended ≡ true → taken (under_way s.kept 0 (following s.line)) b ≡ taken s b
unfolding taken under_way
first_byte s b e = rw e

-- so a new line goes on like a line under way
begun : (s : Splitter) (t : List ℕ) → s.ended ≡ true → 0 < length t → through (under_way s.kept 0 (following s.line)) t ≡ through s t
unfolding through
begun s [] e h = absurd (omega arith)
begun s (b ∷ t) e h = rw (first_byte s b e)

-- a splitter whose line has not ended is a line under way
going : (s : Splitter) → s.ended ≡ false → s ≡ under_way s.kept s.len s.line
unfolding under_way
going s e = λ i. record { kept = s.kept; len = s.len; ended = e i; line = s.line }

module _ (t : List ℕ) (from next : ℕ) (h : next ≡ from + used (drop from t)) where
  -- a cut with nothing left of the chunk
  pub cut_none : (s : Splitter) → next ≡ from → ◌≡◌ {A = Cut} (record { splitter = s; next = next }) (cut_of s t from)
  unfolding cut_of
  cut_none s e =
      let u : used (drop from t) ≡ 0 = omega arith in
      λ i. record { splitter = sym (through_none s (drop from t) u) i; next = h i }

  module _ (some : next ≡ from → ⊥) where
    -- the line's end is within the chunk
    pub cut_within : next ≤ length t
    cut_within = omega (arith, used_within (drop from t), length-drop from t)

    -- the part from the place to the line's end is the line's bytes
    part_is : part t from next ≡ take (used (drop from t)) (drop from t)
    part_is = let e : next - from ≡ used (drop from t) = omega arith in rw e

    -- how many these are
    part_long : length (part t from next) ≡ used (drop from t)
    part_long = ap length part_is ∙ length-take-le (used (drop from t)) (drop from t) (used_within (drop from t))

    -- the bytes of a cut have no newline before the last
    pub cut_part : (0 < length (part t from next)) × (used (part t from next) ≡ length (part t from next))
    cut_part = (omega (arith, part_long), ap used part_is ∙ line_alone (drop from t) ∙ sym part_long)

    -- a cut with a line that goes on in the chunk
    pub cut_on : (s : Splitter) (g : Splitter) → s.ended ≡ false → g ≡ through (under_way s.kept s.len s.line) (part t from next) →
        ◌≡◌ {A = Cut} (record { splitter = g; next = next }) (cut_of s t from)
    unfolding cut_of
    cut_on s g e q =
        let r : g ≡ through s (drop from t) = q ∙ ap₂ through (sym (going s e)) part_is ∙ through_line s (drop from t) in
        λ i. record { splitter = r i; next = h i }

    -- a cut with a line that begins in the chunk
    pub cut_new : (s : Splitter) (g : Splitter) (l : ℕ) → s.ended ≡ true → l ≡ following s.line → g ≡ through (under_way s.kept 0 l) (part t from next) →
        ◌≡◌ {A = Cut} (record { splitter = g; next = next }) (cut_of s t from)
    unfolding cut_of
    cut_new s g l e f q =
        let r : through (under_way s.kept 0 l) (part t from next) ≡ through s (part t from next) = rw f (begun s (part t from next) e cut_part.0) in
        let w : g ≡ through s (drop from t) = q ∙ r ∙ ap (through s) part_is ∙ through_line s (drop from t) in
        λ i. record { splitter = w i; next = h i }
