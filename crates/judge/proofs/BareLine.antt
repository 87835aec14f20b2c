-- The place of a line without its newline: one look at the last byte finds it.
-- Assumes nothing.
use Prim.Native.Nat.{ℕ, zero, suc, ◌+◌, ◌-◌, ◌≤◌, ◌<◌}
use mathlib.Core.Path.{◌≡◌, ap}
use mathlib.Core.List.{List, [], ◌∷◌}
use native.Mathlib.Numerals.{sub-one}
use native.Mathlib.Omega.{arith}
use lib.Dec.{eqb}
use lib.ListN.{length, get_or, take, drop, length-drop}
use lib.Seq.{get_or-drop}
use Rattle.laws.specs.Choice.{by_test}
use Rattle.terms.specs.Words.{newline}
use Rattle.text_rules.specs.Split.{used, part}
use Rattle.text_rules.proofs.Cutting.{used_within, used_some}
use Rattle.judge_rules.specs.HistoryText.{bare}
use Rattle.judge.specs.Scanned.{bare_end}

-- with a byte in front the place is one further
bare_further : (b : ℕ) (t : List ℕ) (n : ℕ) → 0 < n → bare_end (b ∷ t) (suc n) ≡ suc (bare_end t n)
unfolding bare_end
bare_further b t zero h = absurd (omega arith)
bare_further b t (suc n) h =
    rw (sub-one (suc (suc n)), sub-one (suc n)) (by_test (eqb (get_or t n 0) newline) (λ e. rw e) (λ e. rw e))

-- the first line of a text without its newline
bare_first : (t : List ℕ) → 0 < length t → take (bare_end t (used t)) t ≡ bare (take (used t) t)
unfolding bare used
bare_first [] h = absurd (omega arith)
bare_first (b ∷ []) h = unfold bare_end in by_test (eqb b newline) (λ e. simp e) (λ e. simp e)
bare_first (b ∷ c ∷ t) h =
    by_test (eqb b newline)
    (λ e. unfold bare_end in simp e)
    (λ e. simp (e, bare_further b (c ∷ t) (used (c ∷ t)) (used_some (c ∷ t) (omega arith))) (ap (λ l. b ∷ l) (bare_first (c ∷ t) (omega arith))))

-- the place in a text that a line begins in at another place
bare_from : (text : List ℕ) (from n : ℕ) → 0 < n → bare_end text (from + n) ≡ from + bare_end (drop from text) n
unfolding bare_end
bare_from text from n h =
    let e : from + n - 1 ≡ from + (n - 1) = omega arith in
    rw (e, get_or-drop from text (n - 1) 0) (by_test (eqb (get_or text (from + (n - 1)) 0) newline) (λ q. rw q) (λ q. rw q))

-- a line's place without its newline is there or one before
bare_near : (text : List ℕ) (to : ℕ) → (to - 1 ≤ bare_end text to) × (bare_end text to ≤ to)
unfolding bare_end
bare_near text to = by_test (eqb (get_or text (to - 1) 0) newline) (λ q. rw q (omega arith)) (λ q. rw q (omega arith))

-- where a line stands in a text, without its newline
pub record BarePlace (text : List ℕ) (from to : ℕ) : Type 0 where
  pub from_on : from ≤ bare_end text to
  pub within : bare_end text to ≤ length text
  pub place : part text from (bare_end text to) ≡ bare (part text from to)

-- the line from a place on stands there
pub bare_place : (text : List ℕ) (from to : ℕ) → from < length text → to ≡ from + used (drop from text) → BarePlace text from to
bare_place text from to h e =
    let u : to - from ≡ used (drop from text) = omega arith in
    let some_left : 0 < length (drop from text) = omega (arith, length-drop from text) in
    let some-used : 0 < used (drop from text) = used_some (drop from text) some_left in
    let n = bare_near text to in
    let same_place : bare_end text to - from ≡ bare_end (drop from text) (used (drop from text)) =
    omega (arith, bare_from text from (used (drop from text)) some-used, ap (bare_end text) e) in
    record {
      from_on = omega arith;
      within = omega (arith, used_within (drop from text), length-drop from text);
      place = rw (same_place, u) (bare_first (drop from text) some_left);
    }
