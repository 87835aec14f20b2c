-- What the reporter tells and leaves if there is room for the longest line: the line stands before the place told, and none is refused.
-- Assumes nothing.
use Prim.Native.Nat.{ℕ, ◌≤◌}
use mathlib.Core.Path.{◌≡◌, sym, ap, ◌∙◌}
use mathlib.Core.List.{List}
use native.Mathlib.Omega.{arith}
use lib.ListN.{length, take}
use Rattle.std.specs.Prelude.{Result, Ok, Err}
use Rattle.std.specs.Result.{result_unwrap_or}
use Rattle.terms.specs.declared.refusals.Refusal.{Refusal}
use Rattle.text_rules.specs.Records.{told, left}
use Rattle.judge_rules.specs.VerdictLine.{verdict_of, line_limit}
use Rattle.judge_line.proofs.LineLength.{verdict_told, verdict_left}

module _ (b text : List ℕ) (w : Result ℕ Refusal) (room : line_limit ≤ length b) (said : w ≡ told b 0 (verdict_of text)) where
  -- the place told is the line's length
  place_is : (n : ℕ) → n ≡ result_unwrap_or w 0 → n ≡ length (verdict_of text)
  place_is n next = next ∙ ap (λ r. result_unwrap_or r 0) (said ∙ verdict_told b text room)

  -- the line stands before it
  pub line_stands : (n : ℕ) (after : List ℕ) → w ≡ Ok n → after ≡ left b 0 (verdict_of text) → take n after ≡ verdict_of text
  line_stands n after e f = rw (f, place_is n (sym (ap (λ r. result_unwrap_or r 0) e))) (verdict_left b text room)

  -- no line is refused
  pub not_refused : {P : Type 0} (why : Refusal) → w ≡ Err why → P
  not_refused why e = let z : ◌≡◌ {A = ℕ} 0 1 = cc (verdict_told b text room) in absurd (omega arith)

module _ {w : Result ℕ Refusal} {n : ℕ} (b text after : List ℕ) (room : line_limit ≤ length b) (said : w ≡ told b 0 (verdict_of text)) (rest : after ≡ left b 0 (verdict_of text)) (next : n ≡ result_unwrap_or w 0) where
  -- the line stands before the place told
  pub line_before : take n after ≡ verdict_of text
  line_before = rw (rest, place_is b text w room said n next) (verdict_left b text room)

  -- and it lies within the buffer
  pub place_within : n ≡ length (take n after)
  place_within = place_is b text w room said n next ∙ sym (ap length line_before)
