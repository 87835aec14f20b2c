-- A verdict in four numbers: each case has its numbers, and those of a small verdict fit 32 bits.
-- Assumes nothing.
use Prim.Native.Nat.{ℕ}
use mathlib.Core.Path.{◌≡◌, subst}
use mathlib.Core.List.{[], ◌∷◌}
use mir.Syntax.{w32}
use mir.Val.{Fits}
use Rattle.terms.specs.declared.refusals.Refusal.{Refusal}
use Rattle.terms.specs.Refusals.{number_of, field_of}
use Rattle.judge_rules.specs.declared.verdict.Verdict.{Verdict}
use Rattle.judge_rules.specs.declared.verdict.Verdict.TheVariants.{Orderly, Knot, Dirty, No}
use Rattle.judge_rules.specs.Judgement.{in_numbers}
use Rattle.judge.specs.Judged.{Small}

module _ (v : Verdict) where
  -- the length of an order fits
  pub orderly_fits : (n : ℕ) → Small v → v ≡ Orderly n → Fits w32 n
  orderly_fits n s e = record { fits = subst Small e s }

  -- the length of a knot fits
  pub knot_fits : (n : ℕ) → Small v → v ≡ Knot n → Fits w32 n
  knot_fits n s e = record { fits = subst Small e s }

  -- the number of a line fits
  pub line_fits : (line : ℕ) (why : Refusal) → Small v → v ≡ No line why → Fits w32 line
  line_fits line why s e = record { fits = subst Small e s }

  -- the numbers of an order
  pub orderly_numbers : (n : ℕ) → v ≡ Orderly n → 0 ∷ n ∷ 0 ∷ 0 ∷ [] ≡ in_numbers v
  unfolding in_numbers
  orderly_numbers n e = rw e

  -- the numbers of a knot
  pub knot_numbers : (n : ℕ) → v ≡ Knot n → 1 ∷ n ∷ 0 ∷ 0 ∷ [] ≡ in_numbers v
  unfolding in_numbers
  knot_numbers n e = rw e

  -- the numbers of a dirty read
  pub dirty_numbers : (reader writer : ℕ) → v ≡ Dirty reader writer → 3 ∷ reader ∷ writer ∷ 0 ∷ [] ≡ in_numbers v
  unfolding in_numbers
  dirty_numbers reader writer e = rw e

  -- the numbers of a refusal
  pub refusal_numbers : (line m f : ℕ) (why : Refusal) → v ≡ No line why → m ≡ number_of why → f ≡ field_of why → 2 ∷ m ∷ line ∷ f ∷ [] ≡ in_numbers v
  unfolding in_numbers
  refusal_numbers line m f why e h g = rw (e, h, g)
