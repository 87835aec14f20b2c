-- Choosing by a test: `pick`, and the few facts on Bool that proofs use again and again; `proofs/Choosing.antt` has the laws of `pick`.
-- Assumes nothing.
use Rattle.std.specs.Prelude.{◌≡◌, refl, Bool, true, false}
use Rattle.std.proofs.Common.{sym, ◌∙◌, subst}

-- the first value if the test holds, else the second
abbrev pub pick : {A : Type 0} → Bool → A → A → A
pick true x y = x
pick false x y = y

-- a test holds if one computed elsewhere equals it and holds
pub was_true : {a : Bool} (b : Bool) → a ≡ b → a ≡ true → b ≡ true
was_true b e h = sym e ∙ h

-- a test fails if one computed elsewhere equals it and fails
pub was_false : {a : Bool} (b : Bool) → a ≡ b → a ≡ false → b ≡ false
was_false b e h = sym e ∙ h

-- a proof by the two values of a test
pub by_test : {P : Type 0} (b : Bool) → (b ≡ true → P) → (b ≡ false → P) → P
by_test true yes' no' = yes' refl
by_test false yes' no' = no' refl

-- a test cannot both hold and fail
pub not_both : {P : Type 0} {b : Bool} → b ≡ true → b ≡ false → P
not_both {b = b} h g = absurd (subst holds (sym h ∙ g) tt)
  where
    holds : Bool → Type 0
    holds true = Unit {0}
    holds false = ⊥
