-- The codes of modes: a mode's code reads back as that mode, 0 as nothing held, and each code is the number that callers are told.
-- Assumes nothing.
use mathlib.Core.Path.{◌≡◌, refl}
use mathlib.Core.List.{[], ◌∷◌, map}
use Rattle.conflict.specs.declared.modes.Mode.{Mode}
use Rattle.conflict.specs.declared.modes.Mode.TheVariants.{Free, S, X, I, U}
use Rattle.conflict.specs.Modes.{code_of, mode_of}

-- a mode's code reads back as that mode
pub mode_code : (m : Mode) → mode_of (code_of m) ≡ m
unfolding mode_of code_of
mode_code Free = refl
mode_code S = refl
mode_code X = refl
mode_code I = refl
mode_code U = refl

-- 0 reads as nothing held
pub mode_zero : mode_of 0 ≡ Free
unfolding mode_of code_of
mode_zero = refl

-- the published numbers as literals: 0 nothing, 1 shared, 2 exclusive, 3 increment, 4 update, and 5 stands for nothing
pub mode_codes_are : map mode_of (0 ∷ 1 ∷ 2 ∷ 3 ∷ 4 ∷ 5 ∷ []) ≡ Free ∷ S ∷ X ∷ I ∷ U ∷ Free ∷ []
unfolding mode_of code_of
mode_codes_are = refl
