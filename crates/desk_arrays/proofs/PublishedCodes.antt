-- The codes of the desk's arrays as published to callers, each beside its meaning. They are literals, so that swapping two numbers is seen (02, No. 7).
-- Assumes nothing.
use Prim.Native.Nat.{ℕ}
use mathlib.Core.Path.{◌≡◌, refl}
use mathlib.Core.List.{[], ◌∷◌, map}
use Rattle.terms.specs.declared.letters.Ask.{Ask}
use Rattle.terms.specs.declared.letters.Ask.TheVariants.{Read, Write, Increment, Update}
use Rattle.desk_rules.specs.Desk.{closed, running, waiting, sentback}
use Rattle.desk_arrays.specs.Codes.{ask_of}
use Rattle.desk_arrays.specs.Stands.{status_for}

-- of a place 0 is free, 1 running, 2 waiting (for the cell and with the ask beside it) and 3 sent back
pub statuses_are : (c : ℕ) (a : Ask) → map (λ n. status_for n c a) (0 ∷ 1 ∷ 2 ∷ 3 ∷ []) ≡ closed ∷ running ∷ waiting c a ∷ sentback ∷ []
unfolding status_for
statuses_are c a = refl

-- of what it asked 0 is read, 1 write, 2 increment and 3 read with intent to write
pub asks_are : map ask_of (0 ∷ 1 ∷ 2 ∷ 3 ∷ []) ≡ Read ∷ Write ∷ Increment ∷ Update ∷ []
asks_are = refl
