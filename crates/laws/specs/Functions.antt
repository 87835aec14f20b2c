-- A function of numbers, changed at one number.
-- Nothing here comes from the paper; the definition is open to every crate.
use Rattle.std.specs.Prelude.{ℕ, eqb}
use Rattle.laws.specs.Choice.{pick}

-- the function with a new value at one number, and otherwise as before
unfoldable pub at : {A : Type 0} → (ℕ → A) → ℕ → A → ℕ → A
at f i x j = pick (eqb j i) x (f j)
