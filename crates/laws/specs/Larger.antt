-- The larger of two numbers.
-- Nothing here comes from the paper; the definition is open to every crate.
use Rattle.std.specs.Prelude.{ℕ, ltb}
use Rattle.laws.specs.Choice.{pick}

-- the larger of two numbers
unfoldable pub larger : ℕ → ℕ → ℕ
larger m n = pick (ltb m n) n m
