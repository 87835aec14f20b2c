-- The flags that scanning keeps, one for each of the jobs 0 to 255: which have committed or given up.
-- Assumes nothing.
use Prim.Native.Nat.{ℕ, ◌<◌}
use mathlib.Core.Path.{◌≡◌}
use mathlib.Core.Bool.{Bool, false}
use mathlib.Core.List.{List}
use lib.ListN.{get_or}
use Rattle.laws.specs.Lists.{member}

-- the flags of jobs 0 to 255 say which have committed or given up
abbrev pub Flagged : List Bool → List ℕ → Type 0
Flagged flags ended = (j : ℕ) → j < 256 → get_or flags j false ≡ member j ended
