-- Lists made from a function of numbers: a table of its values, and the numbers that pass a test.
use Rattle.std.specs.Prelude.{ℕ, zero, suc, Bool, List, [], ◌∷◌, ◌++◌}
use Rattle.laws.specs.Lists.{put}

-- the first n values of f, from 0 on
unfoldable pub values_of : {A : Type 0} → (ℕ → A) → ℕ → List A
values_of f zero = []
values_of f (suc n) = values_of f n ++ f n ∷ []

-- the numbers that pass the test among the m numbers from k on, in ascending order
unfoldable pub listed : (ℕ → Bool) → ℕ → ℕ → List ℕ
listed f k zero = []
listed f k (suc m) = put (f k) k (listed f (suc k) m)
