-- The 32 places for open jobs, each with its job's number, or 0 if it is free (01, What is delivered; 01, Jobs and their numbers).
use Rattle.std.specs.Prelude.{ℕ, ◌≡◌, ◌≢◌, Bool, false, not, ◌&&◌, List, [], ◌∷◌, map, eqb}
use Rattle.laws.specs.Choice.{pick}
use Rattle.laws.specs.Lists.{member}

-- a new job takes the first free place
unfoldable pub seated : ℕ → List ℕ → List ℕ
seated j [] = []
seated j (k ∷ ks) = pick (eqb k 0) (j ∷ ks) (k ∷ seated j ks)

-- a job that is closed frees its place
unfoldable pub vacated : ℕ → List ℕ → List ℕ
vacated j ks = map (λ k. pick (eqb k j) 0 k) ks

-- no number is at two places, except 0 for free places
abbrev pub Once : List ℕ → Type 0
Once [] = Unit {0}
Once (k ∷ ks) = (k ≢ 0 → member k ks ≡ false) × Once ks

-- the jobs of the places that pass the test of being open
unfoldable pub open_among : (ℕ → Bool) → List ℕ → List ℕ
open_among is_open [] = []
open_among is_open (k ∷ ks) = pick (is_open k) (k ∷ open_among is_open ks) (open_among is_open ks)

-- whether a job has a place; 0 is not a job's number, it marks a free place
unfoldable pub is_seated : List ℕ → ℕ → Bool
is_seated number j = not (eqb j 0) && member j number
