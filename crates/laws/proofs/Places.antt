-- The library's search for the first element that passes a test finds the place of a number, as `pos` has it.
-- Assumes nothing.
use Rattle.std.proofs.Common.{◌≡◌, ℕ, suc, ◌+◌, ◌≤◌, ◌<◌, Bool, true, false, not, cond, nat_lt, ◌==◌, List, [], ◌∷◌, length, unwrap_or, refl, ap, sym, ◌∙◌, arith}
use Rattle.std.proofs.lemmas.Bool.{ltb-false}
use Rattle.std.specs.List.{position, position_or_len, prefix_len}
use Rattle.laws.specs.Choice.{pick, by_test}
use Rattle.laws.specs.Lists.{pos}

-- the search stops at the place of the number, or at the length if it stands nowhere
stops_at : (xs : List ℕ) (j : ℕ) → position_or_len (λ n. n == j) xs ≡ pos xs j
unfolding pos
stops_at [] j = refl
stops_at (x ∷ xs) j =
    let rest : position_or_len (λ n. n == j) xs ≡ pos xs j = stops_at xs j in
    by_test (x == j) (λ t. rw t refl) (λ f. rw f (omega (arith, rest)))

-- a place found is below the length, or is the length
within : (xs : List ℕ) (j : ℕ) → pos xs j ≤ length xs
unfolding pos
within [] j = omega arith
within (x ∷ xs) j =
    let rest : pos xs j ≤ length xs = within xs j in
    by_test (x == j) (λ t. rw t (omega arith)) (λ f. rw f (omega (arith, rest)))

-- what the search gives, with the length for a number that stands nowhere
pub place_found : (xs : List ℕ) (j : ℕ) → unwrap_or (position (λ n. n == j) xs) (length xs) ≡ pos xs j
place_found xs j =
    by_test (nat_lt (position_or_len (λ n. n == j) xs) (length xs))
    (λ t. rw t (stops_at xs j))
    (λ f. rw f (omega (arith, ltb-false _ _ f, stops_at xs j, within xs j)))
