-- What holds for the places of every started desk: they name the open jobs, each once, and every open job's number was given. Each desk's own crate proves that every step keeps it.
use Rattle.std.specs.Prelude.{ℕ, ◌<◌, ◌≡◌, ◌≢◌, Bool, true, false, List, length}
use Rattle.laws.specs.Lists.{member}
use Rattle.terms.specs.Limits.{places}
use Rattle.desks.specs.Places.{Once}

-- for a desk with this next number, these places and this test of being open
pub record Seating (next : ℕ) (jobs : List ℕ) (is_open : ℕ → Bool) : Type 0 where
  pub seats : (j : ℕ) → is_open j ≡ true → member j jobs ≡ true
  pub opens : (j : ℕ) → j ≢ 0 → member j jobs ≡ true → is_open j ≡ true
  pub nobody : is_open 0 ≡ false
  pub once : Once jobs
  pub size : length jobs ≡ places
  pub below : (j : ℕ) → is_open j ≡ true → j < next
