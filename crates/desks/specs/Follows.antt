-- What it means that a desk follows another that is kept in another way: the one thing to show for each desk that runs.
use Rattle.std.specs.Prelude.{ℕ, ◌<◌, ◌≤◌, ◌≡◌}
use Rattle.terms.specs.Limits.{last_number}
use Rattle.conflict.specs.History.{History}
use Rattle.desks.specs.Request.{Request}
use Rattle.desks.specs.Stepping.{Stepping}
use Rattle.desks.specs.Started.{StartedOn}
use Rattle.desks.specs.Course.{shown}

-- given the other desk that is seen in each state: a new desk is seen as a new one; and a step of a started desk, with what it leaves, answers and wakes, is seen as the step of the desk seen in it
pub record Follows {S T : Type 0} (see : S → T) (does : Stepping S) (new : ℕ → S) (theirs : Stepping T) (fresh : ℕ → T) : Type 0 where
  pub starts : (n : ℕ) → 0 < n → n ≤ last_number → see (new n) ≡ fresh n
  pub same : (d : S) (h : History) → StartedOn does new d h → (r : Request) → shown see (does d r) ≡ theirs (see d) r
