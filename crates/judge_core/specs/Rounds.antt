-- A cycle of jobs as a part of a trail.
use Rattle.std.specs.Prelude.{ℕ, ◌-◌, ◌≤◌, ◌≡◌, List, length, take, drop}

-- the trail from one place up to another is the cycle
pub record RoundAt (round trail : List ℕ) (start stop : ℕ) : Type 0 where
  pub starting : start ≤ stop
  pub within : stop ≤ length trail
  pub listed : take (stop - start) (drop start trail) ≡ round
