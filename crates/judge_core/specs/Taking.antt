-- The jobs of a history taken away in order, and what is left of them (01, The judge's rules: Orderly).
use Rattle.std.specs.Prelude.{ℕ, ◌≤◌, ◌≡◌, Bool, List, length, take}
use Rattle.conflict.specs.Schedule.{edge}
use Rattle.conflict.specs.History.{History, committed_part}
use Rattle.judge_rules.specs.Order.{order_of, stuck}
use Rattle.judge_rules.specs.Judged.{jobs_of}
use Rattle.judge_core.specs.Left.{left_of}
use Rattle.judge_core.specs.Preceding.{Known}

-- the jobs of a history have been taken away by its edges as long as one was ready
pub record Took (h : History) (left : List Bool) (placed predecessors : List ℕ) (k : ℕ) : Type 0 where
  pub few : length (jobs_of h) ≤ 255
  pub remains : left_of left ≡ stuck (edge (committed_part h)) (jobs_of h)
  pub order : take k placed ≡ order_of (edge (committed_part h)) (jobs_of h)
  pub count : k ≡ length (order_of (edge (committed_part h)) (jobs_of h))
  pub known : Known (edge (committed_part h)) left predecessors 256
