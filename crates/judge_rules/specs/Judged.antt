-- What the judge finds of jobs and their edges, and of a history; the verdict that it says of this is in Judgement.antt (01, The judge's rules).
use Rattle.std.specs.Prelude.{ℕ, Bool, true, false, List, [], ◌∷◌}
use Rattle.laws.specs.Sorted.{sorted}
use Rattle.conflict.specs.Schedule.{edge}
use Rattle.conflict.specs.History.{History, committed_part, commit_order}
use Rattle.judge_rules.specs.Order.{Edges, order_of, stuck}
use Rattle.judge_rules.specs.Knot.{knot_in}

-- what is found for a history: orderly, with an order, or a knot (01, The judge's rules)
pub data Finding : Type 0 where
  orderly : List ℕ → Finding
  knotted : List ℕ → Finding

-- whether the finding is orderly
unfoldable pub is_orderly : Finding → Bool
is_orderly (orderly order) = true
is_orderly (knotted js) = false

-- orderly if no job remains, else the knot among the jobs that do
unfoldable pub finding_by : Edges → List ℕ → List ℕ → Finding
finding_by e order [] = orderly order
finding_by e order (j ∷ left) = knotted (knot_in e (j ∷ left))

-- what is found for jobs in ascending order
unfoldable pub judged : Edges → List ℕ → Finding
judged e jobs = finding_by e (order_of e jobs) (stuck e jobs)

-- the jobs with a c, in ascending order, each once; a committed job without actions counts too (01, The judge's rules)
unfoldable pub jobs_of : History → List ℕ
jobs_of h = sorted (commit_order h)

-- what is found for a history: for its committed jobs, by the edges of its committed part (01, The judge's rules)
unfoldable pub finding_of : History → Finding
finding_of h = judged (edge (committed_part h)) (jobs_of h)
