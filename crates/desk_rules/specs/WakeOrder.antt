-- The order of a step's wakes: which of two is told first, and which comes first in the search of rule 4 (01, rule 4).
use Rattle.std.specs.Prelude.{ℕ, ◌<◌, ◌≡◌, List, ◌∷◌}
use Rattle.conflict.specs.declared.action.Action.{Action}
use Rattle.laws.specs.Standing.{In}
use Rattle.desk_rules.specs.Desk.{Waiter, Desk}
use Rattle.desk_rules.specs.Rules.{wake}
use Rattle.desk_rules.specs.Waiting.{Ahead}

-- wake x is told before wake y
pub data Before (x y : Action) : List Action → Type 0 where
  next : {rest : List Action} → In y rest → Before x y (x ∷ rest)
  further : {z : Action} {rest : List Action} → Before x y rest → Before x y (z ∷ rest)

-- the queues are searched cell by cell from 0 to 63, each from the front: x comes before y if its cell is smaller, or if the cell is the same and its job stood ahead in that queue (01, rule 4)
pub data Sooner (d : Desk) (x y : Action) : Type 0 where
  smaller_cell : x.cell < y.cell → Sooner d x y
  stood_ahead : (c : ℕ) (v w : Waiter) → x ≡ wake c v → y ≡ wake c w → Ahead v w (d.row c).queue → Sooner d x y
