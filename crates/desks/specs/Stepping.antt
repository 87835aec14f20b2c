-- A desk is anything that takes requests one step at a time: the paper's desk, and every desk that runs.
use Rattle.std.specs.Prelude.{List, [], ◌∷◌}
use Rattle.conflict.specs.declared.action.Action.{Action}
use Rattle.desks.specs.declared.Answer.{Answer}
use Rattle.desks.specs.Request.{Request}

-- what a step leaves and tells: the desk, the answer, and the wakes in their order
pub record Stepped (S : Type 0) : Type 0 where
  pub desk : S
  pub said : Answer
  pub wakes : List Action

-- the step of a desk whose states are S
abbrev pub Stepping : Type 0 → Type 0
Stepping S = S → Request → Stepped S

-- the desk after the requests, in their order
abbrev pub through : {S : Type 0} → Stepping S → S → List Request → S
through step d [] = d
through step d (r ∷ rs) = through step (step d r).desk rs
