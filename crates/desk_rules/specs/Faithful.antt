-- What it means that a desk that runs is the paper's desk, kept in another way.
use Rattle.std.specs.Prelude.{ℕ}
use Rattle.desks.specs.Stepping.{Stepping}
use Rattle.desks.specs.Follows.{Follows}
use Rattle.desk_rules.specs.Desk.{Desk, fresh_desk}
use Rattle.desk_rules.specs.Step.{step}

-- a desk that follows the paper's desk
abbrev pub Faithful : {S : Type 0} → (S → Desk) → Stepping S → (ℕ → S) → Type 0
Faithful view does new = Follows view does new step fresh_desk
