-- Several requests one after another: the desk they leave, the numbers they give and the history they write (01, Jobs and their numbers).
use Rattle.std.specs.Prelude.{ℕ, List}
use Rattle.conflict.specs.History.{History}
use Rattle.desks.specs.Request.{Request}
use Rattle.desk_rules.specs.Desk.{Desk}
use Rattle.desks.specs.Stepping.{through}
use Rattle.desk_rules.specs.Step.{step}
use Rattle.desks.specs.Requests.{writes, gives}

-- the desk after the requests, in their order
abbrev pub desk_after : Desk → List Request → Desk
desk_after = through step

-- on the paper's desk
abbrev pub given : Desk → List Request → List ℕ
given = gives step

-- on the paper's desk
abbrev pub history_of : Desk → List Request → History
history_of = writes step
