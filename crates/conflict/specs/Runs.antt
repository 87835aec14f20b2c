-- A run ends with a commit, a give-up or a sending back (01, Jobs and their numbers).
use Rattle.std.specs.Prelude.{ℕ, Bool, true}
use Rattle.conflict.specs.declared.action.Mark.{Mark}
use Rattle.conflict.specs.History.{History, marked}

-- every mark ends a run
unfoldable pub is_end : Mark → Bool
is_end m = true

-- whether job j has a mark in the history
unfoldable pub ended : ℕ → History → Bool
ended j h = marked is_end j h
