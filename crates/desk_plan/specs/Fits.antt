-- A plan names only places and cells that exist.
use Rattle.std.specs.Prelude.{ℕ, ◌<◌, Result, Ok, Err}
use Rattle.terms.specs.declared.refusals.Refusal.{Refusal}
use Rattle.terms.specs.Limits.{places, cells}
use Rattle.desk_arrays.specs.declared.moves.Move.{Move}
use Rattle.desk_arrays.specs.declared.moves.Move.TheVariants.{Begin, Keep, Take, Stay, End, Retry}

-- the places and cells that a move names are the desk's
abbrev pub Fits : ℕ → Result Move Refusal → Type 0
Fits c (Err why) = Unit {0}
Fits c (Ok (Begin p n)) = p < places
Fits c (Ok Keep) = Unit {0}
Fits c (Ok (Take p m)) = (p < places) × (c < cells)
Fits c (Ok (Stay p a)) = (p < places) × (c < cells)
Fits c (Ok (End p e)) = p < places
Fits c (Ok Retry) = Unit {0}
