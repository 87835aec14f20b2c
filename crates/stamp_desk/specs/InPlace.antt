-- A step in place: what the timestamp desk's lent fields hold after it, and its answer (02, No. 6).
use Rattle.std.specs.Prelude.{ℕ, ◌≡◌, ◌<◌, Result, Ok, Err}
use Rattle.terms.specs.declared.refusals.Refusal.{Refusal}
use Rattle.terms.specs.Limits.{places, cells}
use Rattle.desks.specs.declared.Answer.{Answer}
use Rattle.stamp_arrays.specs.declared.moves.Move.{Move}
use Rattle.stamp_arrays.specs.declared.moves.Move.TheVariants.{Begin, Close, SendBack, Act}
use Rattle.stamp_arrays.specs.declared.state.Stamps.{Stamps}
use Rattle.stamp_arrays.specs.Steps.{step_of}

-- the place of a move is one of the 32, and the cell of an action one of the 64
abbrev pub Fits : ℕ → Result Move Refusal → Type 0
Fits c (Err why) = Unit {0}
Fits c (Ok (Begin p n)) = p < places
Fits c (Ok (Close p)) = p < places
Fits c (Ok (SendBack p)) = p < places
Fits c (Ok (Act a)) = c < cells

-- the fields hold the desk left, and the answer is told
pub record StepsTo (d : Stamps) (kind job c : ℕ) (after : Stamps) (answer : Answer) : Type 0 where
  pub desk : after ≡ (step_of d kind job c).stamps
  pub said : answer ≡ (step_of d kind job c).answer
