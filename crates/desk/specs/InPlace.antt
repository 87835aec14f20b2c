-- A step in place: what the lent fields hold after it, and how a lent list tells the woken places (01, The desk's rules).
use Rattle.std.specs.Prelude.{ℕ, ◌≡◌, List, length}
use Rattle.laws.specs.Lists.{filled}
use Rattle.desk_arrays.specs.declared.state.Desk.{Desk}
use Rattle.desk_arrays.specs.declared.state.Told.{Told}
use Rattle.desk_arrays.specs.Settling.{Settling}
use Rattle.desk_arrays.specs.Steps.{carried, move_of, step_of}

-- rule 4 so far: the modes, what each job is doing, and the `count` woken places in the first places of a list
pub record Reached (s : Settling) (list held status woken : List ℕ) (count : ℕ) : Type 0 where
  pub modes : held ≡ s.held
  pub doing : status ≡ s.status
  pub places : woken ≡ filled s.woken list
  pub many : count ≡ length s.woken

-- the places that a step wakes, in order
unfoldable pub woken_by : Desk → ℕ → ℕ → ℕ → List ℕ
woken_by d kind job c = (carried d job c (move_of d kind job c)).woken

-- a step in place: the fields hold the desk left, answer and number of wakes are told, and the woken places stand first in the list
pub record StepsTo (d : Desk) (list : List ℕ) (kind job c : ℕ) (after : Desk) (woken : List ℕ) (told : Told) : Type 0 where
  pub desk : after ≡ (step_of d kind job c).desk
  pub answer : told.answer ≡ (step_of d kind job c).said.answer
  pub count : told.count ≡ (step_of d kind job c).said.count
  pub places : woken ≡ filled (woken_by d kind job c) list
