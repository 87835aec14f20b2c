-- How a list of 32 tells the wakes: the first entries are the wakes, and nothing stands past them. A step is tied if the desk it leaves and its wakes are.
-- Assumes nothing.
use Prim.Native.Nat.{ℕ, ◌≤◌, ◌-◌, ◌+◌}
use mathlib.Core.Path.{◌≡◌, refl, sym, ap, ◌∙◌}
use mathlib.Core.List.{List, [], ◌++◌, map}
use native.Mathlib.Omega.{arith}
use lib.ListN.{length, get_or, replicate, length-append, length-replicate, length-map}
use lib.Seq.{take_at, get_or-append-add}
use Rattle.terms.specs.Limits.{places}
use Rattle.conflict.specs.declared.action.Action.{Action}
use Rattle.desks.specs.declared.Answer.{Answer}
use Rattle.desk_rules.specs.Desk as paper
use Rattle.desk_arrays.specs.declared.state.Desk.{Desk}
use Rattle.desk_arrays.specs.Steps.{no_action, wake_at, listed, saying}
use Rattle.desk_arrays.specs.Stands.{Stands, wakes_told, Tied}
use Rattle.laws.proofs.Copies.{copies_at}

-- the wakes of a desk's places
abbrev pub wakes_by : Desk → List ℕ → List Action
wakes_by d = map (wake_at d.number d.cell d.ask)

module _ (ws : List Action) where
  -- the list has 32 entries
  listed_length : length ws ≤ places → length (listed ws) ≡ places
  unfolding listed
  listed_length h = omega (arith, length-append ws (replicate (places - length ws) no_action), length-replicate (places - length ws) no_action)

  -- past the wakes nothing is told
  listed_rest : (q : ℕ) → length ws ≤ q → get_or (listed ws) q no_action ≡ no_action
  unfolding listed
  listed_rest q h =
      let e : length ws + (q - length ws) ≡ q = omega arith in
      ap (λ i. get_or (ws ++ replicate (places - length ws) no_action) i no_action) (sym e)
      ∙ get_or-append-add ws (replicate (places - length ws) no_action) (q - length ws) no_action ∙ copies_at (places - length ws) no_action (q - length ws)

-- what a step leaves and wakes makes it tied, with its answer
pub said_tied : {e : Desk} {E : paper.Desk} {W : List Action} (a : Answer) (woken : List ℕ) → Stands e E → wakes_by e woken ≡ W → length woken ≤ places - 1 →
    Tied (record { desk = e; said = saying e a woken }) (record { desk = E; said = a; wakes = W })
unfolding saying wakes_told listed
said_tied {e} a woken s h few =
    let n : length (wakes_by e woken) ≡ length woken = length-map woken (wake_at e.number e.cell e.ask) in
    record {
      stands = s;
      answer = refl;
      wakes = take_at (wakes_by e woken) _ (length woken) n ∙ h;
      count = sym n ∙ ap length h;
      few = few;
      size = listed_length (wakes_by e woken) (omega arith);
      rest = λ q l. listed_rest (wakes_by e woken) q (omega arith);
    }

-- a step that wakes nobody
pub quiet_tied : {e : Desk} {E : paper.Desk} (a : Answer) → Stands e E → Tied (record { desk = e; said = saying e a [] }) (record { desk = E; said = a; wakes = [] })
quiet_tied a s = said_tied a [] s refl (omega arith)
