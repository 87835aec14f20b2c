-- The jobs that a step wakes, in place or by value: the wakes told are those of the woken places, which stand first in the list of the step in place (01, rule 4).
-- Assumes nothing.
use Prim.Native.Nat.{ℕ}
use mathlib.Core.Path.{◌≡◌, refl, sym, ap, ◌∙◌}
use mathlib.Core.List.{List, map}
use lib.ListN.{length, take, length-map}
use lib.Seq.{take-append_seam}
use Rattle.laws.proofs.Filled.{filled_first}
use Rattle.desk_arrays.specs.declared.state.Desk.{Desk}
use Rattle.desk_arrays.specs.declared.state.Told.{Told}
use Rattle.desk_arrays.specs.Steps.{wake_at, listed, saying, performed, step_of}
use Rattle.desk_arrays.specs.Stands.{wakes_told}
use Rattle.desk.specs.InPlace.{woken_by, StepsTo}

module _ (d : Desk) (kind job c : ℕ) where
  -- as many wakes are told as places are woken
  pub count_of : (step_of d kind job c).said.count ≡ length (woken_by d kind job c)
  unfolding step_of performed saying woken_by
  count_of = refl

  -- the wakes that the step says are those of the places, on the desk that it leaves
  pub wakes_of_lem : wakes_told (step_of d kind job c).said ≡ map (wake_at (step_of d kind job c).desk.number (step_of d kind job c).desk.cell (step_of d kind job c).desk.ask) (woken_by d kind job c)
  unfolding wakes_told step_of performed saying listed woken_by
  wakes_of_lem =
      let ws = map (wake_at (step_of d kind job c).desk.number (step_of d kind job c).desk.cell (step_of d kind job c).desk.ask) (woken_by d kind job c) in
      ap (λ n. take n (listed ws)) (sym (length-map (woken_by d kind job c) _)) ∙ take-append_seam ws _

  -- so as many are told as are counted, whatever desk it is
  pub count_told : (step_of d kind job c).said.count ≡ length (wakes_told (step_of d kind job c).said)
  count_told = count_of ∙ sym (ap length wakes_of_lem ∙ length-map (woken_by d kind job c) _)

module _ {d e : Desk} {l w : List ℕ} {kind job c : ℕ} {t : Told} (s : StepsTo d l kind job c e w t) where
  -- of the list of the step in place, the first places, as many as are told, are those woken
  pub first_woken : take t.count w ≡ woken_by d kind job c
  first_woken =
      ap (λ n. take n w) (s.count ∙ count_of d kind job c) ∙ ap (take (length (woken_by d kind job c))) s.places ∙ filled_first (woken_by d kind job c) l

  -- so what they say, read off the fields as the step leaves them, are the wakes of the step
  pub wakes_first : map (wake_at e.number e.cell e.ask) (take t.count w) ≡ wakes_told (step_of d kind job c).said
  wakes_first =
      ap (map (wake_at e.number e.cell e.ask)) first_woken
      ∙ ap (λ (x : Desk). map (wake_at x.number x.cell x.ask) (woken_by d kind job c)) s.desk ∙ sym (wakes_of_lem d kind job c)
