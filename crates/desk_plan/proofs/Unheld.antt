-- A cell that nobody holds: every mode agrees with what the places hold on it.
-- Assumes nothing.
use Prim.Native.Nat.{ℕ}
use mathlib.Core.Path.{◌≡◌, refl, ap, ◌∙◌}
use mathlib.Core.Bool.{Bool, true, false, ◌||◌}
use mathlib.Core.List.{List}
use lib.Dec.{eqb}
use lib.ListN.{get_or}
use borrow.Author.Tests.{eqb-true}
use Rattle.terms.specs.Limits.{places}
use Rattle.conflict.specs.declared.modes.Mode.{Mode}
use Rattle.conflict.specs.Modes.{grants, mode_of}
use Rattle.conflict.proofs.ModeLaws.{grants_free}
use Rattle.conflict.proofs.ModeCodes.{mode_zero}
use Rattle.desk_arrays.specs.Places.{spot, mode_at, agrees_at}
use Rattle.desk_arrays.proofs.EveryPlace.{all_each, each_all}
use Rattle.desk_plan.specs.Grants.{none_holds}

-- beside nothing every mode is granted
beside_nothing : (b : Bool) (m : Mode) → (b || grants (mode_of 0) m) ≡ true
beside_nothing true m = refl
beside_nothing false m = ap (λ n. grants n m) mode_zero ∙ grants_free m

-- where nobody holds the cell, every mode agrees with every other holder (01, rule 3)
pub unheld_agrees : (held : List ℕ) (c p : ℕ) (m : Mode) → none_holds held c ≡ true → agrees_at held c p m ≡ true
unfolding none_holds agrees_at mode_at
unheld_agrees held c p m h =
    each_all (λ q. eqb q p || grants (mode_of (get_or held (spot c q) 0)) m) places
    (λ q l. rw (eqb-true (get_or held (spot c q) 0) 0 (all_each (λ k. eqb (get_or held (spot c k) 0) 0) places h q l)) (beside_nothing (eqb q p) m))
