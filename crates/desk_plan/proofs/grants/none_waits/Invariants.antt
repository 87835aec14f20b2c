-- `desk_plan::grants::none_waits` meets its contract. The loop's invariant: the flag tells whether none of the places passed waits.
-- Assumes nothing.
use mathlib.Core.Path.{◌≡◌}
use mathlib.Core.Bool.{not}
use lib.Dec.{eqb}
use lib.ListN.{get_or}
use Rattle.desk_arrays.specs.Codes.{waiting_code}
use Rattle.desk_arrays.specs.Places.{all_below}
use Rattle.desk_plan.proofs.grants.none_waits.Given as goal

abbrev pub invariant-loop-code : goal.invariant-loop-code
invariant-loop-code l = l.none ≡ all_below (λ k. not (eqb (get_or l.status k 0) waiting_code)) l.code-index
