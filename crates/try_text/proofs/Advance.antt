-- What a cut gives a caller that goes through a chunk: the splitter keeps its sizes, and the place moves on.
-- Assumes nothing.
use Prim.Native.Nat.{ℕ, ◌-◌, ◌<◌}
use mathlib.Core.Path.{◌≡◌}
use mathlib.Core.List.{List}
use native.Mathlib.Omega.{arith}
use lib.ListN.{length, drop, length-drop}
use Rattle.text_rules.specs.declared.splitter.Splitter.{Splitter}
use Rattle.text_rules.specs.declared.splitter.Cut.{Cut}
use Rattle.text_rules.specs.Split.{cut_of, Sized}
use Rattle.text_rules.proofs.Cutting.{used_some}
use Rattle.text_rules.proofs.Held.{cut_sized}

-- a cut's splitter is sized where the one before was
pub stays_sized : (s : Splitter) (chunk : List ℕ) (from : ℕ) (r : Cut) → r ≡ cut_of s chunk from → Sized s → Sized r.splitter
stays_sized s chunk from r e h = rw e (cut_sized s chunk from h)

-- a cut from a place within the chunk ends after it
pub moves_on : (s : Splitter) (chunk : List ℕ) (from : ℕ) (r : Cut) → r ≡ cut_of s chunk from → from < length chunk → from < r.next
unfolding cut_of
moves_on s chunk from r e h =
    let left : length (drop from chunk) ≡ length chunk - from = length-drop from chunk in
    rw e (omega (arith, used_some (drop from chunk) (omega arith)))
