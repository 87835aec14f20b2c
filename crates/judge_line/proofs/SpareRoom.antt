-- How much room is left after the fields of the first numbers, and whether all fields fit.
-- Assumes nothing.
use Prim.Native.Nat.{ℕ, ◌+◌, ◌≤◌, ◌<◌}
use mathlib.Core.Path.{◌≡◌, sym, ap}
use mathlib.Core.Bool.{true, false}
use mathlib.Core.List.{List}
use native.Mathlib.Omega.{arith}
use borrow.Author.Tests.{le-leb, lt-leb}
use lib.Dec.{leb}
use lib.ListN.{length, take, get_or}
use Rattle.text_rules.specs.Decimal.{decimal}
use Rattle.text_rules.specs.Records.{tabbed}
use Rattle.text_rules.proofs.TabbedLaws.{next_length, first_shorter, tabbed_all}

-- what is left, and the fields of the first numbers, make the room
pub record Spare (ns : List ℕ) (room spare i : ℕ) : Type 0 where
  pub within : i ≤ length ns
  pub left : spare + length (tabbed (take i ns)) ≡ room

-- before the first number
pub spare_all : (ns : List ℕ) (room : ℕ) → Spare ns room room 0
unfolding tabbed
spare_all ns room = record { within = omega arith; left = omega arith }

-- one number more, where its field fits
pub spare_next : {ns : List ℕ} {room spare i : ℕ} (digits rest : ℕ) → Spare ns room spare i → i < length ns → digits ≡ length (decimal (get_or ns i 0)) → rest + digits + 1 ≡ spare →
    Spare ns room rest (i + 1)
spare_next {ns} {room} {spare} {i} digits rest s h d e =
    record { within = omega arith; left = omega (arith, next_length ns i h, s.left) }

-- where a field does not fit, they do not fit all
pub spare_none : {ns : List ℕ} {room spare i : ℕ} (digits : ℕ) → Spare ns room spare i → i < length ns → digits ≡ length (decimal (get_or ns i 0)) → spare ≤ digits →
    false ≡ leb (length (tabbed ns)) room
spare_none {ns} {room} {spare} {i} digits s h d e =
    sym (lt-leb (length (tabbed ns)) room (omega (arith, next_length ns i h, first_shorter ns (i + 1), s.left)))

-- where each field fitted, they fit all
pub spare_enough : {ns : List ℕ} {room spare i : ℕ} → Spare ns room spare i → length ns ≤ i → true ≡ leb (length (tabbed ns)) room
spare_enough {ns} {room} {spare} {i} s h =
    sym (le-leb (length (tabbed ns)) room (omega (arith, ap length (tabbed_all ns i h), s.left)))
