-- A start in numbers: what is answered and left if the first number is 0, and if it is not.
-- Assumes nothing.
use Prim.Native.Nat.{ℕ}
use mathlib.Core.Path.{◌≡◌, refl}
use borrow.Author.Tests.{ne_eqb}
use Rattle.terms.specs.declared.refusals.Refusal.TheVariants.{StartedAtZero}
use Rattle.terms.specs.Refusals.{number_of}
use Rattle.desk_arrays.specs.declared.state.Desk.{Desk}
use Rattle.desk_arrays.specs.Steps as locks
use Rattle.stamp_arrays.specs.declared.state.Stamps.{Stamps}
use Rattle.stamp_arrays.specs.Steps as stamps
use Rattle.tuyenlomac.specs.Desks.{start_number, start_leaves, stamps_number, stamps_leaves}

pub locks_refused : (d : Desk) (n r : ℕ) → n ≡ 0 → r ≡ number_of StartedAtZero → (r ≡ start_number (locks.start_of n)) × (d ≡ start_leaves d (locks.start_of n))
unfolding locks.start_of start_number start_leaves
locks_refused d n r z e = rw z (e, refl)

pub locks_started : (d : Desk) (n : ℕ) → (n ≡ 0 → ⊥) → (0 ≡ start_number (locks.start_of n)) × (locks.empty_desk n ≡ start_leaves d (locks.start_of n))
unfolding locks.start_of start_number start_leaves
locks_started d n z = rw (ne_eqb n 0 z) (refl, refl)

pub stamps_refused : (d : Stamps) (n r : ℕ) → n ≡ 0 → r ≡ number_of StartedAtZero → (r ≡ stamps_number (stamps.start_of n)) × (d ≡ stamps_leaves d (stamps.start_of n))
unfolding stamps.start_of stamps_number stamps_leaves
stamps_refused d n r z e = rw z (e, refl)

pub stamps_started : (d : Stamps) (n : ℕ) → (n ≡ 0 → ⊥) → (0 ≡ stamps_number (stamps.start_of n)) × (stamps.empty_stamps n ≡ stamps_leaves d (stamps.start_of n))
unfolding stamps.start_of stamps_number stamps_leaves
stamps_started d n z = rw (ne_eqb n 0 z) (refl, refl)
