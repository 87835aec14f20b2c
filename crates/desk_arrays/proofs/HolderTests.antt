-- The tests of holders over the places are the rules' own: the mode agrees with every other holder; the job is older than every other holder.
-- Assumes nothing.
use Prim.Native.Nat.{ℕ}
use mathlib.Core.Path.{◌≡◌}
use mathlib.Core.List.{List}
use lib.ListN.{length}
use Rattle.terms.specs.Limits.{places}
use Rattle.conflict.specs.declared.modes.Mode.{Mode}
use Rattle.conflict.specs.declared.modes.Mode.TheVariants.{Free}
use Rattle.desk_rules.specs.Locks.{agrees, older_than_holders}
use Rattle.desks.specs.Places.{Once}
use Rattle.desk_arrays.specs.Places.{mode_at, agrees_at, older_at}
use Rattle.desk_arrays.specs.Stands.{by_number}
use Rattle.desks.proofs.Seats.{Seat, seat_same}
use Rattle.desk_arrays.proofs.ByNumber.{FreeHas, place_has}
use Rattle.desk_arrays.proofs.EveryPlace.{all_every}

module _ (ks held : List ℕ) (c : ℕ) {j p : ℕ} (size : length ks ≡ places) (o : Once ks) (free : FreeHas Free ks (mode_at held c)) (s : Seat ks j p) where
  -- a mode agrees with what every other place holds where it agrees with every other holder
  pub agrees_at_lem : (m : Mode) → agrees_at held c p m ≡ agrees ks (by_number Free ks (mode_at held c)) j m
  unfolding agrees_at agrees
  agrees_at_lem m =
      all_every _ _ ks _ (rw size) (λ q l. rw (seat_same s o q l, place_has Free ks (mode_at held c) o free q l))

  -- the job at a place is older than every other holder
  pub older_at_lem : older_at held ks c p j ≡ older_than_holders ks (by_number Free ks (mode_at held c)) j
  unfolding older_at older_than_holders
  older_at_lem =
      all_every _ _ ks _ (rw size) (λ q l. rw (seat_same s o q l, place_has Free ks (mode_at held c) o free q l))
