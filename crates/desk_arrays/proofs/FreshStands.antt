-- A fresh desk's arrays stand for the fresh desk.
-- Assumes nothing.
use Prim.Native.Nat.{ℕ, ◌*◌}
use mathlib.Core.Path.{◌≡◌, refl, sym, ap, subst, ◌∙◌}
use mathlib.Core.Bool.{false}
use lib.ListN.{replicate, length-replicate}
use Rattle.terms.specs.Limits.{places, cells}
use Rattle.conflict.specs.declared.modes.Mode.TheVariants.{Free}
use Rattle.conflict.specs.Modes.{mode_of}
use Rattle.conflict.proofs.ModeCodes.{mode_zero}
use Rattle.desk_rules.specs.Desk.{closed, idle, fresh_desk}
use Rattle.desks.proofs.Places.{free_nobody}
use Rattle.desk_arrays.specs.Codes.{free_code}
use Rattle.desk_arrays.specs.Places.{spot, mode_at}
use Rattle.desk_arrays.specs.Steps.{empty_desk}
use Rattle.desks.specs.Places.{is_seated}
use Rattle.desk_arrays.specs.Stands.{status_at, status_by, mode_by, Stands}
use Rattle.desk_arrays.proofs.Cases.{by_same}
use Rattle.laws.proofs.Copies.{copies_at}
use Rattle.desks.proofs.Seats.{zero_unseated, seated_member}
use Rattle.desk_arrays.proofs.ByNumber.{nobody_has}

-- in a table of zeros nobody holds anything
none_held : (n c p : ℕ) → mode_at (replicate n 0) c p ≡ Free
unfolding mode_at
none_held n c p = ap mode_of (copies_at n 0 (spot c p)) ∙ mode_zero

-- among free places nobody is seated
none_seated : (n j : ℕ) → is_seated (replicate n 0) j ≡ false
none_seated n j =
    by_same j 0 (λ e. subst (λ i. is_seated (replicate n 0) i ≡ false) (sym e) (zero_unseated (replicate n 0)))
    (λ z. seated_member (replicate n 0) j z ∙ free_nobody n j z)

-- a fresh desk's arrays stand for the fresh desk
pub fresh_stands : (n : ℕ) → Stands (empty_desk n) (fresh_desk n)
unfolding empty_desk fresh_desk idle status_by mode_by
fresh_stands n = record {
  next = refl;
  jobs = refl;
  stat = λ j. sym (nobody_has closed (replicate places 0) (status_at (replicate places free_code) (replicate places 0) (replicate places 0)) j (none_seated places j));
  held = λ c j. sym (nobody_has Free (replicate places 0) (mode_at (replicate (cells * places) 0) c) j (none_seated places j));
  plain = record {
    numbers = length-replicate {A = ℕ} places 0;
    statuses = length-replicate {A = ℕ} places 0;
    waited = length-replicate {A = ℕ} places 0;
    asks = length-replicate {A = ℕ} places 0;
    modes = length-replicate {A = ℕ} (cells * places) 0;
    free_status = λ p l e. copies_at places 0 p;
    free_held = λ p l e c. none_held (cells * places) c p;
  };
}
