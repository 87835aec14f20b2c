-- A free place is marked free and holds nothing, so it reads as the place of a closed job that holds nothing.
-- Assumes nothing.
use Prim.Native.Nat.{ℕ, ◌<◌}
use mathlib.Core.Path.{◌≡◌, subst}
use mathlib.Core.List.{List}
use lib.ListN.{length, get_or}
use Rattle.terms.specs.Limits.{places}
use Rattle.conflict.specs.declared.modes.Mode.TheVariants.{Free}
use Rattle.desk_rules.specs.Desk.{closed}
use Rattle.desk_arrays.specs.Codes.{free_code}
use Rattle.desk_arrays.specs.Places.{mode_at}
use Rattle.desk_arrays.specs.Stands.{status_for, status_at}
use Rattle.desk_arrays.proofs.ByNumber.{FreeHas}

module _ (ks : List ℕ) (size : length ks ≡ places) where
  -- its job is closed
  pub free_closed : (status cell ask : List ℕ) → ((p : ℕ) → p < places → get_or ks p 0 ≡ 0 → get_or status p 0 ≡ free_code) → FreeHas closed ks (status_at status cell ask)
  unfolding status_at status_for
  free_closed status cell ask h p l e = rw (h p (subst (λ n. p < n) size l) e)

  -- and holds nothing
  pub free_none : (held : List ℕ) (c : ℕ) → ((p : ℕ) → p < places → get_or ks p 0 ≡ 0 → (c : ℕ) → mode_at held c p ≡ Free) → FreeHas Free ks (mode_at held c)
  free_none held c h p l e = h p (subst (λ n. p < n) size l) e c
