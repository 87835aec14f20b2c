-- Rule 4's next grant, branch by branch: each branch of the code, with the tests that lead there, gives what the definition says.
-- Assumes nothing.
use Prim.Native.Nat.{ℕ, ◌≤◌, ◌<◌}
use mathlib.Core.Path.{◌≡◌}
use mathlib.Core.Bool.{Bool, true, false}
use mathlib.Core.List.{List}
use lib.ListN.{get_or}
use borrow.Author.Tests.{lt-ltb, le-ltb}
use Rattle.terms.specs.declared.letters.Ask.{Ask}
use Rattle.conflict.specs.declared.modes.Mode.{Mode}
use Rattle.desk_arrays.specs.Codes.{ask_of}
use Rattle.desk_arrays.specs.Places.{youngest, wants_at, agrees_at}
use Rattle.std.specs.Prelude.{Some, None}
use Rattle.desk_plan.specs.Grants.{next_grant}

module _ (number status cell ask held : List ℕ) {c : ℕ} where
  -- there is no such cell
  pub no_cell : 64 ≤ c → None ≡ next_grant number status cell ask held c
  unfolding next_grant
  no_cell h = rw (le-ltb c 64 h)

  module _ (inside : c < 64) {p : ℕ} (in_front : p ≡ youngest number status cell c 32) where
    -- nobody waits
    pub no_front : 32 ≤ p → None ≡ next_grant number status cell ask held c
    unfolding next_grant
    no_front h = rw (lt-ltb c 64 inside, ← in_front, le-ltb p 32 h)

    module _ (there : p < 32) {a : Ask} {m : Mode} {r : Bool} (asks : a ≡ ask_of (get_or ask p 0)) (wants : m ≡ wants_at held c p a) (agrees : r ≡ agrees_at held c p m) where
      -- it agrees with the other holders
      pub granted_front : r ≡ true → Some (p, m) ≡ next_grant number status cell ask held c
      unfolding next_grant
      granted_front h = rw (lt-ltb c 64 inside, ← in_front, lt-ltb p 32 there, ← asks, ← wants, ← agrees, h)

      -- it does not
      pub not_agreed : r ≡ false → None ≡ next_grant number status cell ask held c
      unfolding next_grant
      not_agreed h = rw (lt-ltb c 64 inside, ← in_front, lt-ltb p 32 there, ← asks, ← wants, ← agrees, h)
