-- The action on a line, from the three numbers kept for it.
-- Assumes nothing.
use Prim.Native.Nat.{ℕ}
use mathlib.Core.Path.{◌≡◌}
use mathlib.Core.List.{List}
use lib.ListN.{get_or}
use Rattle.conflict.specs.declared.action.Kind.{Kind}
use Rattle.judge_core.specs.Meeting.{kind_by, action_by, action_at}

module _ (codes jobs cells : List ℕ) where
  -- the action is made of what stands on the line
  pub action_made : (p : ℕ) (k : Kind) (j c : ℕ) → k ≡ kind_by (get_or codes p 0) → j ≡ get_or jobs p 0 → c ≡ get_or cells p 0 → record { kind = k; job = j; cell = c } ≡ action_at codes jobs cells p
  unfolding action_at action_by
  action_made p k j c e f g = rw (e, f, g)
