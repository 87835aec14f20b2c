-- An edge between two jobs by their parts of the lines: the same job twice, two jobs that meet on no cell, and two that may.
-- Assumes nothing.
use Prim.Native.Nat.{ℕ, ◌<◌}
use mathlib.Core.Path.{◌≡◌, ap, ap₂, ◌∙◌}
use mathlib.Core.Bool.{Bool, false}
use mathlib.Core.List.{List}
use native.Mathlib.Omega.{arith}
use lib.ListN.{get_or}
use borrow.Author.Tests.{eq-eqb, ne_eqb}
use Rattle.laws.specs.Choice.{not_both}
use Rattle.conflict.specs.declared.cells.Touched.{Touched}
use Rattle.conflict.specs.Cells.{in_set, can_conflict}
use Rattle.conflict.proofs.CellSets.{in_none}
use Rattle.judge_core.specs.Meeting.{clashing, meetings}
use Rattle.judge_core.specs.Grouped.{part_at, edge_by}
use Rattle.judge_core.specs.Reaching.{touched_at, Reach, Masked, Worked}
use Rattle.judge_core.proofs.Reaching.{meetings_none}

module _ (codes jobs cells lines starts : List ℕ) (i j : ℕ) where
  -- a job has no edge to itself
  pub edge_self : i ≡ j → false ≡ edge_by codes jobs cells lines starts i j
  unfolding edge_by
  edge_self e = rw (eq-eqb i j e)

  -- two jobs have one where their lines meet
  pub edge_parts : (i ≡ j → ⊥) → (r : Bool) → r ≡ meetings (clashing codes jobs cells) (part_at lines starts i) (part_at lines starts j) → r ≡ edge_by codes jobs cells lines starts i j
  unfolding edge_by
  edge_parts e r h = rw (ne_eqb i j e) h

-- lines that could conflict on no cell do not
pub masked_apart : (codes jobs cells : List ℕ) (m : ℕ) (xs ys : List ℕ) → m ≡ 0 → Masked codes jobs cells m xs ys → false ≡ meetings (clashing codes jobs cells) xs ys
masked_apart codes jobs cells m xs ys z h =
    meetings_none (clashing codes jobs cells) xs ys (λ x y a b t. not_both (h x y a b t) (ap (λ n. in_set n (get_or cells x 0)) z ∙ in_none (get_or cells x 0)))

module _ (codes jobs cells lines starts lasts sets : List ℕ) (w : Worked codes jobs cells lines starts lasts sets) where
  -- a job's last lines stand in the table
  pub its_reach : (j : ℕ) → 0 < j → j < 256 → Reach codes jobs cells lasts j (part_at lines starts j)
  its_reach j z b = w.reach j b (λ q. omega arith)

  -- two jobs conflict on the cells where their sets meet
  pub its_mask : (i j m : ℕ) (a b : Touched) → 0 < i → i < 256 → 0 < j → j < 256 → a ≡ touched_at sets i → b ≡ touched_at sets j →
      ((c : ℕ) → in_set m c ≡ can_conflict a b c) → Masked codes jobs cells m (part_at lines starts i) (part_at lines starts j)
  its_mask i j m a b zi bi zj bj ea eb h = w.masks i j m bi bj (λ q. omega arith) (λ q. omega arith) (λ c. h c ∙ ap₂ (λ x y. can_conflict x y c) ea eb)
