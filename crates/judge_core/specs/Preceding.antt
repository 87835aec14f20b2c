-- Each job's smallest remaining predecessor, kept while jobs are taken away, and the walk back along them (01, The judge's rules: Orderly, Knot).
use Rattle.std.specs.Prelude.{ℕ, zero, suc, ◌≤◌, ◌<◌, ◌≡◌, Bool, true, false, List, [], ◌∷◌, ltb, length, get_or}
use Rattle.laws.specs.Choice.{pick}
use Rattle.laws.specs.Lists.{member}
use Rattle.judge_rules.specs.Order.{Edges, first}
use Rattle.judge_rules.specs.Knot.{predecessor, up_to}
use Rattle.judge_core.specs.Left.{left_of, left_from, or_nobody}
use Rattle.judge_core.specs.Sizes.{slots}

-- the smallest remaining job from i on that has an edge to j, or nobody
unfoldable pub predecessor_from : Edges → List Bool → ℕ → ℕ → ℕ
predecessor_from e left i j = or_nobody (first (λ k. e k j) (left_from left i))

-- for each remaining job, the job kept for it has an edge to it, if it remains itself; and no smaller remaining job has one
pub record Preceding (e : Edges) (left : List Bool) (predecessors : List ℕ) : Type 0 where
  pub wide : length predecessors ≡ slots
  pub low : (j : ℕ) → get_or predecessors j 0 ≤ slots
  pub passed : (i j : ℕ) → get_or left j false ≡ true → i < get_or predecessors j 0 → get_or left i false ≡ true → e i j ≡ false
  pub there : (j : ℕ) → get_or left j false ≡ true → get_or predecessors j 0 < slots → get_or left (get_or predecessors j 0) false ≡ true → e (get_or predecessors j 0) j ≡ true

-- for each remaining job among the first n, its smallest remaining predecessor is kept
abbrev pub Known : Edges → List Bool → List ℕ → ℕ → Type 0
Known e left predecessors n = (j : ℕ) → j < n → get_or left j false ≡ true → get_or predecessors j 0 ≡ or_nobody (predecessor e (left_of left) j)

-- the walk of the judge's rules, from each job to the predecessor kept for it
unfoldable pub walk_by : List ℕ → ℕ → List ℕ → ℕ → List ℕ
walk_by predecessors zero seen j = []
walk_by predecessors (suc n) seen j =
    let further : List ℕ = pick (ltb (get_or predecessors j 0) slots) (walk_by predecessors n (j ∷ seen) (get_or predecessors j 0)) [] in
    pick (member j seen) (j ∷ up_to j seen) further
