-- The edges from the passes that lead to them: which jobs have a c, which lines count, and the lines grouped by job; and what the edges say of the jobs.
-- Assumes nothing.
use Prim.Native.Nat.{ℕ, ◌≤◌, ◌<◌}
use mathlib.Core.Path.{◌≡◌, refl, sym, ap, ◌∙◌, subst}
use mathlib.Core.Bool.{Bool, true, false}
use mathlib.Core.List.{List}
use native.Mathlib.Omega.{arith}
use lib.ListN.{length, get_or}
use borrow.Author.Tests.{lt-ltb}
use Rattle.laws.specs.Choice.{by_test}
use Rattle.laws.specs.Lists.{member}
use Rattle.conflict.specs.Schedule.{edge}
use Rattle.conflict.specs.History.{committed_part}
use Rattle.judge_rules.specs.Order.{Edges, stuck}
use Rattle.judge_rules.specs.Arrays.{history_by}
use Rattle.judge_rules.proofs.Orders.{rest_only}
use Rattle.judge_rules.proofs.Taking.{order_taken}
use Rattle.judge_core.specs.Lists.{values_of}
use Rattle.judge_core.specs.Counted.{has_commit, counted_from, owner_at, owners_by, ByteJobs}
use Rattle.judge_core.specs.Grouped.{owned_lines, start_at, Spaced, Grouped, edge_by}
use Rattle.judge_core.specs.Left.{left_of, or_nobody}
use Rattle.judge_core.specs.Preceding.{Known}
use Rattle.judge_core.proofs.Tabled.{tab_at}
use Rattle.judge_core.proofs.OwnLines.{starts_few}
use Rattle.judge_core.proofs.Placing.{spaced, part_is}
use Rattle.judge_core.proofs.PartEdges.{commit_job, edge_by_lem}
use Rattle.judge_core.proofs.Seeking.{left_small, left_is, left_has}
use Rattle.judge_core.proofs.SameEdges.{Same, predecessor_same, stuck_same}

-- no job's lines start behind the last place
pub starts_fit : (owners counts : List ℕ) (n : ℕ) → n ≤ 4096 → counts ≡ values_of (λ j. length (owned_lines owners n j)) 256 → start_at counts 256 ≤ 4096
starts_fit owners counts n h e = rw e (omega (arith, starts_few owners n 256 (omega arith)))

-- starts from the counts are spaced as the jobs own lines
pub starts_spaced : (owners counts starts : List ℕ) (n : ℕ) → n ≤ 4096 → counts ≡ values_of (λ j. length (owned_lines owners n j)) 256 → starts ≡ values_of (start_at counts) 257 → Spaced owners starts n
starts_spaced owners counts starts n h e q = spaced owners starts n h (q ∙ ap (λ c. values_of (start_at c) 257) e)

-- the owner of each of the lines
pub owned : (codes jobs since owners : List ℕ) (n : ℕ) → n ≤ 4096 → owners ≡ values_of (owners_by codes jobs since n) 4096 → (p : ℕ) → p < n → get_or owners p 0 ≡ owner_at codes jobs since p
unfolding owners_by
owned codes jobs since owners n h e p b =
    ap (λ l. get_or l p 0) e ∙ tab_at (owners_by codes jobs since n) 4096 0 p (omega arith) ∙ rw (lt-ltb p n b)

-- the edges by the parts say of the jobs with a c what the precedence graph of the committed part says
pub edges_agree : (codes jobs cells : List ℕ) (done : List Bool) (since owners lines starts : List ℕ) (n : ℕ) → n ≤ 4096 → ByteJobs jobs n → done ≡ values_of (has_commit codes jobs n) 256 → since ≡ values_of (counted_from codes jobs n) 256 → owners ≡ values_of (owners_by codes jobs since n) 4096 → Spaced owners starts n → Grouped owners starts n lines → Same (edge_by codes jobs cells lines starts) (edge (committed_part (history_by codes jobs cells n))) (left_of done)
edges_agree codes jobs cells done since owners lines starts n h b d s o sp g i j mi mj =
    edge_by_lem codes jobs n b.bytes b.given cells since owners s (owned codes jobs since owners n h o) lines starts (part_is owners starts n lines sp g) i j (has i mi) (has j mj)
  where
    has : (k : ℕ) → member k (left_of done) ≡ true → has_commit codes jobs n k ≡ true
    has k m =
        sym (tab_at (has_commit codes jobs n) 256 false k (left_small done k m)) ∙ sym (ap (λ l. get_or l k false) d) ∙ left_is done k m

-- job 0 has no c
pub none_zero : (codes jobs : List ℕ) (done : List Bool) (n : ℕ) → ByteJobs jobs n → done ≡ values_of (has_commit codes jobs n) 256 → get_or done 0 false ≡ false
none_zero codes jobs done n b d =
    ap (λ l. get_or l 0 false) d ∙ tab_at (has_commit codes jobs n) 256 false 0 (omega arith)
    ∙ by_test (has_commit codes jobs n 0) (λ t. absurd ((commit_job codes jobs n b.bytes b.given n 0 (omega arith) t).1 refl)) (λ f. f)

module _ (e f : Edges) (done left : List Bool) (same : Same e f (left_of done)) (rest : left_of left ≡ stuck e (left_of done)) where
  -- by edges that say the same, the same remain
  pub rest_same : left_of left ≡ stuck f (left_of done)
  rest_same = rest ∙ stuck_same e f (left_of done) same

  -- and their smallest predecessors are the same
  pub known_same : (predecessors : List ℕ) → Known e left predecessors 256 → Known f left predecessors 256
  known_same predecessors h j b l =
      h j b l ∙ ap or_nobody (predecessor_same e f (left_of left) (λ i k m o. same i k (was i m) (was k o)) j (left_has left j b l))
    where
      was : (i : ℕ) → member i (left_of left) ≡ true → member i (left_of done) ≡ true
      was i m = rest_only e (order_taken e (left_of done)) i (subst (λ js. member i js ≡ true) rest m)
