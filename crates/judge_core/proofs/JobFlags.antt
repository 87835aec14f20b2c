-- The flags of the jobs with a c are the jobs of the history.
-- Assumes nothing.
use Prim.Native.Nat.{ℕ, ◌≤◌, ◌<◌}
use mathlib.Core.Path.{◌≡◌, refl, sym, ap, ◌∙◌}
use mathlib.Core.Bool.{Bool, true, false}
use mathlib.Core.List.{List}
use native.Mathlib.Omega.{arith}
use lib.ListN.{length, get_or, take}
use Rattle.laws.specs.Choice.{by_test, not_both}
use Rattle.laws.specs.Lists.{member}
use Rattle.conflict.specs.Schedule.{edge}
use Rattle.conflict.specs.History.{is_commit, marked, committed_part}
use Rattle.judge_rules.specs.Order.{order_of, stuck}
use Rattle.judge_rules.specs.Arrays.{history_by}
use Rattle.judge_rules.specs.Judged.{jobs_of}
use Rattle.judge_rules.proofs.Histories.{jobs_only}
use Rattle.judge_core.specs.Lists.{values_of}
use Rattle.judge_core.specs.Counted.{has_commit, ByteJobs}
use Rattle.judge_core.specs.Left.{left_of}
use Rattle.judge_core.specs.Preceding.{Known}
use Rattle.judge_core.specs.Taking.{Took}
use Rattle.judge_core.proofs.Tabled.{tab_at}
use Rattle.judge_core.proofs.Listing.{listed_is, listed_has, listed_ascending, listed_fewer}
use Rattle.judge_core.proofs.Marked.{has_commit_lem}
use Rattle.judge_core.proofs.PartEdges.{commit_job}

module _ (codes jobs cells : List ℕ) (n : ℕ) (b : ByteJobs jobs n) (done : List Bool) (d : done ≡ values_of (has_commit codes jobs n) 256) where
  -- a flag says whether its job has a c
  flag_is : (j : ℕ) → j < 256 → get_or done j false ≡ marked is_commit j (history_by codes jobs cells n)
  flag_is j l = ap (λ f. get_or f j false) d ∙ tab_at (has_commit codes jobs n) 256 false j l ∙ sym (has_commit_lem codes jobs cells j n)

  -- a job with a c is one of 1 to 255
  marked_job : (j : ℕ) → marked is_commit j (history_by codes jobs cells n) ≡ true → (j < 256) × (j ≡ 0 → ⊥)
  marked_job j m = commit_job codes jobs n b.bytes b.given n j (omega arith) (sym (has_commit_lem codes jobs cells j n) ∙ m)

  -- the jobs whose flags are set are the jobs of the history
  pub flags_jobs : left_of done ≡ jobs_of (history_by codes jobs cells n)
  unfolding left_of
  flags_jobs =
      jobs_only (history_by codes jobs cells n) (left_of done) (listed_ascending (λ j. get_or done j false) 0 256)
      (λ j. by_test (member j (left_of done))
      (λ t.
      let r = listed_is (λ i. get_or done i false) 0 256 j t in
      let small : j < 256 = omega (arith, r.1) in
      t ∙ sym (sym (flag_is j small) ∙ r.2))
      (λ f. by_test (marked is_commit j (history_by codes jobs cells n))
      (λ t.
      let small : j < 256 = (marked_job j t).0 in
      not_both (listed_has (λ i. get_or done i false) 0 256 j (omega arith) (omega arith) (flag_is j small ∙ t)) f)
      (λ g. f ∙ sym g)))

  -- they are at most 255
  pub flags_few : length (jobs_of (history_by codes jobs cells n)) ≤ 255
  unfolding left_of
  flags_few =
      let none' : get_or done 0 false ≡ false =
      flag_is 0 (omega arith)
      ∙ by_test (marked is_commit 0 (history_by codes jobs cells n)) (λ t. absurd ((marked_job 0 t).1 refl)) (λ f. f) in
      rw (← flags_jobs) (listed_fewer (λ j. get_or done j false) 0 255 none')

  -- what taking them away leaves
  pub took : (left : List Bool) (placed predecessors : List ℕ) (k : ℕ) → left_of left ≡ stuck (edge (committed_part (history_by codes jobs cells n))) (left_of done) → take k placed ≡ order_of (edge (committed_part (history_by codes jobs cells n))) (left_of done) → k ≡ length (order_of (edge (committed_part (history_by codes jobs cells n))) (left_of done)) → Known (edge (committed_part (history_by codes jobs cells n))) left predecessors 256 → Took (history_by codes jobs cells n) left placed predecessors k
  took left placed predecessors k r o c p =
      record {
        few = flags_few;
        remains = rw flags_jobs at r;
        order = rw flags_jobs at o;
        count = rw flags_jobs at c;
        known = p;
      }
