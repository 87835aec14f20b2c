-- The edges between jobs with a c, by their parts of the lines, are those of the precedence graph of the committed part (000, 18.2.2; 01, The judge's rules).
-- Assumes nothing.
use Prim.Native.Nat.{ℕ, zero, suc, ◌≤◌, ◌<◌}
use mathlib.Core.Path.{◌≡◌, refl, sym, ap, ap₂, ◌∙◌}
use mathlib.Core.Bool.{Bool, true, false, ◌&&◌}
use mathlib.Core.List.{List}
use native.Mathlib.Omega.{arith}
use lib.Dec.{eqb, ltb, leb}
use lib.ListN.{get_or}
use borrow.Author.Tests.{eqb-true, ne_eqb}
use Rattle.laws.specs.Choice.{pick, by_test, not_both}
use Rattle.laws.proofs.Parts.{and_first, or_either}
use Rattle.conflict.specs.Schedule.{edge}
use Rattle.conflict.specs.History.{committed_part}
use Rattle.conflict.proofs.Edges.{edge_other}
use Rattle.judge_rules.specs.Arrays.{history_by}
use Rattle.judge_core.specs.Lists.{values_of}
use Rattle.judge_core.specs.Counted.{has_commit, counted_from, owner_at}
use Rattle.judge_core.specs.Meeting.{clashing, meetings}
use Rattle.judge_core.specs.Grouped.{owned_lines, part_at, edge_by}
use Rattle.judge_core.proofs.Tabled.{tab_at}
use Rattle.judge_core.proofs.Listing.{listed_same}
use Rattle.judge_core.proofs.KeptLines.{counts, part_lines}
use Rattle.judge_core.proofs.Meetings.{of_job, edge_is}

-- a test is false where it cannot be true
never : (b : Bool) → (b ≡ true → ⊥) → b ≡ false
never true h = absurd (h refl)
never false h = refl

-- the owner of a line that counts is its job, and else nobody
owner_test : (a s h : Bool) (job i : ℕ) → (i ≡ 0 → ⊥) → (eqb job i ≡ true → h ≡ true) → eqb (pick a (pick s job 0) 0) i ≡ ((a && (h && s)) && eqb job i)
owner_test false s h job i z c = ne_eqb 0 i (λ e. z (sym e))
owner_test true false true job i z c = ne_eqb 0 i (λ e. z (sym e))
owner_test true false false job i z c = ne_eqb 0 i (λ e. z (sym e))
owner_test true true true job i z c = refl
owner_test true true false job i z c = never (eqb job i) (λ t. not_both (c t) refl)

module _ (codes jobs : List ℕ) (n : ℕ) (bytes : (p : ℕ) → p < n → get_or jobs p 0 < 256) (some' : (p : ℕ) → p < n → get_or jobs p 0 ≡ 0 → ⊥) where
  -- a job with a c is one of the lines' jobs: at most 255, and not 0
  pub commit_job : (m j : ℕ) → m ≤ n → has_commit codes jobs m j ≡ true → (j < 256) × (j ≡ 0 → ⊥)
  unfolding has_commit
  commit_job zero j h c = not_both c refl
  commit_job (suc p) j h c =
      or_either (eqb (get_or jobs p 0) j && eqb (get_or codes p 0) 3) (has_commit codes jobs p j) c
      (λ t.
      let e : get_or jobs p 0 ≡ j = eqb-true (get_or jobs p 0) j (and_first (eqb (get_or jobs p 0) j) (eqb (get_or codes p 0) 3) t) in
      (rw (← e) (bytes p (omega arith)), rw (← e) (some' p (omega arith))))
      (λ t. commit_job p j (omega arith) t)

  module _ (cells since owners : List ℕ) (sinces : since ≡ values_of (counted_from codes jobs n) 256) (owned : (p : ℕ) → p < n → get_or owners p 0 ≡ owner_at codes jobs since p) where
    -- a job with a c owns the lines of its that count
    owner_is : (i p : ℕ) → has_commit codes jobs n i ≡ true → p < n → eqb (get_or owners p 0) i ≡ of_job jobs (counts codes jobs cells n) i p
    unfolding of_job counts owner_at
    owner_is i p c b =
        let from' : get_or since (get_or jobs p 0) 0 ≡ counted_from codes jobs n (get_or jobs p 0) =
        ap (λ l. get_or l (get_or jobs p 0) 0) sinces ∙ tab_at (counted_from codes jobs n) 256 0 (get_or jobs p 0) (bytes p b) in
        ap (λ k. eqb k i) (owned p b)
        ∙ rw from'
        (owner_test (ltb (get_or codes p 0) 3) (leb (counted_from codes jobs n (get_or jobs p 0)) p) (has_commit codes jobs n (get_or jobs p 0)) (get_or jobs p 0) i
        (commit_job n i (omega arith) c).1 (λ t. rw (eqb-true (get_or jobs p 0) i t) c))

    -- two jobs with a c have an edge where their lines meet
    lines_edge : (i j : ℕ) → has_commit codes jobs n i ≡ true → has_commit codes jobs n j ≡ true → eqb i j ≡ false → meetings (clashing codes jobs cells) (owned_lines owners n i) (owned_lines owners n j) ≡ edge (committed_part (history_by codes jobs cells n)) i j
    unfolding owned_lines
    lines_edge i j ci cj e =
        ap₂ (meetings (clashing codes jobs cells))
        (listed_same (λ p. eqb (get_or owners p 0) i) (of_job jobs (counts codes jobs cells n) i) 0 n (λ p a b. owner_is i p ci (omega arith)))
        (listed_same (λ p. eqb (get_or owners p 0) j) (of_job jobs (counts codes jobs cells n) j) 0 n (λ p a b. owner_is j p cj (omega arith)))
        ∙ sym (ap (λ s. edge s i j) (part_lines codes jobs cells n) ∙ edge_is codes jobs cells (counts codes jobs cells n) i j 0 n e)

    module _ (lines starts : List ℕ) (parts : (j : ℕ) → j < 256 → part_at lines starts j ≡ owned_lines owners n j) where
      -- the edges by the parts are those of the committed part
      pub edge_by_lem : (i j : ℕ) → has_commit codes jobs n i ≡ true → has_commit codes jobs n j ≡ true → edge_by codes jobs cells lines starts i j ≡ edge (committed_part (history_by codes jobs cells n)) i j
      unfolding edge_by
      edge_by_lem i j ci cj =
          by_test (eqb i j)
          (λ t. rw (t, eqb-true i j t) (sym (edge_other (committed_part (history_by codes jobs cells n)) j)))
          (λ f. rw (f, parts i (commit_job n i (omega arith) ci).0, parts j (commit_job n j (omega arith) cj).0) (lines_edge i j ci cj f))
