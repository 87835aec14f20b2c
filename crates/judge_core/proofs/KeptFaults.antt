-- The fault of one kept line, from what the code tests, and the flags of ended jobs after one line more.
-- Assumes nothing.
use Prim.Native.Nat.{ℕ, suc, ◌+◌, ◌≤◌, ◌<◌}
use mathlib.Core.Path.{◌≡◌, refl, sym, ap, ◌∙◌}
use mathlib.Core.Bool.{Bool, true, false, not, ◌&&◌, ◌||◌, or-false}
use mathlib.Core.List.{List, [], ◌∷◌}
use Rattle.std.specs.Prelude.{None, Some}
use native.Mathlib.Numerals.{add-one}
use native.Mathlib.Omega.{arith}
use lib.Dec.{eqb, ltb, leb}
use lib.ListN.{get_or, set, replicate, length-set, length-replicate, get_or-replicate}
use lib.Seq.{get_or-set_same, get_or-set_other}
use borrow.Author.Tests.{eqb-true, eqb-false, eq-eqb, ne_eqb, lt-ltb, le-ltb, ltb-true, ltb-false, le-leb, lt-leb}
use Rattle.laws.specs.Choice.{pick, by_test}
use Rattle.terms.specs.declared.refusals.Refusal.TheVariants.{CellAbove, TooManyLines, JobOutside, Ended}
use Rattle.conflict.specs.History.{History, marked}
use Rattle.conflict.proofs.Appended.{marked_append}
use Rattle.conflict.proofs.OneEvent.{marked_none, marked_does, marked_ends, commit_not_back, give_up_not_back, back_is_back}
use Rattle.judge_rules.specs.Arrays.{event_by, history_by}
use Rattle.judge_core.specs.Meeting.{action_by}
use Rattle.judge_core.specs.Kept.{job_of, above, ends_job, event_fault, event_at, Flagged}
use Rattle.judge_core.proofs.Codes.{mark_by, act_event, end_event}

module _ (c job cell : ℕ) where
  -- the job of a line is the one that is kept
  pub job_of_lem : job_of (event_by c job cell) ≡ job
  unfolding job_of action_by
  job_of_lem =
      by_test (ltb c 3) (λ t. rw (act_event c job cell (ltb-true c 3 t))) (λ f. rw (end_event c job cell (ltb-false c 3 f)))

  -- an action alone has a cell
  pub above_of : above (event_by c job cell) ≡ (ltb c 3 && leb 64 cell)
  unfolding above action_by
  above_of =
      by_test (ltb c 3) (λ t. rw (t, act_event c job cell (ltb-true c 3 t))) (λ f. rw (f, end_event c job cell (ltb-false c 3 f)))

-- 3 and 4 end a job for good
mark_ends : (c : ℕ) → ends_job (mark_by c) ≡ (eqb c 3 || eqb c 4)
unfolding ends_job mark_by
mark_ends c =
    by_test (eqb c 3) (λ t. rw t (ap not commit_not_back))
    (λ f. by_test (eqb c 4) (λ t. rw (f, t) (ap not give_up_not_back)) (λ g. rw (f, g) (ap not back_is_back)))

-- what fails with the second fails
and_none : (a b : Bool) → ((a && false) || b) ≡ b
and_none true b = refl
and_none false b = refl

-- a job has ended for good where this line ends it, or where it has before
ends_line : (c job cell j : ℕ) (h : History) → marked ends_job j (event_by c job cell ∷ h) ≡ ((eqb job j && (eqb c 3 || eqb c 4)) || marked ends_job j h)
ends_line c job cell j h =
    by_test (ltb c 3)
    (λ t.
    let less : c < 3 = ltb-true c 3 t in
    rw (act_event c job cell less)
    (marked_does ends_job j (action_by c job cell) h
    ∙ sym (rw (ne_eqb c 3 (λ e. omega arith), ne_eqb c 4 (λ e. omega arith)) (and_none (eqb job j) (marked ends_job j h)))))
    (λ f. rw (end_event c job cell (ltb-false c 3 f)) (marked_ends ends_job j (mark_by c) job h ∙ ap (λ b. (eqb job j && b) || marked ends_job j h) (mark_ends c)))

module _ (codes jobs cells : List ℕ) (p : ℕ) where
  -- which jobs have ended, after one line more
  ended_more : (j : ℕ) → marked ends_job j (history_by codes jobs cells (suc p)) ≡ (marked ends_job j (history_by codes jobs cells p) || (eqb (get_or jobs p 0) j && (eqb (get_or codes p 0) 3 || eqb (get_or codes p 0) 4)))
  unfolding history_by
  ended_more j =
      marked_append ends_job j (history_by codes jobs cells p) (event_by (get_or codes p 0) (get_or jobs p 0) (get_or cells p 0) ∷ [])
      ∙ ap (λ b. marked ends_job j (history_by codes jobs cells p) || b)
      (ends_line (get_or codes p 0) (get_or jobs p 0) (get_or cells p 0) j [] ∙ rw (marked_none ends_job j) (or-false (eqb (get_or jobs p 0) j && (eqb (get_or codes p 0) 3 || eqb (get_or codes p 0) 4))))

  -- a line too many is refused whatever it is
  pub fault_many : (before : History) → 4096 ≤ p → Some TooManyLines ≡ event_fault (p + 1) before (event_at codes jobs cells p)
  unfolding event_fault
  fault_many before h = rw (lt-ltb 4096 (p + 1) (omega arith))

  module _ (before : History) (h : p < 4096) (j : ℕ) (q : j ≡ get_or jobs p 0) (small : j < 256) where
    -- the tests that are left of any other
    fault_is : event_fault (p + 1) before (event_at codes jobs cells p) ≡ pick (eqb j 0) (Some JobOutside) (pick (ltb (get_or codes p 0) 3 && leb 64 (get_or cells p 0)) (Some CellAbove) (pick (marked ends_job j before) (Some Ended) None))
    unfolding event_fault event_at
    fault_is =
        rw (le-ltb 4096 (p + 1) (omega arith), job_of_lem (get_or codes p 0) (get_or jobs p 0) (get_or cells p 0), above_of (get_or codes p 0) (get_or jobs p 0) (get_or cells p 0), ← q, le-leb j 255 (omega arith))
        (by_test (eqb j 0)
        (λ t. rw (t, lt-leb 1 j (omega (arith, eqb-true j 0 t))))
        (λ f. rw (f, le-leb 1 j (omega (arith, eqb-false j 0 f)))))

    -- 12
    pub fault_outside : j ≡ 0 → Some JobOutside ≡ event_fault (p + 1) before (event_at codes jobs cells p)
    fault_outside z = rw (fault_is, eq-eqb j 0 z)

    module _ (z : j ≡ 0 → ⊥) where
      module _ (b : Bool) (e : b ≡ (ltb (get_or codes p 0) 3 && leb 64 (get_or cells p 0))) where
        -- 2
        pub fault_above : b ≡ true → Some CellAbove ≡ event_fault (p + 1) before (event_at codes jobs cells p)
        fault_above t = rw (fault_is, ne_eqb j 0 z, sym e ∙ t)

        module _ (low : b ≡ false) (flags : List Bool) (f : Flagged flags before) where
          -- 13
          pub fault_ended : get_or flags j false ≡ true → Some Ended ≡ event_fault (p + 1) before (event_at codes jobs cells p)
          fault_ended t = rw (fault_is, ne_eqb j 0 z, sym e ∙ low, sym (f.says j small) ∙ t)

          -- or none
          pub fault_none : get_or flags j false ≡ false → None ≡ event_fault (p + 1) before (event_at codes jobs cells p)
          fault_none t = rw (fault_is, ne_eqb j 0 z, sym e ∙ low, sym (f.says j small) ∙ t)

-- before the first line nobody has ended
pub flags_none : (codes jobs cells : List ℕ) → Flagged (replicate 256 false) (history_by codes jobs cells 0)
unfolding history_by
flags_none codes jobs cells =
    record { wide = length-replicate 256 false; says = λ j b. get_or-replicate 256 j false false b ∙ sym (marked_none ends_job j) }

-- one line more of a job that had not ended
pub flags_more : (codes jobs cells : List ℕ) (p j : ℕ) (flags : List Bool) (b : Bool) → Flagged flags (history_by codes jobs cells p) → j ≡ get_or jobs p 0 → j < 256 → marked ends_job (get_or jobs p 0) (history_by codes jobs cells p) ≡ false → b ≡ (eqb (get_or codes p 0) 3 || eqb (get_or codes p 0) 4) → Flagged (set flags j b) (history_by codes jobs cells (p + 1))
flags_more codes jobs cells p j flags b f q small over e =
    record {
      wide = length-set flags j b ∙ f.wide;
      says = λ i l.
          rw (add-one p, ended_more codes jobs cells p i, ← q, ← e)
          (by_test (eqb j i)
          (λ t. rw (t, ← eqb-true j i t, q, over) (get_or-set_same flags (get_or jobs p 0) b false (rw (← q) (omega (arith, f.wide)))))
          (λ g. rw g
          (get_or-set_other flags j i b false (λ r. eqb-false j i g (sym r)) ∙ f.says i l ∙ sym (or-false (marked ends_job i (history_by codes jobs cells p))))));
    }
