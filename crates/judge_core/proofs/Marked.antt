-- The marks of a history kept in arrays: which jobs have a c, and from where on no k of a job follows.
-- Assumes nothing.
use Prim.Native.Nat.{ℕ, zero, suc, ◌+◌, ◌≤◌}
use mathlib.Core.Path.{◌≡◌, refl, sym, ap, ◌∙◌}
use mathlib.Core.Bool.{Bool, true, false, not, ◌&&◌, ◌||◌}
use mathlib.Core.List.{List, [], ◌∷◌, ◌++◌}
use native.Mathlib.Nat.{add-zero, add-suc}
use native.Mathlib.Omega.{arith}
use lib.Dec.{eqb, ltb, leb}
use lib.ListN.{get_or}
use borrow.Author.Tests.{lt-leb, le-leb}
use Rattle.laws.specs.Choice.{by_test}
use Rattle.conflict.specs.History.{History, is_commit, is_back, marked}
use Rattle.conflict.proofs.Appended.{marked_append}
use Rattle.conflict.proofs.OneEvent.{marked_none}
use Rattle.judge_rules.specs.Arrays.{history_by}
use Rattle.judge_core.specs.Counted.{has_commit, counted_from}
use Rattle.judge_core.specs.Kept.{event_at}
use Rattle.judge_core.proofs.Codes.{commit_line, back_line}
use Rattle.judge_core.proofs.Events.{events_from, events_more}

-- a test behind another, with one that fails, may as well stand first
or_last : (a b c : Bool) → c ≡ false → (a || (b || c)) ≡ (b || a)
or_last true true c e = refl
or_last true false c e = refl
or_last false true c e = refl
or_last false false c e = e

module _ (codes jobs cells : List ℕ) where
  -- one line more may be a c
  commit_more : (j p : ℕ) (h : History) → marked is_commit j (h ++ event_at codes jobs cells p ∷ []) ≡ ((eqb (get_or jobs p 0) j && eqb (get_or codes p 0) 3) || marked is_commit j h)
  unfolding event_at
  commit_more j p h =
      marked_append is_commit j h (event_at codes jobs cells p ∷ [])
      ∙ ap (λ b. marked is_commit j h || b) (commit_line (get_or codes p 0) (get_or jobs p 0) (get_or cells p 0) j [])
      ∙ or_last (marked is_commit j h) (eqb (get_or jobs p 0) j && eqb (get_or codes p 0) 3) (marked is_commit j []) (marked_none is_commit j)

  -- or a k
  back_more : (j p : ℕ) (h : History) → marked is_back j (h ++ event_at codes jobs cells p ∷ []) ≡ ((eqb (get_or jobs p 0) j && ltb 4 (get_or codes p 0)) || marked is_back j h)
  unfolding event_at
  back_more j p h =
      marked_append is_back j h (event_at codes jobs cells p ∷ [])
      ∙ ap (λ b. marked is_back j h || b) (back_line (get_or codes p 0) (get_or jobs p 0) (get_or cells p 0) j [])
      ∙ or_last (marked is_back j h) (eqb (get_or jobs p 0) j && ltb 4 (get_or codes p 0)) (marked is_back j []) (marked_none is_back j)

  -- the jobs with a c are those that the lines say
  pub has_commit_lem : (j n : ℕ) → marked is_commit j (history_by codes jobs cells n) ≡ has_commit codes jobs n j
  unfolding history_by has_commit event_at
  has_commit_lem j zero = marked_none is_commit j
  has_commit_lem j (suc n) =
      commit_more j n (history_by codes jobs cells n)
      ∙ ap (λ b. (eqb (get_or jobs n 0) j && eqb (get_or codes n 0) 3) || b) (has_commit_lem j n)

  -- what counts from a line on starts no later than there are lines
  counted_low : (j n : ℕ) → counted_from codes jobs n j ≤ n
  unfolding counted_from
  counted_low j zero = omega arith
  counted_low j (suc n) =
      by_test (eqb (get_or jobs n 0) j && ltb 4 (get_or codes n 0)) (λ t. rw t (omega arith)) (λ f. rw f (omega (arith, counted_low j n)))

  -- one line more, which may be a k
  counted_more : (j k m : ℕ) → leb (counted_from codes jobs (k + m) j) k ≡ not (marked is_back j (events_from codes jobs cells k m)) → leb (counted_from codes jobs (suc (k + m)) j) k ≡ not (marked is_back j (events_from codes jobs cells k m ++ event_at codes jobs cells (k + m) ∷ []))
  unfolding counted_from
  counted_more j k m h =
      rw (back_more j (k + m) (events_from codes jobs cells k m))
      (by_test (eqb (get_or jobs (k + m) 0) j && ltb 4 (get_or codes (k + m) 0)) (λ t. rw t (lt-leb (suc (k + m)) k (omega arith))) (λ f. rw f h))

  -- a job's actions count from line k on exactly where no k of its stands there or later
  pub counted_since : (j k m : ℕ) → leb (counted_from codes jobs (k + m) j) k ≡ not (marked is_back j (events_from codes jobs cells k m))
  unfolding events_from
  counted_since j k zero = rw (add-zero k, marked_none is_back j) (le-leb (counted_from codes jobs k j) k (counted_low j k))
  counted_since j k (suc m) =
      rw (add-suc k m) (counted_more j k m (counted_since j k m)) ∙ ap (λ h. not (marked is_back j h)) (sym (events_more codes jobs cells k m))
