-- Where runs end, in the arrays and in the history that they keep: a run commits if its end is 0, and has not ended before any line that stands before its end.
-- Assumes nothing.
use Prim.Native.Nat.{ℕ, zero, suc, ◌+◌, ◌≤◌, ◌<◌}
use mathlib.Core.Path.{◌≡◌, refl, sym, ap, ◌∙◌}
use mathlib.Core.Bool.{Bool, true, false}
use mathlib.Core.List.{List, [], ◌∷◌}
use native.Mathlib.Omega.{arith}
use lib.Dec.{eqb, ltb}
use lib.ListN.{get_or}
use borrow.Author.Tests.{ne_eqb, lt-ltb, le-ltb, ltb-true, ltb-false}
use Rattle.laws.specs.Choice.{pick, by_test, not_both}
use Rattle.conflict.specs.History.{History, commits}
use Rattle.conflict.specs.Runs.{is_end, ended}
use Rattle.conflict.proofs.OneEvent.{marked_none, marked_does, marked_ends, commits_none, commits_does, commits_ends, any_ends, ended_is}
use Rattle.judge_core.specs.Meeting.{action_by}
use Rattle.judge_core.specs.Kept.{event_at}
use Rattle.judge_core.specs.RunEnds.{end_by, run_end}
use Rattle.judge_core.proofs.Codes.{mark_by, act_event, end_event, mark_commit}
use Rattle.judge_core.proofs.Events.{events_from}

module _ (codes jobs cells : List ℕ) (j k : ℕ) where
  -- line k does not end a run of job j
  record Passed : Type 0 where
    commit : (h : History) → commits j (event_at codes jobs cells k ∷ h) ≡ commits j h
    end : (h : History) → ended j (event_at codes jobs cells k ∷ h) ≡ ended j h
    run : (m : ℕ) → run_end codes jobs j k (suc m) ≡ run_end codes jobs j (suc k) m

  -- line k ends one
  record Stopped : Type 0 where
    commit : (h : History) → commits j (event_at codes jobs cells k ∷ h) ≡ eqb (get_or codes k 0) 3
    end : (h : History) → ended j (event_at codes jobs cells k ∷ h) ≡ true
    run : (m : ℕ) → run_end codes jobs j k (suc m) ≡ pick (eqb (get_or codes k 0) 3) 0 k

  -- an action ends none
  act_passed : get_or codes k 0 < 3 → Passed
  unfolding event_at run_end end_by
  act_passed l =
      let e = act_event (get_or codes k 0) (get_or jobs k 0) (get_or cells k 0) l in
      record {
        commit = λ h. rw e (commits_does j (action_by (get_or codes k 0) (get_or jobs k 0) (get_or cells k 0)) h);
        end = λ h. rw (e, ended_is j h) (ended_is j _ ∙ marked_does is_end j (action_by (get_or codes k 0) (get_or jobs k 0) (get_or cells k 0)) h);
        run = λ m. rw (lt-ltb (get_or codes k 0) 3 l) (by_test (eqb (get_or jobs k 0) j) (λ t. rw t) (λ f. rw f));
      }

  -- so its end is the same as seen from behind it
  pub run_action : get_or codes k 0 < 3 → (m : ℕ) → run_end codes jobs j k (suc m) ≡ run_end codes jobs j (suc k) m
  run_action l = (act_passed l).run

  -- nor does another job's mark
  other_passed : 3 ≤ get_or codes k 0 → eqb (get_or jobs k 0) j ≡ false → Passed
  unfolding event_at run_end end_by
  other_passed l f =
      let e = end_event (get_or codes k 0) (get_or jobs k 0) (get_or cells k 0) l in
      record {
        commit = λ h. rw e (commits_ends j (mark_by (get_or codes k 0)) (get_or jobs k 0) h ∙ rw f);
        end = λ h. rw (e, ended_is j h) (ended_is j _ ∙ marked_ends is_end j (mark_by (get_or codes k 0)) (get_or jobs k 0) h ∙ rw f);
        run = λ m. rw f;
      }

  -- its own does
  own_stopped : 3 ≤ get_or codes k 0 → eqb (get_or jobs k 0) j ≡ true → Stopped
  unfolding event_at run_end end_by
  own_stopped l t =
      let e = end_event (get_or codes k 0) (get_or jobs k 0) (get_or cells k 0) l in
      record {
        commit = λ h. rw e (commits_ends j (mark_by (get_or codes k 0)) (get_or jobs k 0) h ∙ rw t (mark_commit (get_or codes k 0)));
        end = λ h. rw e (ended_is j _ ∙ marked_ends is_end j (mark_by (get_or codes k 0)) (get_or jobs k 0) h ∙ rw (t, any_ends (mark_by (get_or codes k 0))));
        run = λ m. rw (t, le-ltb (get_or codes k 0) 3 l);
      }

  -- there are no other lines
  by_line : {P : Type 0} → (Passed → P) → (Stopped → P) → P
  by_line p s =
      by_test (ltb (get_or codes k 0) 3)
      (λ t. p (act_passed (ltb-true (get_or codes k 0) 3 t)))
      (λ f. by_test (eqb (get_or jobs k 0) j) (λ t. s (own_stopped (ltb-false (get_or codes k 0) 3 f) t)) (λ g. p (other_passed (ltb-false (get_or codes k 0) 3 f) g)))

-- the place of a mark is 0 for a c alone
stop_is : (b : Bool) (k : ℕ) → 0 < k → b ≡ eqb (pick b 0 k) 0
stop_is true k l = refl
stop_is false k l = sym (ne_eqb k 0 (λ e. omega arith))

-- and not behind it
stop_low : (b : Bool) (k : ℕ) → pick b 0 k ≤ k
stop_low true k = omega arith
stop_low false k = omega arith

module _ (codes jobs cells : List ℕ) (j : ℕ) where
  -- a run commits where its end is 0
  pub run_commits : (k m : ℕ) → 0 < k → commits j (events_from codes jobs cells k m) ≡ eqb (run_end codes jobs j k m) 0
  unfolding events_from run_end
  run_commits k zero l = commits_none j ∙ sym (ne_eqb k 0 (λ e. omega arith))
  run_commits k (suc m) l =
      by_line codes jobs cells j k
      (λ p. p.commit (events_from codes jobs cells (suc k) m) ∙ run_commits (suc k) m (omega arith) ∙ ap (λ x. eqb x 0) (sym (p.run m)))
      (λ s. s.commit (events_from codes jobs cells (suc k) m) ∙ stop_is (eqb (get_or codes k 0) 3) k l ∙ ap (λ x. eqb x 0) (sym (s.run m)))

  -- an end that is not 0 is none of the lines before
  pub run_low : (k m : ℕ) → (run_end codes jobs j k m ≡ 0 → ⊥) → k ≤ run_end codes jobs j k m
  unfolding run_end
  run_low k zero z = omega arith
  run_low k (suc m) z =
      by_line codes jobs cells j k
      (λ p. rw (p.run m) (let r = run_low (suc k) m (λ e. z (p.run m ∙ e)) in omega arith))
      (λ s. rw (s.run m) (by_test (eqb (get_or codes k 0) 3) (λ t. absurd (z (s.run m ∙ rw t))) (λ f. rw f (omega arith))))

  -- a run that has not ended on some lines ends as seen from behind them
  pub run_past : (k b m r : ℕ) → m ≡ b + r → ended j (events_from codes jobs cells k b) ≡ false → run_end codes jobs j k m ≡ run_end codes jobs j (k + b) r
  unfolding events_from
  run_past k zero m r e f =
      let one' : m ≡ r = omega arith in
      let two' : k + 0 ≡ k = omega arith in
      rw (one', two')
  run_past k (suc b) m r e f =
      let one' : m ≡ suc (b + r) = omega arith in
      let two' : k + suc b ≡ suc k + b = omega arith in
      rw (one', two')
      (by_line codes jobs cells j k
      (λ p. p.run (b + r) ∙ run_past (suc k) b (b + r) r refl (sym (p.end (events_from codes jobs cells (suc k) b)) ∙ f))
      (λ s. not_both (s.end (events_from codes jobs cells (suc k) b)) f))

  -- a run that has ended on some lines has its end there, or commits
  pub run_there : (k b m r : ℕ) → m ≡ b + r → ended j (events_from codes jobs cells k b) ≡ true → run_end codes jobs j k m < k + b
  unfolding events_from
  run_there k zero m r e t = not_both t (ended_is j [] ∙ marked_none is_end j)
  run_there k (suc b) m r e t =
      let one' : m ≡ suc (b + r) = omega arith in
      rw one'
      (by_line codes jobs cells j k
      (λ p. rw (p.run (b + r)) (let l = run_there (suc k) b (b + r) r refl (sym (p.end (events_from codes jobs cells (suc k) b)) ∙ t) in omega arith))
      (λ s. rw (s.run (b + r)) (omega (arith, stop_low (eqb (get_or codes k 0) 3) k))))
