-- What one line says, by its code: an action below 3, a c, an a, and a k above 4.
-- Assumes nothing.
use Prim.Native.Nat.{ℕ, ◌<◌, ◌≤◌}
use mathlib.Core.Path.{◌≡◌, refl, sym, ap, ◌∙◌}
use mathlib.Core.Bool.{Bool, true, false, not, ◌&&◌, ◌||◌}
use mathlib.Core.List.{◌∷◌}
use native.Mathlib.Omega.{arith}
use lib.Dec.{eqb, ltb}
use borrow.Author.Tests.{eqb-true, eqb-false, ne_eqb, lt-ltb, le-ltb, ltb-true, ltb-false}
use Rattle.laws.specs.Choice.{pick, by_test}
use Rattle.conflict.specs.declared.action.Mark.{Mark}
use Rattle.conflict.specs.declared.action.Mark.TheVariants.{Commit, GiveUp, Back}
use Rattle.conflict.specs.declared.action.Event.TheVariants.{Does, Ends}
use Rattle.conflict.specs.Schedule.{keep}
use Rattle.conflict.specs.History.{History, is_commit, is_back, marked, part_of}
use Rattle.conflict.proofs.Clauses.{keep_not}
use Rattle.conflict.proofs.OneEvent.{marked_does, marked_ends, commit_not_back, give_up_not_back, back_is_back, commit_is_commit, give_up_not_commit, back_not_commit, part_does, part_ends}
use Rattle.judge_rules.specs.Arrays.{event_by}
use Rattle.judge_core.specs.Meeting.{kind_by, action_by}

-- the mark that a number from 3 on stands for
unfoldable pub mark_by : ℕ → Mark
mark_by c = pick (eqb c 3) Commit (pick (eqb c 4) GiveUp Back)

-- a number below 3 is an action
pub act_event : (c job cell : ℕ) → c < 3 → event_by c job cell ≡ Does (action_by c job cell)
unfolding event_by action_by kind_by
act_event c job cell h =
    by_test (eqb c 0) (λ t. rw t)
    (λ f. by_test (eqb c 1) (λ t. rw (f, t))
    (λ g.
    let two' : c ≡ 2 = omega (arith, eqb-false c 0 f, eqb-false c 1 g) in
    rw two'))

-- a number from 3 on is a mark
pub end_event : (c job cell : ℕ) → 3 ≤ c → event_by c job cell ≡ Ends (mark_by c) job
unfolding event_by mark_by
end_event c job cell h =
    rw (ne_eqb c 0 (λ e. omega arith), ne_eqb c 1 (λ e. omega arith), ne_eqb c 2 (λ e. omega arith))
    (by_test (eqb c 3) (λ t. rw t) (λ f. by_test (eqb c 4) (λ t. rw (f, t)) (λ g. rw (f, g))))

-- 3 is a c
pub mark_commit : (c : ℕ) → is_commit (mark_by c) ≡ eqb c 3
unfolding mark_by
mark_commit c =
    by_test (eqb c 3) (λ t. rw t commit_is_commit) (λ f. by_test (eqb c 4) (λ t. rw (f, t) give_up_not_commit) (λ g. rw (f, g) back_not_commit))

-- above 4 is a k
mark_back : (c : ℕ) → 3 ≤ c → is_back (mark_by c) ≡ ltb 4 c
unfolding mark_by
mark_back c h =
    by_test (eqb c 3) (λ t. rw (eqb-true c 3 t) commit_not_back)
    (λ f. by_test (eqb c 4) (λ t. rw (eqb-true c 4 t) give_up_not_back)
    (λ g. rw (f, g) (back_is_back ∙ sym (lt-ltb 4 c (omega (arith, eqb-false c 3 f, eqb-false c 4 g))))))

-- what is not, is not with something else
none_more : (a b c : Bool) → b ≡ false → c ≡ ((a && b) || c)
none_more true b c e = rw e
none_more false b c e = refl

module _ (c job cell j : ℕ) (h : History) where
  -- a job has a c where this line is one of its, or where it has one later
  pub commit_line : marked is_commit j (event_by c job cell ∷ h) ≡ ((eqb job j && eqb c 3) || marked is_commit j h)
  commit_line =
      by_test (ltb c 3)
      (λ t.
      let less : c < 3 = ltb-true c 3 t in
      rw (act_event c job cell less)
      (marked_does is_commit j (action_by c job cell) h ∙ none_more (eqb job j) (eqb c 3) (marked is_commit j h) (ne_eqb c 3 (λ e. omega arith))))
      (λ f. rw (end_event c job cell (ltb-false c 3 f)) (marked_ends is_commit j (mark_by c) job h ∙ ap (λ b. (eqb job j && b) || marked is_commit j h) (mark_commit c)))

  -- a job has a k where this line is one of its, or where it has one later
  pub back_line : marked is_back j (event_by c job cell ∷ h) ≡ ((eqb job j && ltb 4 c) || marked is_back j h)
  back_line =
      by_test (ltb c 3)
      (λ t.
      let less : c < 3 = ltb-true c 3 t in
      rw (act_event c job cell less)
      (marked_does is_back j (action_by c job cell) h ∙ none_more (eqb job j) (ltb 4 c) (marked is_back j h) (le-ltb 4 c (omega arith))))
      (λ f. rw (end_event c job cell (ltb-false c 3 f))
      (marked_ends is_back j (mark_by c) job h ∙ ap (λ b. (eqb job j && b) || marked is_back j h) (mark_back c (ltb-false c 3 f))))

-- the committed part has this line where it is an action of a job with a c, and no k of its follows
pub part_line : (c job cell : ℕ) (whole h : History) → part_of whole (event_by c job cell ∷ h) ≡ keep (ltb c 3 && (marked is_commit job whole && not (marked is_back job h))) (action_by c job cell) (part_of whole h)
unfolding action_by
part_line c job cell whole h =
    by_test (ltb c 3)
    (λ t. rw (t, act_event c job cell (ltb-true c 3 t)) (part_does whole (action_by c job cell) h))
    (λ f. rw (f, end_event c job cell (ltb-false c 3 f)) (part_ends whole (mark_by c) job h ∙ sym (keep_not (action_by c job cell) (part_of whole h))))
