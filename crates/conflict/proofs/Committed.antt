-- The committed part: if jobs end for good, its handier form equals the paper's, its jobs are those in the order of commits, and that order names no job twice.
-- Assumes nothing.
use Prim.Native.Nat.{ℕ}
use mathlib.Core.Path.{◌≡◌, refl, sym, ap, ap₂, ◌∙◌}
use mathlib.Core.Bool.{true, false, not, ◌&&◌, and-false}
use mathlib.Core.List.{[], ◌∷◌}
use borrow.Author.Tests.{eqb-true}
use lib.Dec.{eqb}
use Rattle.laws.specs.Choice.{by_test, not_both}
use Rattle.laws.specs.Lists.{member, distinct, put}
use Rattle.laws.proofs.Lists.{same_refl, member_more}
use Rattle.laws.proofs.Parts.{and_both, or_first, or_second}
use Rattle.conflict.specs.declared.action.Mark.{Mark}
use Rattle.conflict.specs.declared.action.Mark.TheVariants.{Commit, GiveUp, Back}
use Rattle.conflict.specs.declared.action.Event.TheVariants.{Does, Ends}
use Rattle.conflict.specs.Schedule.{keep, names}
use Rattle.conflict.specs.History.{History, is_commit, is_back, marked, part_of, committed_part, commits, committed, commit_order, line_of, ends_for_good}
use Rattle.conflict.proofs.CommittedJobs.{names_wider}
use Rattle.conflict.proofs.Marks.{unmarked, listed, commits_marked, commits_is, ended_alone, ends_rest}

-- no job that still has lines has a c among the lines gone by: such a job has a c in the whole exactly if it has one in the rest
abbrev Ahead : History → History → Type 0
Ahead whole h = (j : ℕ) → line_of j h ≡ true → marked is_commit j whole ≡ marked is_commit j h

-- a mark that is a commit is not a sending back
not_back : (m : Mark) → is_commit m ≡ true → is_back m ≡ false
unfolding is_commit is_back
not_back Commit e = refl
not_back GiveUp e = refl
not_back Back e = sym e

-- this still holds when one more mark has gone by
past_mark : (whole : History) (m : Mark) (i : ℕ) (h : History) → ends_for_good (Ends m i ∷ h) ≡ true → Ahead whole (Ends m i ∷ h) → Ahead whole h
unfolding line_of marked
past_mark whole m i h e ahead j l =
    ahead j (or_second (eqb i j) (line_of j h) l)
    ∙ by_test (is_commit m)
    (λ c. by_test (eqb i j)
    (λ t. not_both l (rw (← eqb-true i j t) (ended_alone m i h e (not_back m c))))
    (λ f. rw f))
    (λ n. rw (n, and-false))

-- among the lines that are left, the two forms keep the same actions
part_is : (whole h : History) → ends_for_good h ≡ true → Ahead whole h → part_of whole h ≡ committed h
unfolding part_of committed ends_for_good line_of marked
part_is whole [] e ahead = refl
part_is whole (Does a ∷ h) e ahead =
    ap₂ (λ b s. keep b a s)
    (ap (λ b. b && not (marked is_back a.job h)) (ahead a.job (or_first (eqb a.job a.job) (line_of a.job h) (same_refl a.job)))
    ∙ commits_is a.job h e)
    (part_is whole h e (λ j l. ahead j (or_second (eqb a.job j) (line_of j h) l)))
part_is whole (Ends m i ∷ h) e ahead = part_is whole h (ends_rest m i h e) (past_mark whole m i h e ahead)

-- if jobs end for good, the actions whose run ends with a commit are the paper's committed part
pub committed_is : (h : History) → ends_for_good h ≡ true → committed_part h ≡ committed h
unfolding committed_part
committed_is h e = part_is h h e (λ j l. refl)

-- every job of the committed part is in the order of commits
pub committed_has : (h : History) → names (commit_order h) (committed h) ≡ true
unfolding names committed commit_order keep put
committed_has [] = refl
committed_has (Does a ∷ h) =
    by_test (commits a.job h)
    (λ t. rw t (and_both (member a.job (commit_order h)) (names (commit_order h) (committed h)) (listed a.job h ∙ commits_marked a.job h t) (committed_has h)))
    (λ f. rw f (committed_has h))
committed_has (Ends m i ∷ h) =
    by_test (is_commit m) (λ t. rw t (names_wider (commit_order h) (i ∷ commit_order h) (committed h) (λ j m. member_more i (commit_order h) j m) (committed_has h))) (λ f. rw f (committed_has h))

-- if jobs end for good, no job commits twice
pub commit_order_once : (h : History) → ends_for_good h ≡ true → distinct (commit_order h) ≡ true
unfolding distinct commit_order ends_for_good put
commit_order_once [] e = refl
commit_order_once (Does a ∷ h) e = commit_order_once h e
commit_order_once (Ends m i ∷ h) e =
    by_test (is_commit m)
    (λ t. rw t (and_both (not (member i (commit_order h))) (distinct (commit_order h))
    (ap not (listed i h ∙ unmarked is_commit i h (ended_alone m i h e (not_back m t)))) (commit_order_once h (ends_rest m i h e))))
    (λ f. rw f (commit_order_once h (ends_rest m i h e)))
