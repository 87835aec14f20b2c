-- The marks of a job in a history: a job without lines has none. If jobs end for good, a job's next mark is a commit exactly if the job has a c and no k.
-- Assumes nothing.
use Prim.Native.Nat.{ℕ}
use mathlib.Core.Path.{◌≡◌, refl, sym, ap, ◌∙◌, subst}
use mathlib.Core.Bool.{Bool, true, false, not, ◌&&◌, ◌||◌, and-false}
use mathlib.Core.List.{[], ◌∷◌}
use borrow.Author.Tests.{eqb-true, not-true}
use lib.Dec.{eqb}
use Rattle.laws.specs.Choice.{by_test}
use Rattle.laws.specs.Lists.{member}
use Rattle.laws.proofs.Lists.{member_put}
use Rattle.laws.proofs.Parts.{and_first, and_second, nor_first, nor_second}
use Rattle.conflict.specs.declared.action.Mark.{Mark}
use Rattle.conflict.specs.declared.action.Mark.TheVariants.{Commit, GiveUp, Back}
use Rattle.conflict.specs.declared.action.Event.TheVariants.{Does, Ends}
use Rattle.conflict.specs.History.{History, is_commit, is_back, marked, commits, commit_order, line_of, ends_for_good}

-- a job without a line has no mark
pub unmarked : (f : Mark → Bool) (j : ℕ) (h : History) → line_of j h ≡ false → marked f j h ≡ false
unfolding marked line_of
unmarked f j [] e = refl
unmarked f j (Does a ∷ h) e = unmarked f j h (nor_second (eqb a.job j) (line_of j h) e)
unmarked f j (Ends m i ∷ h) e = rw (nor_first (eqb i j) (line_of j h) e) (unmarked f j h (nor_second (eqb i j) (line_of j h) e))

-- the jobs in the order of commits are those with a c
pub listed : (j : ℕ) (h : History) → member j (commit_order h) ≡ marked is_commit j h
unfolding member commit_order marked
listed j [] = refl
listed j (Does a ∷ h) = listed j h
listed j (Ends m i ∷ h) = member_put (is_commit m) i j (commit_order h) ∙ ap (λ b. (eqb i j && is_commit m) || b) (listed j h)

-- a job whose next mark is a commit has a c
pub commits_marked : (j : ℕ) (h : History) → commits j h ≡ true → marked is_commit j h ≡ true
unfolding marked commits
commits_marked j [] e = e
commits_marked j (Does a ∷ h) e = commits_marked j h e
commits_marked j (Ends m i ∷ h) e = by_test (eqb i j) (λ t. rw t (let g : is_commit m ≡ true = rw t at e in rw g)) (λ f. rw f (commits_marked j h (rw f at e)))

-- if jobs end for good, no line of a job follows its mark, unless the mark is a k
pub ended_alone : (m : Mark) (i : ℕ) (h : History) → ends_for_good (Ends m i ∷ h) ≡ true → is_back m ≡ false → line_of i h ≡ false
unfolding ends_for_good
ended_alone m i h e b = not-true (line_of i h) (rw b at (and_first (is_back m || not (line_of i h)) (ends_for_good h) e))

-- if jobs end for good, they also do in the lines after a mark
pub ends_rest : (m : Mark) (i : ℕ) (h : History) → ends_for_good (Ends m i ∷ h) ≡ true → ends_for_good h ≡ true
unfolding ends_for_good
ends_rest m i h e = and_second (is_back m || not (line_of i h)) (ends_for_good h) e

-- at a job's own mark, which no line of it follows unless it is a k: the job has a c and no k exactly if that mark is a c
at_mark : (m : Mark) (i : ℕ) (h : History) → (is_back m ≡ false → line_of i h ≡ false) → ((is_commit m || marked is_commit i h) && not (is_back m || marked is_back i h)) ≡ is_commit m
unfolding is_commit is_back
at_mark Commit i h alone = rw (unmarked is_back i h (alone refl))
at_mark GiveUp i h alone = rw (unmarked is_commit i h (alone refl))
at_mark Back i h alone = and-false (marked is_commit i h)

-- if jobs end for good, the next mark of a job is a commit exactly if it has a c and no k
pub commits_is : (j : ℕ) (h : History) → ends_for_good h ≡ true → (marked is_commit j h && not (marked is_back j h)) ≡ commits j h
unfolding marked commits ends_for_good
commits_is j [] e = refl
commits_is j (Does a ∷ h) e = commits_is j h e
commits_is j (Ends m i ∷ h) e =
    by_test (eqb i j)
    (λ t. rw t (subst (λ k. ((is_commit m || marked is_commit k h) && not (is_back m || marked is_back k h)) ≡ is_commit m) (eqb-true i j t) (at_mark m i h (ended_alone m i h e))))
    (λ f. rw f (commits_is j h (ends_rest m i h e)))
