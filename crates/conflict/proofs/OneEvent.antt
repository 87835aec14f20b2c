-- What one more event in front of a history does to its lines and marks, its committed part, its order of commits, and to whether jobs end for good.
-- Crates above use these clauses in place of the definitions.
-- Assumes nothing.
use Prim.Native.Nat.{ℕ}
use mathlib.Core.Path.{◌≡◌, refl}
use mathlib.Core.Bool.{Bool, true, false, not, ◌&&◌, ◌||◌}
use mathlib.Core.List.{[], ◌∷◌}
use native.Mathlib.Omega.{arith}
use lib.Dec.{eqb}
use Rattle.laws.specs.Choice.{pick}
use Rattle.laws.specs.Lists.{put}
use Rattle.conflict.specs.declared.action.Action.{Action}
use Rattle.conflict.specs.declared.action.Mark.{Mark}
use Rattle.conflict.specs.declared.action.Mark.TheVariants.{Commit, GiveUp, Back}
use Rattle.conflict.specs.declared.action.Event.TheVariants.{Does, Ends}
use Rattle.conflict.specs.Schedule.{keep}
use Rattle.conflict.specs.History.{History, is_commit, is_back, marked, part_of, committed_part, commits, commit_order, line_of, ends_for_good}
use Rattle.conflict.specs.Runs.{is_end, ended}

-- whether a mark ends its job for good, as a c and an a do
unfoldable pub is_last : Mark → Bool
is_last Commit = true
is_last GiveUp = true
is_last Back = false

-- no line stands in an empty history
pub line_none : (j : ℕ) → line_of j [] ≡ false
unfolding line_of
line_none j = refl

-- an action is a line of its job
pub line_does : (j : ℕ) (a : Action) (h : History) → line_of j (Does a ∷ h) ≡ (eqb a.job j || line_of j h)
unfolding line_of
line_does j a h = refl

-- and so is a mark
pub line_ends : (j : ℕ) (m : Mark) (i : ℕ) (h : History) → line_of j (Ends m i ∷ h) ≡ (eqb i j || line_of j h)
unfolding line_of
line_ends j m i h = refl

-- no mark stands in an empty history
pub marked_none : (f : Mark → Bool) (j : ℕ) → marked f j [] ≡ false
unfolding marked
marked_none f j = refl

-- an action is not a mark
pub marked_does : (f : Mark → Bool) (j : ℕ) (a : Action) (h : History) → marked f j (Does a ∷ h) ≡ marked f j h
unfolding marked
marked_does f j a h = refl

-- a mark is a mark of its job
pub marked_ends : (f : Mark → Bool) (j : ℕ) (m : Mark) (i : ℕ) (h : History) → marked f j (Ends m i ∷ h) ≡ ((eqb i j && f m) || marked f j h)
unfolding marked
marked_ends f j m i h = refl

-- in an empty history jobs end for good
pub good_none : ends_for_good [] ≡ true
unfolding ends_for_good
good_none = refl

-- an action in front does not change this
pub good_does : (a : Action) (h : History) → ends_for_good (Does a ∷ h) ≡ ends_for_good h
unfolding ends_for_good
good_does a h = refl

-- with a c or an a in front, no line of its job may follow
pub good_ends : (m : Mark) (i : ℕ) (h : History) → ends_for_good (Ends m i ∷ h) ≡ ((is_back m || not (line_of i h)) && ends_for_good h)
unfolding ends_for_good
good_ends m i h = refl

-- a k does not end its job for good
pub back_not_last : is_last Back ≡ false
unfolding is_last
back_not_last = refl

-- a c is not a k
pub commit_not_back : is_back Commit ≡ false
unfolding is_back
commit_not_back = refl

-- and an a is not a k
pub give_up_not_back : is_back GiveUp ≡ false
unfolding is_back
give_up_not_back = refl

-- a k is a k
pub back_is_back : is_back Back ≡ true
unfolding is_back
back_is_back = refl

-- a c is a commit
pub commit_is_commit : is_commit Commit ≡ true
unfolding is_commit
commit_is_commit = refl

-- an a is not a commit
pub give_up_not_commit : is_commit GiveUp ≡ false
unfolding is_commit
give_up_not_commit = refl

-- and a k is not a commit
pub back_not_commit : is_commit Back ≡ false
unfolding is_commit
back_not_commit = refl

-- every mark ends a run
pub any_ends : (m : Mark) → is_end m ≡ true
unfolding is_end
any_ends m = refl

-- a job's run has ended exactly if the job has a mark
pub ended_is : (j : ℕ) (h : History) → ended j h ≡ marked is_end j h
unfolding ended
ended_is j h = refl

-- with no lines no run commits
pub commits_none : (j : ℕ) → commits j [] ≡ false
unfolding commits
commits_none j = refl

-- an action in front does not change this
pub commits_does : (j : ℕ) (a : Action) (h : History) → commits j (Does a ∷ h) ≡ commits j h
unfolding commits
commits_does j a h = refl

-- a mark in front ends its job's run, which commits if it is a c
pub commits_ends : (j : ℕ) (m : Mark) (i : ℕ) (h : History) → commits j (Ends m i ∷ h) ≡ pick (eqb i j) (is_commit m) (commits j h)
unfolding commits
commits_ends j m i h = refl

-- with no lines the committed part is empty
pub part_none : (whole : History) → part_of whole [] ≡ []
unfolding part_of
part_none whole = refl

-- an action is in it if its job has a c in the whole and no k after the action
pub part_does : (whole : History) (a : Action) (h : History) → part_of whole (Does a ∷ h) ≡ keep (marked is_commit a.job whole && not (marked is_back a.job h)) a (part_of whole h)
unfolding part_of
part_does whole a h = refl

-- a mark is not in it
pub part_ends : (whole : History) (m : Mark) (i : ℕ) (h : History) → part_of whole (Ends m i ∷ h) ≡ part_of whole h
unfolding part_of
part_ends whole m i h = refl

-- the committed part is that of all lines
pub part_whole : (h : History) → committed_part h ≡ part_of h h
unfolding committed_part
part_whole h = refl

-- in an empty history no job commits
pub order_none : commit_order [] ≡ []
unfolding commit_order
order_none = refl

-- an action in front does not change the order of commits
pub order_does : (a : Action) (h : History) → commit_order (Does a ∷ h) ≡ commit_order h
unfolding commit_order
order_does a h = refl

-- the job of a c in front comes first
pub order_ends : (m : Mark) (i : ℕ) (h : History) → commit_order (Ends m i ∷ h) ≡ put (is_commit m) i (commit_order h)
unfolding commit_order
order_ends m i h = refl

-- two actions are equal events only if they are the same action
pub same_action : {x y : Action} → Does x ≡ Does y → x ≡ y
same_action e = cc

-- and an action is never a mark
pub no_mark : {P : Type 0} {x : Action} {m : Mark} {j : ℕ} → Does x ≡ Ends m j → P
no_mark e = let z : ◌≡◌ {A = ℕ} 0 1 = cc in absurd (omega arith)
