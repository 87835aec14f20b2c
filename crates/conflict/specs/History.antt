-- Histories: actions and the marks that end runs; the committed part, the order of commits, and strictness (01, The judge's rules; 01, Jobs and their numbers).
use Rattle.std.specs.Prelude.{ℕ, Bool, true, false, not, ◌&&◌, ◌||◌, List, [], ◌∷◌, eqb}
use Rattle.laws.specs.Choice.{pick}
use Rattle.laws.specs.Lists.{put}
use Rattle.conflict.specs.declared.action.Action.{Action}
use Rattle.conflict.specs.declared.action.Mark.{Mark}
use Rattle.conflict.specs.declared.action.Mark.TheVariants.{Commit, GiveUp, Back}
use Rattle.conflict.specs.declared.action.Event.{Event}
use Rattle.conflict.specs.declared.action.Event.TheVariants.{Does, Ends}
use Rattle.conflict.specs.Schedule.{Schedule, conflicts, keep}

-- a history is a list of events in their order (01, Lines)
abbrev pub History : Type 0
History = List Event

-- whether a mark is a commit
unfoldable pub is_commit : Mark → Bool
is_commit Commit = true
is_commit GiveUp = false
is_commit Back = false

-- whether a mark is a sending back
unfoldable pub is_back : Mark → Bool
is_back Commit = false
is_back GiveUp = false
is_back Back = true

-- whether job j has a mark of this sort in the history
unfoldable pub marked : (Mark → Bool) → ℕ → History → Bool
marked f j [] = false
marked f j (Does a ∷ h) = marked f j h
marked f j (Ends m i ∷ h) = (eqb i j && f m) || marked f j h

-- among the lines that are left, the actions of jobs that have a c in the whole history and no k after the action
unfoldable pub part_of : History → History → Schedule
part_of whole [] = []
part_of whole (Does a ∷ h) = keep (marked is_commit a.job whole && not (marked is_back a.job h)) a (part_of whole h)
part_of whole (Ends m i ∷ h) = part_of whole h

-- the committed part holds, for each job with a c, the actions after its last k (01, The judge's rules)
unfoldable pub committed_part : History → Schedule
committed_part h = part_of h h

-- the run that job j is in ends with a commit: its next mark is a c
unfoldable pub commits : ℕ → History → Bool
commits j [] = false
commits j (Does a ∷ h) = commits j h
commits j (Ends m i ∷ h) = pick (eqb i j) (is_commit m) (commits j h)

-- the actions whose run ends with a commit
unfoldable pub committed : History → Schedule
committed [] = []
committed (Does a ∷ h) = keep (commits a.job h) a (committed h)
committed (Ends m i ∷ h) = committed h

-- the jobs with a c, in the order of their commits (demand 2)
unfoldable pub commit_order : History → List ℕ
commit_order [] = []
commit_order (Does a ∷ h) = commit_order h
commit_order (Ends m i ∷ h) = put (is_commit m) i (commit_order h)

-- whether a line of job j stands in the history
unfoldable pub line_of : ℕ → History → Bool
line_of j [] = false
line_of j (Does a ∷ h) = eqb a.job j || line_of j h
line_of j (Ends m i ∷ h) = eqb i j || line_of j h

-- no line of a job follows its c or a (01, refusal 13)
unfoldable pub ends_for_good : History → Bool
ends_for_good [] = true
ends_for_good (Does a ∷ h) = ends_for_good h
ends_for_good (Ends m i ∷ h) = (is_back m || not (line_of i h)) && ends_for_good h

-- until the run of action a ends, no action conflicts with it
unfoldable pub undisturbed : Action → History → Bool
undisturbed a [] = true
undisturbed a (Does b ∷ h) = not (conflicts a b) && undisturbed a h
undisturbed a (Ends m i ∷ h) = pick (eqb i a.job) true (undisturbed a h)

-- strict: from each action to the end of its run, no action of another job conflicts with it (01, The desk's rules: nothing is released before the run ends)
unfoldable pub strict : History → Bool
strict [] = true
strict (Does a ∷ h) = undisturbed a h && strict h
strict (Ends m i ∷ h) = strict h
