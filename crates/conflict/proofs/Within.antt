-- Schedules whose actions are in a history, in their order: the committed part is one, and each of its actions is somewhere in the history.
-- Assumes nothing.
use Prim.Native.Nat.{ℕ}
use mathlib.Core.Path.{◌≡◌, ap}
use mathlib.Core.Bool.{Bool, true, false, not, ◌&&◌}
use mathlib.Core.List.{[], ◌∷◌, ◌++◌}
use Rattle.laws.proofs.Joined.{head_same, tail_same, not_empty_mid}
use Rattle.conflict.specs.declared.action.Action.{Action}
use Rattle.conflict.specs.declared.action.Mark.{Mark}
use Rattle.conflict.specs.declared.action.Event.TheVariants.{Does, Ends}
use Rattle.conflict.specs.Schedule.{Schedule, keep}
use Rattle.conflict.specs.History.{History, is_commit, is_back, marked, part_of, committed_part, commits, committed}

-- the actions of the schedule stand in the history, in their order
pub data Within : Schedule → History → Type 0 where
  nothing : Within [] []
  with_it : {a : Action} {s : Schedule} {h : History} → Within s h → Within (a ∷ s) (Does a ∷ h)
  past_it : {a : Action} {s : Schedule} {h : History} → Within s h → Within s (Does a ∷ h)
  past_mark : {m : Mark} {j : ℕ} {s : Schedule} {h : History} → Within s h → Within s (Ends m j ∷ h)

-- an action of the schedule stands in the history, and those behind it stand behind it there
pub within_at : {P : Type 0} {s : Schedule} {h : History} → Within s h → (x : Schedule) (a : Action) (y : Schedule) → s ≡ x ++ a ∷ y →
    ((before after : History) → h ≡ before ++ Does a ∷ after → Within y after → P) → P
within_at nothing x a y e go = not_empty_mid x a y e
within_at (with_it {h = h} w) [] a y e go = go [] h (ap (λ c. Does c ∷ h) (head_same e)) (rw (tail_same e) at w)
within_at (with_it {a = b} w) (c ∷ x) a y e go = within_at w x a y (tail_same e) (λ before after q v. go (Does b ∷ before) after (ap (λ g. Does b ∷ g) q) v)
within_at (past_it {a = b} w) x a y e go = within_at w x a y e (λ before after q v. go (Does b ∷ before) after (ap (λ g. Does b ∷ g) q) v)
within_at (past_mark {m = m} {j = j} w) x a y e go = within_at w x a y e (λ before after q v. go (Ends m j ∷ before) after (ap (λ g. Ends m j ∷ g) q) v)

-- whether an action is kept or not, the actions stand in the history
keep_within : (b : Bool) {a : Action} {s : Schedule} {h : History} → Within s h → Within (keep b a s) (Does a ∷ h)
unfolding keep
keep_within true w = with_it w
keep_within false w = past_it w

-- the committed actions of the lines that are left are in those lines
part_within : (whole h : History) → Within (part_of whole h) h
unfolding part_of
part_within whole [] = nothing
part_within whole (Does a ∷ h) = keep_within (marked is_commit a.job whole && not (marked is_back a.job h)) (part_within whole h)
part_within whole (Ends m j ∷ h) = past_mark (part_within whole h)

-- the committed part stands in its history
pub committed_part_within : (h : History) → Within (committed_part h) h
unfolding committed_part
committed_part_within h = part_within h h

-- and so do the actions whose run ends with a commit
pub committed_within : (h : History) → Within (committed h) h
unfolding committed
committed_within [] = nothing
committed_within (Does a ∷ h) = keep_within (commits a.job h) (committed_within h)
committed_within (Ends m j ∷ h) = past_mark (committed_within h)
