-- Conflicting actions in number order, and the largest job number that has read or changed a cell, as in the timestamp method (02, No. 6).
use Rattle.std.specs.Prelude.{ℕ, ◌≤◌, ◌<◌, ◌≡◌, ◌⊎◌, Bool, true, false, ◌&&◌, [], ◌∷◌, ◌++◌, eqb}
use Rattle.laws.specs.Choice.{pick}
use Rattle.laws.specs.Larger.{larger}
use Rattle.conflict.specs.declared.action.Kind.{Kind}
use Rattle.conflict.specs.declared.action.Kind.TheVariants.{Read, Write, Increment}
use Rattle.conflict.specs.declared.action.Action.{Action}
use Rattle.conflict.specs.declared.action.Event.TheVariants.{Does, Ends}
use Rattle.conflict.specs.Schedule.{Schedule, conflicts}
use Rattle.conflict.specs.History.{History}

-- of any two conflicting actions of a schedule, the earlier is by the smaller job number (02, No. 6: conflicting actions stand in number order)
pub record InNumberOrder (s : Schedule) : Type 0 where
  pub rises : (before : Schedule) (a : Action) (between : Schedule) (b : Action) (after : Schedule) →
      s ≡ before ++ a ∷ between ++ b ∷ after → conflicts a b ≡ true → a.job < b.job

-- the same for all actions of a history, whatever becomes of their runs (02, No. 6)
pub record ActsInNumberOrder (h : History) : Type 0 where
  pub rises : (before : History) (a : Action) (between : History) (b : Action) (after : History) →
      h ≡ before ++ Does a ∷ between ++ Does b ∷ after → conflicts a b ≡ true → a.job < b.job

-- whether an action of this kind reads: an increment counts as a read and a write (02, No. 6); `changes` of Dirty.antt says which kinds write
unfoldable pub reads : Kind → Bool
reads Read = true
reads Write = false
reads Increment = true

-- the largest job number with an action of such a kind on the cell, whatever became of its run; 0 if there is none (02, No. 6)
unfoldable pub largest : (Kind → Bool) → ℕ → History → ℕ
largest f c [] = 0
largest f c (Does a ∷ h) = pick (eqb a.cell c && f a.kind) (larger a.job (largest f c h)) (largest f c h)
largest f c (Ends m j ∷ h) = largest f c h

-- somewhere in the history job n has an action of such a kind on the cell
pub record HasActed (f : Kind → Bool) (c : ℕ) (h : History) (n : ℕ) : Type 0 where
  pub before : History
  pub act : Action
  pub after : History
  pub lines : h ≡ before ++ Does act ∷ after
  pub on_cell : act.cell ≡ c
  pub of_kind : f act.kind ≡ true
  pub by_job : act.job ≡ n

-- what the largest number is, with no way to find it: no job that has acted so has a larger number, and this one has acted so itself, or is 0 at first (02, No. 6)
pub record IsLargest (f : Kind → Bool) (c : ℕ) (h : History) (n : ℕ) : Type 0 where
  pub most : (k : ℕ) → HasActed f c h k → k ≤ n
  pub attained : (n ≡ 0) ⊎ HasActed f c h n
