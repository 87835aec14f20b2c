-- What is promised of the history: conflicting actions stand in number order, so ascending numbers are a serial order (02, No. 6).
use Rattle.std.specs.Prelude.{ℕ, ◌<◌, ◌≡◌, ◌≢◌, true, false, List, ◌∷◌, ◌++◌}
use Rattle.laws.specs.Lists.{member, distinct}
use Rattle.laws.specs.Sorted.{sorted}
use Rattle.conflict.specs.declared.action.Mark.{Mark}
use Rattle.conflict.specs.declared.action.Kind.TheVariants.{Increment}
use Rattle.conflict.specs.declared.action.Action.{Action}
use Rattle.conflict.specs.declared.action.Event.TheVariants.{Does, Ends}
use Rattle.conflict.specs.Schedule.{Equivalent, serial, ConflictSerializable, edge, knot}
use Rattle.conflict.specs.History.{History, is_commit, marked, line_of, committed_part, committed, commit_order, ends_for_good}
use Rattle.conflict.specs.NumberOrder.{InNumberOrder, ActsInNumberOrder}

pub record NumberHistory (h : History) : Type 0 where
  -- conflicting actions of committed jobs stand in number order, and so do those of all others (02, No. 6)
  pub committed_in_order : InNumberOrder (committed_part h)
  pub all_in_order : ActsInNumberOrder h
  -- two jobs' increments of one cell, which do not conflict, stand in number order too, since an increment counts as a read and a write (02, No. 6)
  pub increments_in_order : (before : History) (a : Action) (between : History) (b : Action) (after : History) → h ≡ before ++ Does a ∷ between ++ Does b ∷ after → a.cell ≡ b.cell → a.kind ≡ Increment → b.kind ≡ Increment → a.job ≢ b.job → a.job < b.job
  -- so the committed part is conflict-equivalent to the committed jobs run one after another in ascending numbers, each once (02, No. 6)
  pub serial_by_numbers : Equivalent (committed_part h) (serial (sorted (commit_order h)) (committed_part h))
  pub numbers_once : distinct (sorted (commit_order h)) ≡ true
  pub committed_jobs : (j : ℕ) → member j (sorted (commit_order h)) ≡ marked is_commit j h
  -- it is conflict-serializable in the book's sense, and has no knot (000, 18.2; 01, The judge's rules)
  pub serializable : ConflictSerializable (committed_part h)
  pub never_a_knot : (js : List ℕ) → knot (edge (committed_part h)) js ≡ true → ⊥
  -- no event of a job follows its c, its a or its k: a job sent back is closed (02, No. 6); so the committed part is as the paper words it
  pub nothing_after_end : (before : History) (m : Mark) (j : ℕ) (after : History) → h ≡ before ++ Ends m j ∷ after → line_of j after ≡ false
  pub no_event_after_end : ends_for_good h ≡ true
  pub committed_as_worded : committed_part h ≡ committed h
