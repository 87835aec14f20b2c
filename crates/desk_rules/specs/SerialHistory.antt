-- What is promised of the history: its committed part is conflict-equivalent to its jobs in the order of their commits (demand 2), and it is never dirty (02, No. 2).
use Rattle.std.specs.Prelude.{ℕ, ◌≡◌, true, List, ◌∷◌, ◌++◌}
use Rattle.laws.specs.Lists.{distinct}
use Rattle.conflict.specs.declared.action.Action.{Action}
use Rattle.conflict.specs.declared.action.Event.TheVariants.{Does}
use Rattle.conflict.specs.Schedule.{conflicts, Equivalent, serial, ConflictSerializable, edge, knot}
use Rattle.conflict.specs.History.{History, committed_part, commit_order, committed, strict, ends_for_good}
use Rattle.conflict.specs.Runs.{ended}
use Rattle.conflict.specs.Dirty.{IsDirty}

pub record SerialHistory (h : History) : Type 0 where
  -- the committed part is conflict-equivalent to its jobs run one after another in the order of their commits, which names no job twice (demand 2)
  pub serial_by_commits : Equivalent (committed_part h) (serial (commit_order h) (committed_part h))
  pub commits_once : distinct (commit_order h) ≡ true
  -- so it is conflict-serializable in the book's sense, and has no knot (000, 18.2; 01, The judge's rules)
  pub serializable : ConflictSerializable (committed_part h)
  pub never_a_knot : (js : List ℕ) → knot (edge (committed_part h)) js ≡ true → ⊥
  -- from each action to the end of its run no action of another job conflicts with it (01, The desk's rules)
  pub history_strict : strict h ≡ true
  -- an action comes only after the run of every earlier action that conflicts with it has ended: so a read comes after the end of every run of another job that wrote or incremented its cell (02, No. 2)
  pub after_their_ends : (before : History) (a : Action) (between : History) (b : Action) (after : History) → h ≡ before ++ Does a ∷ between ++ Does b ∷ after → conflicts a b ≡ true → ended a.job between ≡ true
  -- the history is not dirty, and was not dirty at any moment, however much of it had been written (02, No. 2)
  pub never_dirty : (x y : History) → h ≡ x ++ y → IsDirty x → ⊥
  -- no event of a job follows its c or a, and the committed part is as the paper words it (01, refusals 3 and 13)
  pub no_event_after_end : ends_for_good h ≡ true
  pub committed_as_worded : committed_part h ≡ committed h
