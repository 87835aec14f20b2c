-- Dirty reads a second time, with runs as pairs of lines: where a run of a job begins and where it ends, without looking along the history (02, No. 2; 01, Jobs and their numbers). Lines are counted from 0.
use Rattle.std.specs.Prelude.{ℕ, suc, ◌≤◌, ◌<◌, ◌≡◌, ◌≢◌, ◌⊎◌, length, get_or}
use Rattle.conflict.specs.declared.action.Kind.TheVariants.{Read, Write, Increment}
use Rattle.conflict.specs.declared.action.Action.{Action}
use Rattle.conflict.specs.declared.action.Mark.{Mark}
use Rattle.conflict.specs.declared.action.Mark.TheVariants.{Commit}
use Rattle.conflict.specs.declared.action.Event.{Event}
use Rattle.conflict.specs.declared.action.Event.TheVariants.{Does, Ends}
use Rattle.conflict.specs.History.{History}

-- the history has a line k, and it is this event (01, Lines)
abbrev pub LineAt : History → ℕ → Event → Type 0
LineAt h k e = (k < length h) × (get_or h k e ≡ e)

-- line k is a mark of job j: a c, an a or a k (01, Jobs and their numbers: the end of a run)
abbrev pub MarkAt : History → ℕ → ℕ → Type 0
MarkAt h k j = (m : Mark) × LineAt h k (Ends m j)

-- a run of job j as a pair of lines: it begins with the history or right after a mark of j, and has no mark of j in it. Its end is the next mark of j, or the history's length if there is none (01, Jobs and their numbers)
pub record Run (h : History) (j begin end : ℕ) : Type 0 where
  pub begins : (begin ≡ 0) ⊎ ((k : ℕ) × (begin ≡ suc k) × MarkAt h k j)
  pub unbroken : (k : ℕ) → begin ≤ k → k < end → MarkAt h k j → ⊥
  pub ends : (end ≡ length h) ⊎ MarkAt h end j

-- line k is in that run of job j (01, Jobs and their numbers)
pub record InRun (h : History) (j k begin end : ℕ) : Type 0 where
  pub run : Run h j begin end
  pub behind : begin ≤ k
  pub before : k < end

-- job j's line k is in a run that ends with a commit (01, Jobs and their numbers)
pub record Kept (h : History) (j k : ℕ) : Type 0 where
  pub begin : ℕ
  pub end : ℕ
  pub stands : InRun h j k begin end
  pub commit : LineAt h end (Ends Commit j)

-- job j's line k is in a run that does not end with a commit and has not ended before line p (02, No. 2)
pub record Loose (h : History) (j k p : ℕ) : Type 0 where
  pub begin : ℕ
  pub end : ℕ
  pub stands : InRun h j k begin end
  pub never : LineAt h end (Ends Commit j) → ⊥
  pub later : p ≤ end

-- a dirty read by runs: line p is i's read of a cell in a run that commits. Line q, before it, is another job's write or increment of that cell, in a run that does not commit and has not ended before the read (02, No. 2)
pub record DirtyByRuns (h : History) (p q i j : ℕ) : Type 0 where
  pub read : Action
  pub write : Action
  pub read_line : LineAt h p (Does read)
  pub reads : read.kind ≡ Read
  pub reads_by : read.job ≡ i
  pub write_line : LineAt h q (Does write)
  pub writes : (write.kind ≡ Write) ⊎ (write.kind ≡ Increment)
  pub writes_by : write.job ≡ j
  pub one_cell : read.cell ≡ write.cell
  pub two_jobs : i ≢ j
  pub earlier : q < p
  pub kept : Kept h i p
  pub loose : Loose h j q p

-- the reader and the writer told for a history: no line before p is a dirty read by runs, and no line after q makes line p one (02, No. 2: the first read, and the latest of its writers)
pub record FirstByRuns (h : History) (i j : ℕ) : Type 0 where
  pub p : ℕ
  pub q : ℕ
  pub dirty : DirtyByRuns h p q i j
  pub first : (x y k l : ℕ) → DirtyByRuns h x y k l → p ≤ x
  pub latest : (y k l : ℕ) → DirtyByRuns h p y k l → y ≤ q

-- line q is a write or increment of this cell by job j, and it still stands at line p: its run has not ended before p without a commit, which would take it back (02, No. 2)
pub record Standing (h : History) (p q j cell : ℕ) : Type 0 where
  pub write : Action
  pub line : LineAt h q (Does write)
  pub writes : (write.kind ≡ Write) ⊎ (write.kind ≡ Increment)
  pub by : write.job ≡ j
  pub on : write.cell ≡ cell
  pub begin : ℕ
  pub end : ℕ
  pub stands : InRun h j q begin end
  pub still : end < p → LineAt h end (Ends Commit j)

-- what Adya calls an aborted read (G1a): a read in a run that commits, of what the latest standing write or increment of the cell left; that one is another job's, in a run that never commits. 02, No. 2 does not ask for the latest
pub record AbortedRead (h : History) (p q i j : ℕ) : Type 0 where
  pub read : Action
  pub read_line : LineAt h p (Does read)
  pub reads : read.kind ≡ Read
  pub reads_by : read.job ≡ i
  pub kept : Kept h i p
  pub earlier : q < p
  pub from : Standing h p q j read.cell
  pub latest : (y k : ℕ) → y < p → Standing h p y k read.cell → y ≤ q
  pub two_jobs : i ≢ j
  pub never : LineAt h from.end (Ends Commit j) → ⊥
