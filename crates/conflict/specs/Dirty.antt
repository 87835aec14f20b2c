-- Dirty histories: a run that commits has read what another run had written, and that run had not ended yet and does not commit. In the request's words, and as it is looked for line by line (02, No. 2).
use Rattle.std.specs.Prelude.{ℕ, ◌+◌, ◌≤◌, ◌≡◌, ◌≢◌, Bool, true, false, not, ◌&&◌, [], ◌∷◌, ◌++◌, eqb, length, Option, None, Some}
use Rattle.laws.specs.Choice.{pick}
use Rattle.conflict.specs.declared.action.Kind.{Kind}
use Rattle.conflict.specs.declared.action.Kind.TheVariants.{Read, Write, Increment}
use Rattle.conflict.specs.declared.action.Action.{Action}
use Rattle.conflict.specs.declared.action.Event.TheVariants.{Does, Ends}
use Rattle.conflict.specs.History.{History, commits}
use Rattle.conflict.specs.Runs.{ended}

-- whether an action of this kind is a write or an increment
unfoldable pub changes : Kind → Bool
changes Read = false
changes Write = true
changes Increment = true

-- a dirty read: a job's read of a cell, in a run that commits, stands after another job's write or increment of that cell, in a run that does not commit,
-- and before that run's end if it has one (02, No. 2). Both places are counted from 0
pub record DirtyRead (h : History) (read_at write_at reader writer : ℕ) : Type 0 where
  pub before : History
  pub write : Action
  pub between : History
  pub read : Action
  pub after : History
  pub lines : h ≡ before ++ Does write ∷ between ++ Does read ∷ after
  pub write_place : write_at ≡ length before
  pub read_place : read_at ≡ length before + 1 + length between
  pub reads : read.kind ≡ Read
  pub reads_by : read.job ≡ reader
  pub writes : changes write.kind ≡ true
  pub writes_by : write.job ≡ writer
  pub one_cell : read.cell ≡ write.cell
  pub two_jobs : reader ≢ writer
  pub reader_commits : commits reader after ≡ true
  pub writer_does_not : commits writer (between ++ Does read ∷ after) ≡ false
  pub not_ended : ended writer between ≡ false

-- a history is dirty when it has a dirty read (02, No. 2)
pub record IsDirty (h : History) : Type 0 where
  pub read_at : ℕ
  pub write_at : ℕ
  pub reader : ℕ
  pub writer : ℕ
  pub dirty_read : DirtyRead h read_at write_at reader writer

-- the first dirty read, by its reader and its writer: no read before it is dirty, and the writer's action is the latest that makes it dirty (02, No. 2)
pub record FirstDirty (h : History) (reader writer : ℕ) : Type 0 where
  pub read_at : ℕ
  pub write_at : ℕ
  pub dirty_read : DirtyRead h read_at write_at reader writer
  pub first : (p q i j : ℕ) → DirtyRead h p q i j → read_at ≤ p
  pub latest : (q i j : ℕ) → DirtyRead h read_at q i j → q ≤ write_at

-- the job that read, and the job that wrote
pub record ReadOf : Type 0 where
  pub reader : ℕ
  pub writer : ℕ

-- whether an earlier action makes a read dirty, given the lines between the two and the lines after the read
unfoldable pub spoils : Action → History → Action → History → Bool
spoils a between read after =
    changes a.kind && (eqb a.cell read.cell && (not (eqb a.job read.job) && (not (commits a.job (between ++ Does read ∷ after)) && not (ended a.job between))))

-- looking back from a read over the lines before it, the last line first: the job of the first action found that makes the read dirty
unfoldable pub look_back : History → History → Action → History → Option ℕ
look_back [] between read after = None
look_back (Does a ∷ seen) between read after = pick (spoils a between read after) (Some a.job) (look_back seen (Does a ∷ between) read after)
look_back (Ends m j ∷ seen) between read after = look_back seen (Ends m j ∷ between) read after

-- the writer that makes an action dirty, if the action is a read in a run that commits
unfoldable pub writer_of : History → Action → History → Option ℕ
writer_of seen a after = pick (not (changes a.kind) && commits a.job after) (look_back seen [] a after) None

-- this read with its writer if it has one, else what is found later
unfoldable pub read_or_later : ℕ → Option ℕ → Option ReadOf → Option ReadOf
read_or_later reader None later = later
read_or_later reader (Some writer) later = Some (record { reader = reader; writer = writer })

-- the first dirty read among the lines that are left, given the lines already seen, the last of them first
unfoldable pub dirty_from : History → History → Option ReadOf
dirty_from seen [] = None
dirty_from seen (Does a ∷ h) = read_or_later a.job (writer_of seen a h) (dirty_from (Does a ∷ seen) h)
dirty_from seen (Ends m j ∷ h) = dirty_from (Ends m j ∷ seen) h

-- reader and writer of a history's first dirty read, if it has one (02, No. 2)
unfoldable pub dirty_of : History → Option ReadOf
dirty_of h = dirty_from [] h
