-- What is promised of reads, writes, increments and u: each goes exactly when the request says, and otherwise its job is sent back (02, No. 6).
use Rattle.std.specs.Prelude.{ℕ, ◌<◌, ◌≤◌, ◌≡◌, ◌⊎◌, ◌↔◌}
use Rattle.terms.specs.declared.letters.Ask.{Ask}
use Rattle.terms.specs.declared.letters.Ask.TheVariants.{Read, Write, Increment, Update}
use Rattle.desks.specs.declared.Answer.TheVariants.{Go, Back}
use Rattle.desks.specs.Request.{Request}
use Rattle.desks.specs.Course.{Course, now, to}
use Rattle.stamp_rules.specs.Desk.{Desk}
use Rattle.stamp_rules.specs.Asked.{Asking, SameJobs, ReadBy, WrittenBy}

-- the reader number of the cell that a request names
abbrev pub reader_there : Course Desk → Request → ℕ
reader_there k r = (now k).reader r.cell

-- and its writer number
abbrev pub writer_there : Course Desk → Request → ℕ
writer_there k r = (now k).writer r.cell

-- a request goes exactly if the first holds, and its job is sent back exactly if the second does
pub record GoesWhere (k : Course Desk) (r : Request) (this that : Type 0) : Type 0 where
  pub goes : ((to k r).said ≡ Go r.job) ↔ this
  pub goes_back : ((to k r).said ≡ Back r.job) ↔ that

pub record Decides (k : Course Desk) (r : Request) : Type 0 where
  -- a read is sent back if its job is smaller than the cell's writer number; u counts as a read; an equal number goes
  pub reads : Asking (now k) r Read → GoesWhere k r (writer_there k r ≤ r.job) (r.job < writer_there k r)
  pub updates : Asking (now k) r Update → GoesWhere k r (writer_there k r ≤ r.job) (r.job < writer_there k r)
  -- a write is sent back if its job is smaller than either number; an increment counts as a read and a write; equal numbers go
  pub writes : Asking (now k) r Write → GoesWhere k r ((reader_there k r ≤ r.job) × (writer_there k r ≤ r.job)) ((r.job < reader_there k r) ⊎ (r.job < writer_there k r))
  pub increments : Asking (now k) r Increment → GoesWhere k r ((reader_there k r ≤ r.job) × (writer_there k r ≤ r.job)) ((r.job < reader_there k r) ⊎ (r.job < writer_there k r))
  -- go or back, and nothing else
  pub one_of_two : (a : Ask) → Asking (now k) r a → ((to k r).said ≡ Go r.job) ⊎ ((to k r).said ≡ Back r.job)
  -- what a go leaves: a read leaves the larger number as reader, a write leaves the job as writer, an increment does both; jobs and their numbers stay
  pub read_leaves : Asking (now k) r Read → (to k r).said ≡ Go r.job → ReadBy (now k) (to k r).desk r.job r.cell × ((to k r).desk.writer ≡ (now k).writer)
  pub update_leaves : Asking (now k) r Update → (to k r).said ≡ Go r.job → ReadBy (now k) (to k r).desk r.job r.cell × ((to k r).desk.writer ≡ (now k).writer)
  pub write_leaves : Asking (now k) r Write → (to k r).said ≡ Go r.job → WrittenBy (now k) (to k r).desk r.job r.cell × ((to k r).desk.reader ≡ (now k).reader)
  pub increment_leaves : Asking (now k) r Increment → (to k r).said ≡ Go r.job → ReadBy (now k) (to k r).desk r.job r.cell × WrittenBy (now k) (to k r).desk r.job r.cell
  pub jobs_stay : (a : Ask) → Asking (now k) r a → (to k r).said ≡ Go r.job → SameJobs (now k) (to k r).desk
