-- An open job asks for a cell; and what a step leaves, by its answer, from desk d before it to desk e after it (02, No. 6).
use Rattle.std.specs.Prelude.{ℕ, suc, ◌<◌, ◌≡◌, ◌≢◌, true, false, Some}
use Rattle.laws.specs.Larger.{larger}
use Rattle.laws.specs.Lists.{member}
use Rattle.terms.specs.declared.letters.Ask.{Ask}
use Rattle.terms.specs.declared.letters.Letter.TheVariants.{Asks}
use Rattle.terms.specs.Letters.{letter_of}
use Rattle.terms.specs.Limits.{cells}
use Rattle.desks.specs.Request.{Request}
use Rattle.stamp_rules.specs.Desk.{Desk, is_open}

-- an open job asks for a cell from 0 to 63
pub record Asking (d : Desk) (r : Request) (a : Ask) : Type 0 where
  pub letter : letter_of r.kind ≡ Some (Asks a)
  pub open_job : is_open d r.job ≡ true
  pub within : r.cell < cells

-- jobs and their numbers are as before
pub record SameJobs (d e : Desk) : Type 0 where
  pub places : e.jobs ≡ d.jobs
  pub next : e.next ≡ d.next

-- job j has read cell c: its reader number is the larger of what it was and the job, and every other cell's is as before (02, No. 6)
pub record ReadBy (d e : Desk) (j c : ℕ) : Type 0 where
  pub there : e.reader c ≡ larger (d.reader c) j
  pub elsewhere : (b : ℕ) → b ≢ c → e.reader b ≡ d.reader b

-- job j has written cell c: its writer number is the job, and every other cell's is as before (02, No. 6)
pub record WrittenBy (d e : Desk) (j c : ℕ) : Type 0 where
  pub there : e.writer c ≡ j
  pub elsewhere : (b : ℕ) → b ≢ c → e.writer b ≡ d.writer b

-- the cells' numbers stay
pub record SameStamps (d e : Desk) : Type 0 where
  pub readers : (c : ℕ) → e.reader c ≡ d.reader c
  pub writers : (c : ℕ) → e.writer c ≡ d.writer c

-- job j was begun: it has the number that was next, was not open before and is now; every other job and every cell's numbers are as before
pub record Begins (d e : Desk) (j : ℕ) : Type 0 where
  pub number : j ≡ d.next
  pub next : e.next ≡ suc d.next
  pub new : is_open d j ≡ false
  pub opened : is_open e j ≡ true
  pub others : (i : ℕ) → i ≢ j → is_open e i ≡ is_open d i
  pub stamps : SameStamps d e

-- job j was closed: it was open and is not now, a place is free, every other job is as before, and the cells' numbers stay
pub record Closes (d e : Desk) (j : ℕ) : Type 0 where
  pub was : is_open d j ≡ true
  pub shut : is_open e j ≡ false
  pub gone : member j e.jobs ≡ false
  pub free : member 0 e.jobs ≡ true
  pub others : (i : ℕ) → i ≢ j → is_open e i ≡ is_open d i
  pub next : e.next ≡ d.next
  pub stamps : SameStamps d e
