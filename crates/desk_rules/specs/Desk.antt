-- The paper's desk: jobs by number, what each job is doing, and for each cell its holders and its waiters (01, Jobs and their numbers).
use Rattle.std.specs.Prelude.{ℕ, Bool, true, false, List, [], replicate}
use Rattle.terms.specs.declared.letters.Ask.{Ask}
use Rattle.terms.specs.Limits.{places}
use Rattle.conflict.specs.declared.modes.Mode.{Mode}
use Rattle.conflict.specs.declared.modes.Mode.TheVariants.{Free}

-- an open job is running, waiting for one cell with what it asked, or sent back; every other job is closed (01, Jobs and their numbers)
pub data Status : Type 0 where
  closed : Status
  running : Status
  waiting : (cell : ℕ) (ask : Ask) → Status
  sentback : Status

-- an open job is running, waiting or sent back (01, Jobs and their numbers)
unfoldable pub is_open : Status → Bool
is_open closed = false
is_open running = true
is_open (waiting c a) = true
is_open sentback = true

-- running and waiting jobs are live (01, Jobs and their numbers)
unfoldable pub is_live : Status → Bool
is_live closed = false
is_live running = true
is_live (waiting c a) = true
is_live sentback = false

-- a job that waits in a queue, and what it asked for
pub record Waiter : Type 0 where
  pub job : ℕ
  pub ask : Ask

-- a cell: the mode that each job holds, and the queue, its front first
pub record Row : Type 0 where
  pub held : ℕ → Mode
  pub queue : List Waiter

-- the desk: the next number, the 32 places with the job in each (0 if free), what each job is doing, and the cells
pub record Desk : Type 0 where
  pub next : ℕ
  pub jobs : List ℕ
  pub stat : ℕ → Status
  pub row : ℕ → Row

-- no job holds the cell, and none waits for it
unfoldable pub idle : Row
idle = record { held = λ j. Free; queue = [] }

-- a fresh desk: its first number is next, every place is free, every job closed, every cell idle (01, Jobs and their numbers)
unfoldable pub fresh_desk : ℕ → Desk
fresh_desk n = record { next = n; jobs = replicate places 0; stat = λ j. closed; row = λ c. idle }
