-- What a step does, by its answer, from desk d before it to desk e after it (01, The desk's rules).
use Rattle.std.specs.Prelude.{ℕ, suc, ◌<◌, ◌≡◌, ◌≢◌, Bool, true, false, List, [], ◌∷◌, ◌++◌, Some}
use Rattle.laws.specs.Lists.{member}
use Rattle.terms.specs.declared.letters.Ask.{Ask}
use Rattle.terms.specs.declared.letters.Letter.TheVariants.{Commit, GiveUp}
use Rattle.terms.specs.Letters.{letter_of}
use Rattle.terms.specs.Limits.{cells}
use Rattle.conflict.specs.declared.modes.Mode.{Mode}
use Rattle.conflict.specs.declared.modes.Mode.TheVariants.{Free}
use Rattle.conflict.specs.declared.action.Action.{Action}
use Rattle.conflict.specs.Modes.{needed, recorded, covers, is_free, Becomes}
use Rattle.desks.specs.declared.Answer.{Answer}
use Rattle.desks.specs.declared.Answer.TheVariants.{Go, Back}
use Rattle.desks.specs.Request.{Request}
use Rattle.laws.specs.Standing.{In}
use Rattle.desk_rules.specs.Desk.{closed, running, waiting, sentback, Waiter, Desk}
use Rattle.desk_rules.specs.Asked.{Asking}

-- the job holds nothing in any cell and stands in no queue
pub record Away (d : Desk) (j : ℕ) : Type 0 where
  pub holds_nothing : (c : ℕ) → (d.row c).held j ≡ Free
  pub waits_nowhere : (c : ℕ) (w : Waiter) → In w (d.row c).queue → w.job ≢ j

-- from desk d to desk e job j was begun: it has the number that was next, was closed before, now runs, has a place, and has no part in any cell; every other job and every cell is as before
pub record Begins (d e : Desk) (j : ℕ) : Type 0 where
  pub number : j ≡ d.next
  pub next : e.next ≡ suc d.next
  pub new : d.stat j ≡ closed
  pub status : e.stat j ≡ running
  pub away : Away e j
  pub place : member j e.jobs ≡ true
  pub statuses : (i : ℕ) → i ≢ j → e.stat i ≡ d.stat i
  pub places : (i : ℕ) → i ≢ j → i ≢ 0 → member i e.jobs ≡ member i d.jobs
  pub rows : e.row ≡ d.row

-- from desk d to desk e job j was retried: it was sent back and runs again with no part in any cell; its number and its place, every other job and every cell are as before
pub record Retries (d e : Desk) (j : ℕ) : Type 0 where
  pub was : d.stat j ≡ sentback
  pub status : e.stat j ≡ running
  pub away : Away e j
  pub statuses : (i : ℕ) → i ≢ j → e.stat i ≡ d.stat i
  pub places : e.jobs ≡ d.jobs
  pub next : e.next ≡ d.next
  pub rows : e.row ≡ d.row

-- from desk d to desk e job j was closed: it is closed and has no part in any cell, its place is free, and every other job keeps its place
pub record Closes (d e : Desk) (j : ℕ) : Type 0 where
  pub status : e.stat j ≡ closed
  pub away : Away e j
  pub gone : member j e.jobs ≡ false
  pub free : member 0 e.jobs ≡ true
  pub others : (i : ℕ) → i ≢ j → i ≢ 0 → member i e.jobs ≡ member i d.jobs
  pub next : e.next ≡ d.next

-- from desk d to desk e job j was sent back: it has that status, has no part in any cell, and keeps its number and its place among the 32
pub record SendsBack (d e : Desk) (j : ℕ) : Type 0 where
  pub status : e.stat j ≡ sentback
  pub away : Away e j
  pub place : member j e.jobs ≡ true
  pub places : e.jobs ≡ d.jobs
  pub next : e.next ≡ d.next

-- from desk d to desk e request r of job j went with ask a: the job holds a mode that covers its need; every other job holds what it held; every other cell, every queue and all else is as before
pub record Grants (d e : Desk) (r : Request) (a : Ask) (j : ℕ) : Type 0 where
  pub job : j ≡ r.job
  pub holds : covers ((e.row r.cell).held j) (needed a) ≡ true
  pub others : (c i : ℕ) → i ≢ j → (e.row c).held i ≡ (d.row c).held i
  pub elsewhere : (c : ℕ) → c ≢ r.cell → e.row c ≡ d.row c
  pub queues : (c : ℕ) → (e.row c).queue ≡ (d.row c).queue
  pub statuses : e.stat ≡ d.stat
  pub places : e.jobs ≡ d.jobs
  pub next : e.next ≡ d.next

-- the mode that a job holds after a go, given the mode before and its ask: by rule 1 the mode it held, by rule 2 what that becomes, by rule 3 what it needs: read S, write X, increment I, u U (01, rules 1 to 3; 02, No. 1)
pub record Exactly (before after : Mode) (a : Ask) : Type 0 where
  pub kept : covers before (needed a) ≡ true → after ≡ before
  pub promoted : covers before (needed a) ≡ false → is_free before ≡ false → Becomes before a after
  pub entered : is_free before ≡ true → after ≡ needed a

-- what job i holds at cell c in desk e covers what it held there in desk d
abbrev pub Keeps : Desk → Desk → ℕ → ℕ → Type 0
Keeps d e i c = covers ((e.row c).held i) ((d.row c).held i) ≡ true

-- queue q is queue p with waiter w added: in front if its job holds the cell, at the end if it does not
pub data Joined (holds_nothing : Bool) (w : Waiter) (p : List Waiter) : List Waiter → Type 0 where
  promotion : holds_nothing ≡ false → Joined holds_nothing w p (w ∷ p)
  newcomer : holds_nothing ≡ true → Joined holds_nothing w p (p ++ w ∷ [])

-- from desk d to desk e request r made its job j wait with ask a: its status says so, it is in the queue where the rules put it, every job holds what it held, and all else is as before
pub record StartsToWait (d e : Desk) (r : Request) (a : Ask) (j : ℕ) : Type 0 where
  pub job : j ≡ r.job
  pub asking : Asking d r a
  pub status : e.stat j ≡ waiting r.cell a
  pub queue : Joined (is_free ((d.row r.cell).held j)) (record { job = j; ask = a }) (d.row r.cell).queue (e.row r.cell).queue
  pub holds : (c i : ℕ) → (e.row c).held i ≡ (d.row c).held i
  pub elsewhere : (c : ℕ) → c ≢ r.cell → e.row c ≡ d.row c
  pub statuses : (i : ℕ) → i ≢ j → e.stat i ≡ d.stat i
  pub places : e.jobs ≡ d.jobs
  pub next : e.next ≡ d.next

-- this answer says that the step commits, gives up or sends back the request's job
pub data RunEnds (said : Answer) (r : Request) : Type 0 where
  by_commit : letter_of r.kind ≡ Some Commit → said ≡ Go r.job → RunEnds said r
  by_give_up : letter_of r.kind ≡ Some GiveUp → said ≡ Go r.job → RunEnds said r
  by_back : said ≡ Back r.job → RunEnds said r

-- from desk d to desk e, for wake a: its job waited for exactly that, and what the job is and holds now
pub record WakeTells (d e : Desk) (a : Action) : Type 0 where
  pub ask : Ask
  pub kind : a.kind ≡ recorded ask
  pub within : a.cell < cells
  pub waited : d.stat a.job ≡ waiting a.cell ask
  pub stood : In (record { job = a.job; ask = ask }) (d.row a.cell).queue
  pub runs : e.stat a.job ≡ running
  pub holds : covers ((e.row a.cell).held a.job) (needed ask) ≡ true
  pub gone : (c : ℕ) (w : Waiter) → In w (e.row c).queue → w.job ≢ a.job

-- the mode that a job is woken with after it waited with a: what its mode becomes if it held the cell, else what it needs (01, rules 2 to 4; 02, No. 1)
pub record WokenWith (before after : Mode) (a : Ask) : Type 0 where
  pub promoted : is_free before ≡ false → Becomes before a after
  pub entered : is_free before ≡ true → after ≡ needed a
