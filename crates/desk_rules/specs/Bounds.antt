-- The numbers that bound what a started desk can reach: each is the least that holds, and desks on which it is reached (01, What is delivered; 01, Jobs and their numbers; 01, rule 4; demand 3; 02, No. 3).
use Rattle.std.specs.Prelude.{ℕ, zero, suc, ◌≤◌, ◌≡◌, true, List, [], ◌∷◌, ◌++◌, length, Some}
use Rattle.terms.specs.declared.letters.Ask.{Ask}
use Rattle.terms.specs.declared.letters.Ask.TheVariants.{Read}
use Rattle.terms.specs.declared.letters.Letter.TheVariants.{Asks}
use Rattle.terms.specs.Letters.{letter_of}
use Rattle.conflict.specs.declared.action.Kind.TheVariants.{Read as a_read}
use Rattle.conflict.specs.declared.action.Action.{Action}
use Rattle.conflict.specs.declared.action.Event.TheVariants.{Does}
use Rattle.conflict.specs.History.{History}
use Rattle.laws.specs.Standing.{In}
use Rattle.desks.specs.declared.Answer.TheVariants.{Wait}
use Rattle.desks.specs.Request.{Request}
use Rattle.desks.specs.Places.{open_among}
use Rattle.desks.specs.Told.{request, begins}
use Rattle.desk_rules.specs.Desk.{Waiter, Desk, fresh_desk, is_open, is_live}
use Rattle.desk_rules.specs.Step.{step, events, Started}
use Rattle.desk_rules.specs.Requests.{desk_after}
use Rattle.desk_rules.specs.Asked.{asker}
use Rattle.desk_rules.specs.Waiting.{IsWaiting, AtMostInWay}
use Rattle.desk_rules.specs.GetsItsCell.{AtMostWereInWay}
use Rattle.laws.specs.Lists.{distinct}
use Rattle.desk_rules.specs.Chain.{in_way_of, chain_of}

-- the bound holds with this number and with no smaller one: a promise with a larger number would be weaker than it need be, and one with a smaller would be false
abbrev pub Least : (ℕ → Type 0) → ℕ → Type 0
Least Bound n = Bound n × ((m : ℕ) → Bound m → n ≤ m)

-- a statement holds for every started desk of the paper
abbrev pub OfStarted : (Desk → Type 0) → Type 0
OfStarted P = (d : Desk) (h : History) → Started d h → P d

-- at most n jobs are open (01, What is delivered)
abbrev pub OpenAtMost : ℕ → Type 0
OpenAtMost n = OfStarted (λ d. length (open_among (λ j. is_open (d.stat j)) d.jobs) ≤ n)

-- an open job's number is at most n (01, Jobs and their numbers)
abbrev pub NumberAtMost : ℕ → Type 0
NumberAtMost n = OfStarted (λ d. (j : ℕ) → is_open (d.stat j) ≡ true → j ≤ n)

-- the next number is at most n: 4,294,967,295 can be given, and then no other (01, Jobs and their numbers)
abbrev pub NextAtMost : ℕ → Type 0
NextAtMost n = OfStarted (λ d. d.next ≤ n)

-- the cell of an action in the history is at most n (01, What is delivered)
abbrev pub CellAtMost : ℕ → Type 0
CellAtMost n = (d : Desk) (h : History) → Started d h → (x : Action) → In (Does x) h → x.cell ≤ n

-- at most n jobs are in a waiter's way (demand 3)
abbrev pub InWayAtMost : ℕ → Type 0
InWayAtMost n = OfStarted (λ d. (c : ℕ) (w : Waiter) → IsWaiting d c w → AtMostInWay n (d.row c) w)

-- at most n jobs are in a job's way right after it asked and was answered wait (demand 3)
abbrev pub JustAskedAtMost : ℕ → Type 0
JustAskedAtMost n = OfStarted (λ d. (r : Request) (a : Ask) → letter_of r.kind ≡ Some (Asks a) → (step d r).said ≡ Wait r.job → AtMostInWay n ((step d r).desk.row r.cell) (asker r a))

-- when a job asked and was answered wait, at most n jobs held the cell or stood ahead (demand 3)
abbrev pub WereInWayAtMost : ℕ → Type 0
WereInWayAtMost n = OfStarted (λ d. (r : Request) (j : ℕ) → (step d r).said ≡ Wait j → AtMostWereInWay n d r)

-- the chain of a live job has at most n jobs (02, No. 3)
abbrev pub ChainAtMost : ℕ → Type 0
ChainAtMost n = OfStarted (λ d. (j : ℕ) → is_live (d.stat j) ≡ true → length (chain_of d j) ≤ n)

-- at most n jobs are woken in a step (01, rule 4)
abbrev pub WakesAtMost : ℕ → Type 0
WakesAtMost n = OfStarted (λ d. (r : Request) → length (step d r).wakes ≤ n)

-- a step writes at most n history records (01, Lines)
abbrev pub RecordsAtMost : ℕ → Type 0
RecordsAtMost n = OfStarted (λ d. (r : Request) → length (events d r) ≤ n)

-- this many jobs, with numbers from one above the count down to 2, ask to read cell 5
abbrev pub read_in_turn : ℕ → List Request
read_in_turn zero = []
read_in_turn (suc n) = request 114 (suc (suc n)) 5 ∷ read_in_turn n

-- this many jobs, down to 1, each write the cell of their own number
abbrev pub write_own : ℕ → List Request
write_own zero = []
write_own (suc n) = request 119 (suc n) (suc n) ∷ write_own n

-- this many jobs, down to 1, each ask to write the cell of the number after their own
abbrev pub write_next : ℕ → List Request
write_next zero = []
write_next (suc n) = request 119 (suc n) (suc (suc n)) ∷ write_next n

-- a queue: of 32 jobs, job 32 writes cell 5, and 31 down to 2 wait to read it
abbrev pub to_the_queue : List Request
to_the_queue = begins 32 ++ request 119 32 5 ∷ read_in_turn 30

-- a line: of 32 jobs, each but the last waits for the cell that the next has written
abbrev pub to_the_line : List Request
to_the_line = begins 32 ++ write_own 32 ++ write_next 31

-- the desk with the queue, started at 1
unfoldable pub queue_desk : Desk
queue_desk = desk_after (fresh_desk 1) to_the_queue

-- the desk with the line, started at 1
unfoldable pub line_desk : Desk
line_desk = desk_after (fresh_desk 1) to_the_line

-- job 1 asks to read cell 5 too
abbrev pub one_more : Request
one_more = request 114 1 5

-- then job 32 commits
abbrev pub last_commits : Request
last_commits = request 99 32 0

-- the waiter that job 1 then is
abbrev pub last : Waiter
last = record { job = 1; ask = Read }

-- the first desk with job 1 among the waiters
abbrev pub full : Desk
full = (step queue_desk one_more).desk

-- a begin
abbrev pub a_begin : Request
a_begin = request 98 0 0

-- what is computed of these desks
pub record Met : Type 0 where
  -- job 1 is answered wait, and waits with 31 different jobs in its way
  pub said : (step queue_desk one_more).said ≡ Wait 1
  pub waits : IsWaiting full 5 last
  pub ways : length (in_way_of full 1 5) ≡ 31
  pub once : distinct (in_way_of full 1 5) ≡ true
  -- when 32 commits, 31 are woken and 32 records written
  pub woken : length (step full last_commits).wakes ≡ 31
  pub written : length (events full last_commits) ≡ 32
  -- in the line 32 are open, 1 is live, and its chain has 32
  pub opened : length (open_among (λ j. is_open (line_desk.stat j)) line_desk.jobs) ≡ 32
  pub live : is_live (line_desk.stat 1) ≡ true
  pub chain : length (chain_of line_desk 1) ≡ 32
  -- the last number can be given, and the next is then one more
  pub given : is_open ((step (fresh_desk 4_294_967_295) a_begin).desk.stat 4_294_967_295) ≡ true
  pub next : (step (fresh_desk 4_294_967_295) a_begin).desk.next ≡ 4_294_967_296
  -- and the last cell can be read
  pub cell : events (step (fresh_desk 1) a_begin).desk (request 114 1 63) ≡ Does (record { kind = a_read; job = 1; cell = 63 }) ∷ []
