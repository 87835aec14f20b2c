-- One step of the timestamp desk over its arrays: the decided move, carried out. The contracts cite it (02, No. 6).
use Rattle.std.specs.Prelude.{ℕ, ◌+◌, Bool, List, [], Option, Some, None, Result, Ok, Err, eqb, ltb, get_or, set, replicate}
use Rattle.laws.specs.Choice.{pick}
use Rattle.laws.specs.Larger.{larger}
use Rattle.laws.specs.Lists.{pos}
use Rattle.terms.specs.declared.letters.Letter.{Letter}
use Rattle.terms.specs.declared.letters.Ask.{Ask}
use Rattle.terms.specs.declared.letters.Ask.TheVariants.{Read, Write, Increment, Update}
use Rattle.terms.specs.declared.letters.Letter.TheVariants.{Begin as begins, Commit, GiveUp, Retry, Back as no-request, Asks}
use Rattle.terms.specs.declared.refusals.Refusal.{Refusal}
use Rattle.terms.specs.declared.refusals.Refusal.TheVariants.{UnknownKind, CellAbove, NotOpen, StartedAtZero, NoRetry}
use Rattle.terms.specs.Letters.{letter_of}
use Rattle.terms.specs.Limits.{places, cells}
use Rattle.desks.specs.declared.Answer.{Answer}
use Rattle.desks.specs.declared.Answer.TheVariants.{Go, Back, No}
use Rattle.desks.specs.declared.finding.Opening.{Opening}
use Rattle.desks.specs.Opening.{opening_of}
use Rattle.stamp_rules.specs.Rules.{late}
use Rattle.stamp_arrays.specs.declared.state.Stamps.{Stamps}
use Rattle.stamp_arrays.specs.declared.state.Stamped.{Stamped}
use Rattle.stamp_arrays.specs.declared.moves.Move.{Move}
use Rattle.stamp_arrays.specs.declared.moves.Move.TheVariants.{Begin, Close, SendBack, Act}

-- the desk with these fields
abbrev pub stamps_of : ℕ → List ℕ → List ℕ → List ℕ → Stamps
stamps_of next number reader writer = record { next = next; number = number; reader = reader; writer = writer }

-- the desk with every place free, every cell's numbers 0, and this next number
unfoldable pub empty_stamps : ℕ → Stamps
empty_stamps n = stamps_of n (replicate places 0) (replicate cells 0) (replicate cells 0)

-- a start at a first number: refusal 10 for 0, with no desk (01, refusal 10)
unfoldable pub start_of : ℕ → Result Stamps Refusal
start_of n = pick (eqb n 0) (Err StartedAtZero) (Ok (empty_stamps n))

-- whether a job is late at a cell with these two numbers (02, No. 6)
unfoldable pub late_with : ℕ → ℕ → ℕ → Ask → Bool
late_with reader writer job a = late (record { next = 0; jobs = []; reader = λ c. reader; writer = λ c. writer }) job 0 a

-- begin, given where the new job is opened
unfoldable pub opened : Result Opening Refusal → Result Move Refusal
opened (Ok o) = Ok (Begin o.place o.number)
opened (Err why) = Err why

-- begin: refusal 7, then 6, else the next number at the first free place (01, Refusals by number)
unfoldable pub begin_move : ℕ → List ℕ → Result Move Refusal
begin_move next number = opened (opening_of next number)

-- where a job stands; `None`, for 0 and for a number at no place
unfoldable pub found_at : List ℕ → ℕ → Option ℕ
found_at number job = pick (eqb job 0) None (pick (ltb (pos number job) places) (Some (pos number job)) None)

-- commit and give-up: refusal 3, else the job is closed
unfoldable pub close_move : Option ℕ → Result Move Refusal
close_move (Some p) = Ok (Close p)
close_move None = Err NotOpen

-- retry: refusal 3, else 19 (02, No. 6)
unfoldable pub retry_move : Option ℕ → Result Move Refusal
retry_move (Some p) = Err NoRetry
retry_move None = Err NotOpen

-- read, write, increment and u of an open job: refusal 2, then sent back if late, else the job acts (02, No. 6)
unfoldable pub act_move : List ℕ → List ℕ → ℕ → ℕ → ℕ → Ask → Result Move Refusal
act_move reader writer p job c a =
    pick (ltb c cells) (pick (late_with (get_or reader c 0) (get_or writer c 0) job a) (Ok (SendBack p)) (Ok (Act a))) (Err CellAbove)

-- read, write, increment and u: refusal 3, then what an open job gets
unfoldable pub ask_move : List ℕ → List ℕ → Option ℕ → ℕ → ℕ → Ask → Result Move Refusal
ask_move reader writer (Some p) job c a = act_move reader writer p job c a
ask_move reader writer None job c a = Err NotOpen

-- the move of a request, by its letter; refusal 1 if no request has the letter
unfoldable pub move_for : ℕ → List ℕ → List ℕ → List ℕ → ℕ → ℕ → Option Letter → Result Move Refusal
move_for next number reader writer job c None = Err UnknownKind
move_for next number reader writer job c (Some no-request) = Err UnknownKind
move_for next number reader writer job c (Some begins) = begin_move next number
move_for next number reader writer job c (Some Commit) = close_move (found_at number job)
move_for next number reader writer job c (Some GiveUp) = close_move (found_at number job)
move_for next number reader writer job c (Some Retry) = retry_move (found_at number job)
move_for next number reader writer job c (Some (Asks a)) = ask_move reader writer (found_at number job) job c a

-- the reader numbers after a job has acted on a cell: r, i and u read it (02, No. 6)
unfoldable pub readers_after : List ℕ → ℕ → ℕ → Ask → List ℕ
readers_after reader c job Read = set reader c (larger (get_or reader c 0) job)
readers_after reader c job Write = reader
readers_after reader c job Increment = set reader c (larger (get_or reader c 0) job)
readers_after reader c job Update = set reader c (larger (get_or reader c 0) job)

-- the writer numbers after that: w and i write the cell (02, No. 6)
unfoldable pub writers_after : List ℕ → ℕ → ℕ → Ask → List ℕ
writers_after writer c job Read = writer
writers_after writer c job Write = set writer c job
writers_after writer c job Increment = set writer c job
writers_after writer c job Update = writer

-- a move carried out; a refusal leaves the desk unchanged
unfoldable pub carried : Stamps → ℕ → ℕ → Result Move Refusal → Stamps
carried d job c (Err why) = d
carried d job c (Ok (Begin p n)) = stamps_of (n + 1) (set d.number p n) d.reader d.writer
carried d job c (Ok (Close p)) = stamps_of d.next (set d.number p 0) d.reader d.writer
carried d job c (Ok (SendBack p)) = stamps_of d.next (set d.number p 0) d.reader d.writer
carried d job c (Ok (Act a)) = stamps_of d.next d.number (readers_after d.reader c job a) (writers_after d.writer c job a)

-- the answer that goes with a move; begin tells the new number
unfoldable pub answer_to : Result Move Refusal → ℕ → Answer
answer_to (Err why) job = No why
answer_to (Ok (Begin p n)) job = Go n
answer_to (Ok (Close p)) job = Go job
answer_to (Ok (SendBack p)) job = Back job
answer_to (Ok (Act a)) job = Go job

-- the move of a request by numbers
unfoldable pub move_of : Stamps → ℕ → ℕ → ℕ → Result Move Refusal
move_of d kind job c = move_for d.next d.number d.reader d.writer job c (letter_of kind)

-- one step by numbers
unfoldable pub step_of : Stamps → ℕ → ℕ → ℕ → Stamped
step_of d kind job c =
    let m = move_of d kind job c in
    record { stamps = carried d job c m; answer = answer_to m job }
