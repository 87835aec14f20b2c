-- What the refusal tables of all desks share: the kinds of a request, the rows 1, 2, 6 and 7, and what an answer names (01, Refusals by number).
use Rattle.std.specs.Prelude.{ℕ, Bool, true, false, not, ◌&&◌, List, ltb, leb, Option, None, Some}
use Rattle.laws.specs.Choice.{pick}
use Rattle.laws.specs.Lists.{member}
use Rattle.terms.specs.declared.letters.Letter.{Letter}
use Rattle.terms.specs.declared.letters.Letter.TheVariants.{Begin, Commit, GiveUp, Retry, Back, Asks}
use Rattle.terms.specs.Letters.{of_requests, has_cell}
use Rattle.terms.specs.Limits.{cells, last_number}
use Rattle.desks.specs.declared.Answer.{Answer}
use Rattle.desks.specs.declared.Answer.TheVariants.{Go, Wait, Back as sent_back}

-- the request is a begin
abbrev pub is_begin : Letter → Bool
is_begin Begin = true
is_begin Commit = false
is_begin GiveUp = false
is_begin Retry = false
is_begin Back = false
is_begin (Asks a) = false

-- the request is a give-up
abbrev pub is_give_up : Letter → Bool
is_give_up Begin = false
is_give_up Commit = false
is_give_up GiveUp = true
is_give_up Retry = false
is_give_up Back = false
is_give_up (Asks a) = false

-- the request is a retry
abbrev pub is_retry : Letter → Bool
is_retry Begin = false
is_retry Commit = false
is_retry GiveUp = false
is_retry Retry = true
is_retry Back = false
is_retry (Asks a) = false

-- the request is read, write, increment, u or commit
abbrev pub asks_or_commits : Letter → Bool
asks_or_commits Begin = false
asks_or_commits Commit = true
asks_or_commits GiveUp = false
asks_or_commits Retry = false
asks_or_commits Back = false
asks_or_commits (Asks a) = true

-- the four kinds that ask for no cell: begin, commit, give-up and retry; k is not a request
abbrev pub asks_no_cell : Letter → Bool
asks_no_cell Begin = true
asks_no_cell Commit = true
asks_no_cell GiveUp = true
asks_no_cell Retry = true
asks_no_cell Back = false
asks_no_cell (Asks a) = false

-- the kind is the byte of a letter, and the letter passes this test
abbrev pub letter_is : (Letter → Bool) → Option Letter → Bool
letter_is f None = false
letter_is f (Some l) = f l

-- 1: request kind other than the eight (02, No. 1)
abbrev pub other_kind : Option Letter → Bool
other_kind l = not (letter_is of_requests l)

-- 2: cell above 63; r, w, i and u have a cell
abbrev pub cell_above : Option Letter → ℕ → Bool
cell_above l c = letter_is has_cell l && leb cells c

-- 6: begin with 32 open jobs, that is with no place free
abbrev pub all_open : Option Letter → List ℕ → Bool
all_open l places = letter_is is_begin l && not (member 0 places)

-- 7: begin after 4,294,967,295 was given, that is with a next number above it
abbrev pub no_number_left : Option Letter → ℕ → Bool
no_number_left l next = letter_is is_begin l && ltb last_number next

-- the answer is go, wait or back, with this job
pub data Answers : Answer → ℕ → Type 0 where
  goes : (j : ℕ) → Answers (Go j) j
  waits : (j : ℕ) → Answers (Wait j) j
  goes_back : (j : ℕ) → Answers (sent_back j) j

-- the job that an answer names: the request's, and for begin the new one, under the next number (01, Lines)
abbrev pub named_by : ℕ → ℕ → Option Letter → ℕ
named_by next j l = pick (letter_is is_begin l) next j
