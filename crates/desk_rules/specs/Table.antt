-- The refusals of the desk as the paper's table prints them: each row by itself, then the order in which the rows are tested. The step is not mentioned here (01, Refusals by number).
use Rattle.std.specs.Prelude.{ℕ, ◌≡◌, Bool, true, false, not, ◌&&◌, List, [], ◌∷◌, Option, None, Some}
use Rattle.laws.specs.Choice.{pick}
use Rattle.terms.specs.declared.letters.Letter.{Letter}
use Rattle.terms.specs.declared.refusals.Refusal.{Refusal}
use Rattle.terms.specs.declared.refusals.Refusal.TheVariants.{UnknownKind, CellAbove, NotOpen, Waiting, SentBack, AllOpen, NoNumberLeft, Running, BadLine, StartedAtZero, TooManyLines, JobOutside, Ended, ShortOrder, NoRoom, TooLong, ShortList, NoRetry}
use Rattle.terms.specs.Letters.{letter_of}
use Rattle.laws.specs.Lists.{first_of}
use Rattle.desks.specs.Request.{Request}
use Rattle.desk_rules.specs.Desk.{Status, closed, running, waiting, sentback, is_open, Desk}
use Rattle.desks.specs.Table.{is_begin, other_kind, is_retry, cell_above, is_give_up, all_open, letter_is, named_by, no_number_left, asks_or_commits}

-- the job is running
abbrev pub is_running : Status → Bool
is_running closed = false
is_running running = true
is_running (waiting c a) = false
is_running sentback = false

-- the job is waiting
abbrev pub is_waiting : Status → Bool
is_waiting closed = false
is_waiting running = false
is_waiting (waiting c a) = true
is_waiting sentback = false

-- the job was sent back
abbrev pub is_sent_back : Status → Bool
is_sent_back closed = false
is_sent_back running = false
is_sent_back (waiting c a) = false
is_sent_back sentback = true

-- 3: job is not open
abbrev pub not_open : Status → Bool
not_open s = not (is_open s)

-- 4: job is waiting, request is not give-up
abbrev pub still_waiting : Option Letter → Status → Bool
still_waiting l s = is_waiting s && not (letter_is is_give_up l)

-- 5: job was sent back, request is read, write, increment, u or commit
abbrev pub was_sent_back : Option Letter → Status → Bool
was_sent_back l s = is_sent_back s && letter_is asks_or_commits l

-- 8: retry of a running job
abbrev pub retries_running : Option Letter → Status → Bool
retries_running l s = letter_is is_retry l && is_running s

-- the table: when the row of each refusal holds. Rows from 9 on do not belong to this desk, or not to a step
unfoldable pub holds : Option Letter → Status → ℕ → Desk → Refusal → Bool
holds l s c d UnknownKind = other_kind l
holds l s c d CellAbove = cell_above l c
holds l s c d NotOpen = not_open s
holds l s c d Waiting = still_waiting l s
holds l s c d SentBack = was_sent_back l s
holds l s c d AllOpen = all_open l d.jobs
holds l s c d NoNumberLeft = no_number_left l d.next
holds l s c d Running = retries_running l s
holds l s c d (BadLine field) = false
holds l s c d StartedAtZero = false
holds l s c d TooManyLines = false
holds l s c d JobOutside = false
holds l s c d Ended = false
holds l s c d ShortOrder = false
holds l s c d NoRoom = false
holds l s c d TooLong = false
holds l s c d ShortList = false
holds l s c d NoRetry = false

-- the order of the tests: 1 first; begin tests 7, then 6; other kinds test 3, 4, 5, 8, then 2
unfoldable pub order : Option Letter → List Refusal
order l = UnknownKind ∷ pick (letter_is is_begin l) (NoNumberLeft ∷ AllOpen ∷ []) (NotOpen ∷ Waiting ∷ SentBack ∷ Running ∷ CellAbove ∷ [])

-- what the table says of a request, given its letter, what its job is doing and its cell
unfoldable pub due_by : Desk → Option Letter → Status → ℕ → Option Refusal
due_by d l s c = first_of (holds l s c d) (order l)

-- what the table says of a request to a desk
unfoldable pub due_of : Desk → Request → Option Refusal
due_of d r = due_by d (letter_of r.kind) (d.stat r.job) r.cell

-- the refusal is due: it is the first whose row holds
abbrev pub Due : Desk → Request → Refusal → Type 0
Due d r why = due_of d r ≡ Some why

-- no refusal is due
abbrev pub NothingDue : Desk → Request → Type 0
NothingDue d r = due_of d r ≡ None

-- the job that the answer to a request names
unfoldable pub named : Desk → Request → ℕ
named d r = named_by d.next r.job (letter_of r.kind)
