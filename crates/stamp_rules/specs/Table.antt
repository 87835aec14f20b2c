-- The refusals of the timestamp desk row by row, then the order in which the rows are tested. The step is not mentioned here (02, No. 6; 01, Refusals by number).
use Rattle.std.specs.Prelude.{ℕ, ◌≡◌, Bool, false, not, List, [], ◌∷◌, Option, None, Some}
use Rattle.laws.specs.Choice.{pick}
use Rattle.laws.specs.Lists.{first_of}
use Rattle.terms.specs.declared.letters.Letter.{Letter}
use Rattle.terms.specs.declared.refusals.Refusal.{Refusal}
use Rattle.terms.specs.declared.refusals.Refusal.TheVariants.{UnknownKind, CellAbove, NotOpen, Waiting, SentBack, AllOpen, NoNumberLeft, Running, BadLine, StartedAtZero, TooManyLines, JobOutside, Ended, ShortOrder, NoRoom, TooLong, ShortList, NoRetry}
use Rattle.terms.specs.Letters.{letter_of}
use Rattle.desks.specs.Request.{Request}
use Rattle.desks.specs.Table.{is_begin, is_retry, letter_is, other_kind, cell_above, all_open, no_number_left, named_by}
use Rattle.stamp_rules.specs.Desk.{Desk, is_open}

-- the table: when the row of each refusal holds, by the letter, whether the job is open, the cell and the desk. 4, 5 and 8 never occur here; 19 is retry (02, No. 6). The rows from 9 to 18 do not belong to a step
unfoldable pub holds : Option Letter → Bool → ℕ → Desk → Refusal → Bool
holds l open' c d UnknownKind = other_kind l
holds l open' c d CellAbove = cell_above l c
holds l open' c d NotOpen = not open'
holds l open' c d Waiting = false
holds l open' c d SentBack = false
holds l open' c d AllOpen = all_open l d.jobs
holds l open' c d NoNumberLeft = no_number_left l d.next
holds l open' c d Running = false
holds l open' c d (BadLine field) = false
holds l open' c d StartedAtZero = false
holds l open' c d TooManyLines = false
holds l open' c d JobOutside = false
holds l open' c d Ended = false
holds l open' c d ShortOrder = false
holds l open' c d NoRoom = false
holds l open' c d TooLong = false
holds l open' c d ShortList = false
holds l open' c d NoRetry = letter_is is_retry l

-- the order of the tests: 1 first; begin tests 7, then 6; all other kinds test 3 first, then 19 for retry, then 2 (02, No. 6)
unfoldable pub order : Option Letter → List Refusal
order l = UnknownKind ∷ pick (letter_is is_begin l) (NoNumberLeft ∷ AllOpen ∷ []) (NotOpen ∷ NoRetry ∷ CellAbove ∷ [])

-- what the table says of a request, given its letter, whether its job is open, and its cell
unfoldable pub due_by : Desk → Option Letter → Bool → ℕ → Option Refusal
due_by d l open' c = first_of (holds l open' c d) (order l)

-- what the table says of a request to a desk
unfoldable pub due_of : Desk → Request → Option Refusal
due_of d r = due_by d (letter_of r.kind) (is_open d r.job) r.cell

-- the refusal is due: it is the first whose row holds
abbrev pub Due : Desk → Request → Refusal → Type 0
Due d r why = due_of d r ≡ Some why

-- no refusal is due
abbrev pub NothingDue : Desk → Request → Type 0
NothingDue d r = due_of d r ≡ None

-- the job that the answer to a request names
unfoldable pub named : Desk → Request → ℕ
named d r = named_by d.next r.job (letter_of r.kind)
