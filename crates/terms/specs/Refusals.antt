-- The one table of refusals and their numbers, and the field that a bad line's refusal names (01, Refusals by number; 02, No. 5).
use Rattle.std.specs.Prelude.{ℕ}
use Rattle.terms.specs.declared.refusals.Field.{Field}
use Rattle.terms.specs.declared.refusals.Field.TheVariants.{First, Second, Third, Fourth}
use Rattle.terms.specs.declared.refusals.Refusal.{Refusal}
use Rattle.terms.specs.declared.refusals.Refusal.TheVariants.{UnknownKind, CellAbove, NotOpen, Waiting, SentBack, AllOpen, NoNumberLeft, Running, BadLine, StartedAtZero, TooManyLines, JobOutside, Ended, ShortOrder, NoRoom, TooLong, ShortList, NoRetry}

-- the paper's number of each refusal, with the paper's words beside it
abbrev pub number_of : Refusal → ℕ
-- request kind other than the eight (02, No. 1)
number_of UnknownKind = 1
-- cell above 63
number_of CellAbove = 2
-- job is not open (0 never is)
number_of NotOpen = 3
-- job is waiting, request is not give-up
number_of Waiting = 4
-- job was sent back, request is read, write, increment, u or commit
number_of SentBack = 5
-- begin with 32 open jobs
number_of AllOpen = 6
-- begin after 4,294,967,295 was given
number_of NoNumberLeft = 7
-- retry of a running job
number_of Running = 8
-- bad line
number_of (BadLine field) = 9
-- desk started at number 0
number_of StartedAtZero = 10
-- history has a line 4,097
number_of TooManyLines = 11
-- job outside 1 to 255
number_of JobOutside = 12
-- line for a job that has committed or given up
number_of Ended = 13
-- order buffer shorter than 255 places
number_of ShortOrder = 14
-- record does not fit from the place given, or the place is past the end
number_of NoRoom = 15
-- history text longer than 65,536 bytes
number_of TooLong = 16
-- fewer than 32 places lent for the list of a chain (02, No. 3)
number_of ShortList = 18
-- retry of an open job on the timestamp desk (02, No. 6)
number_of NoRetry = 19

-- the field at fault: 1 letter, 2 job, 3 cell, 4 anything after the last field that the letter has (02, No. 5)
abbrev pub field_number : Field → ℕ
field_number First = 1
field_number Second = 2
field_number Third = 3
field_number Fourth = 4

-- the field at fault of a bad line; 0 for any other refusal (02, No. 5)
abbrev pub field_of : Refusal → ℕ
field_of UnknownKind = 0
field_of CellAbove = 0
field_of NotOpen = 0
field_of Waiting = 0
field_of SentBack = 0
field_of AllOpen = 0
field_of NoNumberLeft = 0
field_of Running = 0
field_of (BadLine field) = field_number field
field_of StartedAtZero = 0
field_of TooManyLines = 0
field_of JobOutside = 0
field_of Ended = 0
field_of ShortOrder = 0
field_of NoRoom = 0
field_of TooLong = 0
field_of ShortList = 0
field_of NoRetry = 0
