-- The letters of request and history lines, with their bytes and fields (01, Lines).
use Rattle.std.specs.Prelude.{ℕ, Bool, true, false, eqb, Option, None, Some}
use Rattle.laws.specs.Choice.{pick}
use Rattle.terms.specs.declared.letters.Ask.{Ask}
use Rattle.terms.specs.declared.letters.Ask.TheVariants.{Read, Write, Increment, Update}
use Rattle.terms.specs.declared.letters.Letter.{Letter}
use Rattle.terms.specs.declared.letters.Letter.TheVariants.{Begin, Commit, GiveUp, Retry, Back, Asks}

-- the bytes of r, w, i and u (01, Lines; 02, No. 1)
abbrev pub ask_byte : Ask → ℕ
ask_byte Read = 114
ask_byte Write = 119
ask_byte Increment = 105
ask_byte Update = 117

-- the bytes of b, c, a, t and k, and of the letters that ask for a cell
abbrev pub byte_of : Letter → ℕ
byte_of Begin = 98
byte_of Commit = 99
byte_of GiveUp = 97
byte_of Retry = 116
byte_of Back = 107
byte_of (Asks a) = ask_byte a

-- this letter if the byte is its byte, else what the rest of the alphabet says
abbrev pub or_else : Letter → ℕ → Option Letter → Option Letter
or_else l b rest = pick (eqb b (byte_of l)) (Some l) rest

-- the letter with this byte, looked up in the one table of bytes
abbrev pub letter_of : ℕ → Option Letter
letter_of b =
    or_else Begin b
    (or_else Commit b
    (or_else GiveUp b
    (or_else Retry b
    (or_else Back b
    (or_else (Asks Read) b
    (or_else (Asks Write) b
    (or_else (Asks Increment) b
    (or_else (Asks Update) b None))))))))

-- the letters of requests: all but k (01, Lines; 02, No. 1)
abbrev pub of_requests : Letter → Bool
of_requests Begin = true
of_requests Commit = true
of_requests GiveUp = true
of_requests Retry = true
of_requests Back = false
of_requests (Asks a) = true

-- the letters of histories: r, w, i, c, a and k; a history has r for u (01, Lines; 02, No. 1)
abbrev pub of_histories : Letter → Bool
of_histories Begin = false
of_histories Commit = true
of_histories GiveUp = true
of_histories Retry = false
of_histories Back = true
of_histories (Asks Read) = true
of_histories (Asks Write) = true
of_histories (Asks Increment) = true
of_histories (Asks Update) = false

-- b stands alone, and every other letter has a job (01, Lines)
abbrev pub has_job : Letter → Bool
has_job Begin = false
has_job Commit = true
has_job GiveUp = true
has_job Retry = true
has_job Back = true
has_job (Asks a) = true

-- r, w, i and u have a cell too (01, Lines; 02, No. 1)
abbrev pub has_cell : Letter → Bool
has_cell Begin = false
has_cell Commit = false
has_cell GiveUp = false
has_cell Retry = false
has_cell Back = false
has_cell (Asks a) = true
