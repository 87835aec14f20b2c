-- The limits of the paper, as the definitions have them.
use Rattle.std.specs.Prelude.{ℕ}
use Rattle.terms.specs.declared.limits.Limits.{Limits}

-- cells are 0 to 63 (01, What is delivered)
abbrev pub cells : ℕ
cells = 64

-- at most 32 open jobs (01, What is delivered)
abbrev pub places : ℕ
places = 32

-- the largest number that a job can have (01, Jobs and their numbers)
abbrev pub last_number : ℕ
last_number = 4_294_967_295

-- jobs of a history are 1 to 255, and the order buffer has a place for each (01, refusals 12 and 14)
abbrev pub judged_jobs : ℕ
judged_jobs = 255

-- the most lines that a history may have (01, refusal 11)
abbrev pub judged_lines : ℕ
judged_lines = 4_096

-- the most bytes that a history text may have (01, refusal 16)
abbrev pub judged_bytes : ℕ
judged_bytes = 65_536

-- the most lines that the desk programs read (01, Lines)
abbrev pub request_lines : ℕ
request_lines = 1_000_000

-- all limits in one record, as the code has them
abbrev pub limits_of : Limits
limits_of = record { cells = cells; places = places; last = last_number; jobs = judged_jobs; lines = judged_lines; bytes = judged_bytes; requests = request_lines }
