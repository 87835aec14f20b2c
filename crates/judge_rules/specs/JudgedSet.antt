-- The judge on texts of bytes: every refusal of a line and of the buffer, 9 with each field at fault, every two neighbours of 9, 12, 2, 13 on one line, lines just within the limits, and what is then judged (01, Refusals by number; 01, Lines; 02, No. 2 and No. 5).
-- One list, with the answer in numbers, the line handed back and the buffer; `all_told` (proofs/Examples.antt) proves each. Refusal 11 is given at line 4,097 of any text: `too_many_exactly` (proofs/AsWorded.antt).
use Rattle.std.specs.Prelude.{ℕ, ◌-◌, List, [], ◌∷◌, ◌++◌, length, replicate}
use Prim.Native.String.{String}
use Rattle.text_rules.specs.Quoted.{bytes}
use Rattle.judge_rules.specs.Judgement.{judgement_of, in_numbers}

-- what is told for a text: the answer in four numbers (0 orderly and 1 knot with the length; 2 a refusal with its number, its line number and, for 9, the field at fault; 3 dirty with reader and writer), the line handed back, and the buffer
pub record Telling : Type 0 where
  pub answer : List ℕ
  pub line : List ℕ
  pub order : List ℕ

-- a text and the size of the order buffer, with a 9 in each place; then the answer, the line handed back and the jobs in the first places
pub record Case : Type 0 where
  pub text : String
  pub places : ℕ
  pub answer : List ℕ
  pub line : String
  pub jobs : List ℕ

-- a text with a faulty line that is not a bad line, with room for every job: the refusal's number, the line number and the line
abbrev pub faulty : String → ℕ → ℕ → String → Case
faulty text number n line = record { text = text; places = 255; answer = 2 ∷ number ∷ n ∷ 0 ∷ []; line = line; jobs = [] }

-- a text with a bad line: the line number, the field at fault (1 letter, 2 job, 3 cell, 4 what follows the last field that the letter has) and the line (02, No. 5)
abbrev pub bad_at : String → ℕ → ℕ → String → Case
bad_at text n field line = record { text = text; places = 255; answer = 2 ∷ 9 ∷ n ∷ field ∷ []; line = line; jobs = [] }

-- a text with no fault, no dirty read and no knot: this many jobs, in this order
abbrev pub fine : String → ℕ → List ℕ → Case
fine text n jobs = record { text = text; places = 255; answer = 0 ∷ n ∷ 0 ∷ 0 ∷ []; line = ""; jobs = jobs }

-- a text with no fault, no dirty read and a knot: this many jobs, in this order
abbrev pub tied : String → ℕ → List ℕ → Case
tied text n jobs = record { text = text; places = 255; answer = 1 ∷ n ∷ 0 ∷ 0 ∷ []; line = ""; jobs = jobs }

-- a text with no fault and a dirty read: its reader and its writer (02, No. 2)
abbrev pub soiled : String → ℕ → ℕ → Case
soiled text reader writer = record { text = text; places = 255; answer = 3 ∷ reader ∷ writer ∷ 0 ∷ []; line = ""; jobs = reader ∷ writer ∷ [] }

-- the texts, with what is told for each
abbrev pub cases : List Case
cases =
    -- 14 for 254 places, before anything else and with line number 0; 255 are taken, and more stay
    record { text = "x\n"; places = 254; answer = 2 ∷ 14 ∷ 0 ∷ 0 ∷ []; line = ""; jobs = [] }
    ∷ record { text = ""; places = 254; answer = 2 ∷ 14 ∷ 0 ∷ 0 ∷ []; line = ""; jobs = [] }
    ∷ record { text = "c\t1\n"; places = 256; answer = 0 ∷ 1 ∷ 0 ∷ 0 ∷ []; line = ""; jobs = 1 ∷ [] }
    ∷ fine "" 0 []
    -- 9 with the letter at fault: another letter; u, which a history records as r (02, No. 1); an empty line; a letter with more behind it
    ∷ bad_at "x\n" 1 1 "x"
    ∷ bad_at "r\t1\t0\nu\t1\t0\n" 2 1 "u\t1\t0"
    ∷ bad_at "r\t1\t5\nu\t1\t5\nc\t1\n" 2 1 "u\t1\t5"
    ∷ bad_at "c\t1\n\nc\t2\n" 2 1 ""
    ∷ bad_at "c1\n" 1 1 "c1"
    -- with the job: it is missing, it is empty, a leading zero, a number that is too large
    ∷ bad_at "c\n" 1 2 "c"
    ∷ bad_at "r\t\t5\n" 1 2 "r\t\t5"
    ∷ bad_at "k\t01\n" 1 2 "k\t01"
    ∷ bad_at "c\t4294967296\n" 1 2 "c\t4294967296"
    -- with the cell: it is missing, it has three digits, a sign
    ∷ bad_at "r\t7\n" 1 3 "r\t7"
    ∷ bad_at "r\t7\t100\n" 1 3 "r\t7\t100"
    ∷ bad_at "w\t7\t+5\n" 1 3 "w\t7\t+5"
    -- with what follows the last field that the letter has: a field too many, a tab alone, a last line without its newline
    ∷ bad_at "c\t1\t5\n" 1 4 "c\t1\t5"
    ∷ bad_at "r\t1\t5\t\n" 1 4 "r\t1\t5\t"
    ∷ bad_at "r\t1\t5\nc\t1" 2 4 "c\t1"
    -- of several faulty fields the lowest counts
    ∷ bad_at "x\t+1\t100\t5" 1 1 "x\t+1\t100\t5"
    ∷ bad_at "r\t+1\t100\t5" 1 2 "r\t+1\t100\t5"
    ∷ bad_at "r\t1\t100\t5" 1 3 "r\t1\t100\t5"
    -- 9 before 12, before 2 and before 13: a job above 255 and a cell of three digits; a cell above 63 and a field too many; a line of a job that has ended, with a field too many
    ∷ bad_at "r\t256\t100\n" 1 3 "r\t256\t100"
    ∷ bad_at "r\t1\t64\t1\n" 1 4 "r\t1\t64\t1"
    ∷ bad_at "c\t1\nk\t1\t5\n" 2 4 "k\t1\t5"
    -- 12: job 0 with each letter, and job 256; 255 is no fault
    ∷ faulty "r\t0\t5\n" 12 1 "r\t0\t5"
    ∷ faulty "w\t0\t5\n" 12 1 "w\t0\t5"
    ∷ faulty "i\t0\t5\n" 12 1 "i\t0\t5"
    ∷ faulty "c\t0\n" 12 1 "c\t0"
    ∷ faulty "a\t0\n" 12 1 "a\t0"
    ∷ faulty "k\t0\n" 12 1 "k\t0"
    ∷ faulty "c\t255\nc\t256\n" 12 2 "c\t256"
    ∷ fine "c\t255\n" 1 (255 ∷ [])
    -- 12 before 2: job 256 and cell 64
    ∷ faulty "w\t256\t64\n" 12 1 "w\t256\t64"
    -- 2: cell 64, with each letter that has a cell; 63 is no fault
    ∷ faulty "r\t7\t64\n" 2 1 "r\t7\t64"
    ∷ faulty "w\t7\t64\n" 2 1 "w\t7\t64"
    ∷ faulty "i\t7\t64\n" 2 1 "i\t7\t64"
    ∷ fine "r\t7\t63\nc\t7\n" 1 (7 ∷ [])
    -- 2 before 13: cell 64, of a job that has committed
    ∷ faulty "c\t1\nr\t1\t64\n" 2 2 "r\t1\t64"
    -- 13: each letter after a c and after an a; k does not end a job
    ∷ faulty "c\t1\nr\t1\t5\n" 13 2 "r\t1\t5"
    ∷ faulty "c\t1\nc\t1\n" 13 2 "c\t1"
    ∷ faulty "c\t1\na\t1\n" 13 2 "a\t1"
    ∷ faulty "c\t1\nk\t1\n" 13 2 "k\t1"
    ∷ faulty "a\t1\nw\t1\t5\n" 13 2 "w\t1\t5"
    ∷ faulty "a\t1\nc\t1\n" 13 2 "c\t1"
    ∷ faulty "a\t1\na\t1\n" 13 2 "a\t1"
    ∷ faulty "a\t1\nk\t1\n" 13 2 "k\t1"
    ∷ fine "k\t1\nr\t1\t5\nk\t1\nc\t1\n" 1 (1 ∷ [])
    ∷ fine "a\t1\nc\t2\n" 1 (2 ∷ [])
    -- a knot; what was done before a k does not count, nor does a job that gave up or has no c
    ∷ tied "w\t1\t0\nw\t2\t0\nw\t2\t1\nw\t1\t1\nc\t1\nc\t2\n" 2 (1 ∷ 2 ∷ [])
    ∷ fine "w\t1\t0\nw\t2\t0\nw\t2\t1\nk\t1\nw\t1\t1\nc\t1\nc\t2\n" 2 (2 ∷ 1 ∷ [])
    ∷ fine "w\t1\t0\nw\t2\t0\nw\t2\t1\nw\t1\t1\na\t1\nc\t2\n" 1 (2 ∷ [])
    ∷ fine "w\t1\t0\nw\t2\t0\nw\t2\t1\nw\t1\t1\nc\t2\n" 1 (2 ∷ [])
    -- two cycles, and jobs before and behind one: 2 and 6 have edges both ways, and so do 4 and 5; 3 has edges to 4, 5 and 1, and both 4 and 5 have edges to 1. The walk starts at 1, which is on no cycle and has no successor. A walk from the largest job or from the smallest on a cycle, or one that also takes away jobs without a successor, tells 2 and 6 (01, The judge's rules: Knot)
    ∷ tied "w\t2\t0\nw\t6\t0\nw\t2\t0\nw\t3\t2\nw\t4\t2\nw\t5\t2\nw\t4\t2\nw\t1\t2\nc\t1\nc\t2\nc\t3\nc\t4\nc\t5\nc\t6\n" 2 (4 ∷ 5 ∷ [])
    -- dirty (02, No. 2): the writer is sent back, gives up, or has no end; it wrote or incremented; it commits in a later run; a committed write in between does not make the read clean
    ∷ soiled "w\t1\t0\nr\t2\t0\nk\t1\nc\t2\n" 2 1
    ∷ soiled "i\t1\t0\nr\t2\t0\nc\t2\na\t1\n" 2 1
    ∷ soiled "w\t1\t0\nr\t2\t0\nc\t2\n" 2 1
    ∷ soiled "w\t1\t0\nr\t2\t0\nk\t1\nc\t1\nc\t2\n" 2 1
    ∷ soiled "w\t1\t0\nw\t3\t0\nc\t3\nr\t2\t0\nc\t2\na\t1\n" 2 1
    -- the first such read, and the latest of its writers; dirty before a knot
    ∷ soiled "w\t1\t0\ni\t3\t0\nr\t2\t0\nr\t4\t0\na\t3\na\t1\nc\t4\nc\t2\n" 2 3
    ∷ soiled "w\t3\t5\nr\t2\t5\nw\t1\t0\nw\t2\t0\nw\t2\t1\nw\t1\t1\nc\t1\nc\t2\na\t3\n" 2 3
    -- the read that stands first, not the smallest reader's nor the one after the earliest write, which would tell 2 and 7; and the writer of the latest action, not the one with the largest number nor the one whose run began last, which is 4
    ∷ soiled "w\t1\t9\nw\t7\t1\nw\t4\t0\nw\t1\t0\nr\t6\t0\nr\t2\t1\nc\t2\nc\t6\na\t1\na\t4\na\t7\n" 6 1
    -- the request's own case: the writer is sent back, does it again and commits, after the reader's commit or before it; doing it again does not make the read clean
    ∷ soiled "w\t1\t0\nr\t2\t0\nw\t2\t1\nc\t2\nk\t1\nw\t1\t0\nc\t1\n" 2 1
    ∷ soiled "w\t1\t0\nr\t2\t0\nk\t1\nw\t1\t0\nc\t1\nc\t2\n" 2 1
    -- the reader's own write in between does not make the read clean; the latest action is by the writer that came first; the later writer's run has ended before the read
    ∷ soiled "w\t1\t0\nw\t2\t0\nr\t2\t0\nc\t2\na\t1\n" 2 1
    ∷ soiled "w\t1\t0\nw\t3\t0\ni\t1\t0\nr\t2\t0\nc\t2\na\t1\na\t3\n" 2 1
    ∷ soiled "w\t1\t0\nw\t3\t0\nk\t3\nr\t2\t0\nc\t2\na\t1\n" 2 1
    -- not dirty: the writer's run ended before the read, the writer commits, the job's own write was taken back, an increment in place of the read, another cell, the read comes first, the reader is sent back or has no end
    ∷ fine "w\t1\t0\nk\t1\nr\t2\t0\nc\t2\n" 1 (2 ∷ [])
    ∷ fine "w\t1\t0\nr\t2\t0\nc\t2\nc\t1\n" 2 (1 ∷ 2 ∷ [])
    ∷ fine "w\t1\t0\nk\t1\nr\t1\t0\nc\t1\n" 1 (1 ∷ [])
    ∷ fine "w\t1\t0\ni\t2\t0\nk\t1\nc\t2\n" 1 (2 ∷ [])
    ∷ fine "w\t1\t0\nr\t2\t1\nk\t1\nc\t2\n" 1 (2 ∷ [])
    ∷ fine "r\t2\t0\nw\t1\t0\nk\t1\nc\t2\n" 1 (2 ∷ [])
    ∷ fine "w\t1\t0\nr\t2\t0\nk\t2\nk\t1\nc\t2\n" 1 (2 ∷ [])
    ∷ fine "w\t1\t0\nr\t2\t0\nk\t1\n" 0 []
    -- 14 and a fault before dirty
    ∷ record { text = "w\t1\t0\nr\t2\t0\nc\t2\n"; places = 254; answer = 2 ∷ 14 ∷ 0 ∷ 0 ∷ []; line = ""; jobs = [] }
    ∷ faulty "w\t1\t0\nr\t2\t0\nc\t2\nr\t2\t0\n" 13 4 "r\t2\t0"
    -- the first faulty line decides, whatever follows: 13, then 9
    ∷ faulty "c\t1\nr\t1\t5\nx\n" 13 2 "r\t1\t5"
    ∷ []

-- what the judge tells for a text
abbrev pub tells : Case → Telling
tells c = let j = judgement_of (bytes c.text) (replicate c.places 9) in record { answer = in_numbers j.said; line = j.line; order = j.order }

-- what it has to tell
abbrev pub told : Case → Telling
told c = record { answer = c.answer; line = bytes c.line; order = c.jobs ++ replicate (c.places - length c.jobs) 9 }
