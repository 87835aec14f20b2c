-- The judge's refusals of a line as the paper's table prints them: each row by itself, then the order in which the rows are tested. A line is what the reader made of it; bytes and the judge are not mentioned here (01, Refusals by number).
use Rattle.std.specs.Prelude.{ℕ, suc, ◌-◌, ◌≤◌, ◌<◌, ◌≡◌, Bool, false, not, ◌&&◌, ◌||◌, List, [], ◌∷◌, eqb, leb, length, get_or, take, Option, None, Some, Err, Ok}
use Rattle.laws.specs.Lists.{first_of}
use Rattle.terms.specs.declared.letters.Letter.{Letter}
use Rattle.terms.specs.declared.letters.Letter.TheVariants.{Begin, Commit, GiveUp, Retry, Back, Asks}
use Rattle.terms.specs.declared.refusals.Field.{Field}
use Rattle.terms.specs.declared.refusals.Field.TheVariants.{First, Second, Third, Fourth}
use Rattle.terms.specs.declared.refusals.Refusal.{Refusal}
use Rattle.terms.specs.declared.refusals.Refusal.TheVariants.{UnknownKind, CellAbove, NotOpen, Waiting, SentBack, AllOpen, NoNumberLeft, Running, BadLine, StartedAtZero, TooManyLines, JobOutside, Ended, ShortOrder, NoRoom, TooLong, ShortList, NoRetry}
use Rattle.terms.specs.Letters.{has_cell}
use Rattle.terms.specs.Limits.{cells, judged_jobs, judged_lines}
use Rattle.terms.specs.Refusals.{field_number}
use Rattle.text_rules.specs.Lines.{Reading}

-- how line n reads; lines are numbered from 1
abbrev pub reading_at : List Reading → ℕ → Reading
reading_at rs n = get_or rs (n - 1) (Err First)

-- the lines before line n, as they read or as bytes
abbrev pub lines_before : {A : Type 0} → List A → ℕ → List A
lines_before ls n = take (n - 1) ls

-- 11: history has a line 4,097
abbrev pub too_many : ℕ → Bool
too_many n = eqb n (suc judged_lines)

-- 9: bad line, at this field (02, No. 5)
abbrev pub is_bad : Field → Reading → Bool
is_bad field (Err at) = eqb (field_number field) (field_number at)
is_bad field (Ok line) = false

-- 12: job outside 1 to 255
abbrev pub outside : Reading → Bool
outside (Err at) = false
outside (Ok line) = not (leb 1 line.job && leb line.job judged_jobs)

-- 2: cell above 63; r, w and i have a cell
abbrev pub above : Reading → Bool
above (Err at) = false
above (Ok line) = has_cell line.letter && leb cells line.cell

-- a good line of this letter and job is a c or an a of job j
abbrev pub ends_by : ℕ → Letter → ℕ → Bool
ends_by j Begin job = false
ends_by j Commit job = eqb job j
ends_by j GiveUp job = eqb job j
ends_by j Retry job = false
ends_by j Back job = false
ends_by j (Asks a) job = false

-- the line is a c or an a of this job
unfoldable pub ends : ℕ → Reading → Bool
ends j (Err at) = false
ends j (Ok line) = ends_by j line.letter line.job

-- one of the lines is a c or an a of this job
unfoldable pub ended_in : ℕ → List Reading → Bool
ended_in j [] = false
ended_in j (r ∷ rs) = ends j r || ended_in j rs

-- 13: line for a job that has committed or given up, on one of the lines before it
abbrev pub over_already : List Reading → Reading → Bool
over_already before (Err at) = false
over_already before (Ok line) = ended_in line.job before

-- the table: when the row of each refusal holds for line n, by the lines before it and how it reads. The other rows do not belong to a line, or not to the judge
unfoldable pub holds : ℕ → List Reading → Reading → Refusal → Bool
holds n before r UnknownKind = false
holds n before r CellAbove = above r
holds n before r NotOpen = false
holds n before r Waiting = false
holds n before r SentBack = false
holds n before r AllOpen = false
holds n before r NoNumberLeft = false
holds n before r Running = false
holds n before r (BadLine field) = is_bad field r
holds n before r StartedAtZero = false
holds n before r TooManyLines = too_many n
holds n before r JobOutside = outside r
holds n before r Ended = over_already before r
holds n before r ShortOrder = false
holds n before r NoRoom = false
holds n before r TooLong = false
holds n before r ShortList = false
holds n before r NoRetry = false

-- the row of this refusal holds for line n of the lines
abbrev pub holds_at : List Reading → ℕ → Refusal → Bool
holds_at rs n why = holds n (lines_before rs n) (reading_at rs n) why

-- every line is read back: none is a bad line at any field, none has a cell above 63, and none is for a job that has committed or given up before it (01, refusals 9, 2 and 13)
abbrev pub AllReadBack : List Reading → Type 0
AllReadBack rs = (n : ℕ) → 1 ≤ n → n ≤ length rs → ((at : Field) → holds_at rs n (BadLine at) ≡ false) × (holds_at rs n CellAbove ≡ false) × (holds_at rs n Ended ≡ false)

-- the order of the tests: on one line 11, 9, 12, 2, 13; a bad line is bad at one field, so at most one of the four rows of 9 holds (`bad_at_one`)
unfoldable pub order : List Refusal
order = TooManyLines ∷ BadLine First ∷ BadLine Second ∷ BadLine Third ∷ BadLine Fourth ∷ JobOutside ∷ CellAbove ∷ Ended ∷ []

-- what the table says of a line, by its number, the lines before it and how it reads
unfoldable pub table_says : ℕ → List Reading → Reading → Option Refusal
table_says n before r = first_of (holds n before r) order

-- the refusal is due for line n: it is the first whose row holds
abbrev pub Due : List Reading → ℕ → Refusal → Type 0
Due rs n why = table_says n (lines_before rs n) (reading_at rs n) ≡ Some why

-- line n is faultless: no row holds
abbrev pub Faultless : List Reading → ℕ → Type 0
Faultless rs n = table_says n (lines_before rs n) (reading_at rs n) ≡ None

-- lines in order, and the first faulty line decides: there is a line n for which the refusal is due, and the lines before it are faultless
pub record FirstFault (rs : List Reading) (n : ℕ) (why : Refusal) : Type 0 where
  pub from : 1 ≤ n
  pub to : n ≤ length rs
  pub before : (m : ℕ) → 1 ≤ m → m < n → Faultless rs m
  pub due : Due rs n why

-- all lines are faultless
abbrev pub AllFaultless : List Reading → Type 0
AllFaultless rs = (n : ℕ) → 1 ≤ n → n ≤ length rs → Faultless rs n
