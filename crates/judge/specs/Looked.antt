-- One line of a history as the judge looks at it: what is kept of it, or why it is refused (01, Refusals by number).
use Rattle.std.specs.Prelude.{ℕ, Bool, false, ◌||◌, List, eqb, ltb, leb, get_or, Result, Err, Ok}
use Rattle.laws.specs.Choice.{pick}
use Rattle.terms.specs.declared.letters.Ask.TheVariants.{Read, Write, Increment, Update}
use Rattle.terms.specs.declared.letters.Letter.{Letter}
use Rattle.terms.specs.declared.letters.Letter.TheVariants.{Begin, Commit, GiveUp, Retry, Back, Asks}
use Rattle.terms.specs.declared.refusals.Refusal.{Refusal}
use Rattle.terms.specs.declared.refusals.Refusal.TheVariants.{BadLine, CellAbove, TooManyLines, JobOutside, Ended}
use Rattle.terms.specs.Limits.{cells, judged_jobs, judged_lines}
use Rattle.text_rules.specs.declared.Line.{Line}
use Rattle.text_rules.specs.Lines.{Reading}
use Rattle.judge.specs.declared.lines.KeptLine.{KeptLine}

-- what is kept of a line, or why it is refused
abbrev pub Looked : Type 0
Looked = Result KeptLine Refusal

-- the code of a letter: 0 read, 1 write, 2 increment, 3 commit, 4 give-up, 5 sent back; b, t and u, which no history line has, get 5 too (02, No. 1: u)
abbrev pub code_of : Letter → ℕ
code_of Begin = 5
code_of Commit = 3
code_of GiveUp = 4
code_of Retry = 5
code_of Back = 5
code_of (Asks Read) = 0
code_of (Asks Write) = 1
code_of (Asks Increment) = 2
code_of (Asks Update) = 5

-- whether the line with this code ends its job for good
unfoldable pub ends_job : ℕ → Bool
ends_job code = eqb code 3 || eqb code 4

-- a well-formed line, by the flags of the jobs that have committed or given up
unfoldable pub looked_good : List Bool → Line → Looked
looked_good flags good =
    pick (eqb good.job 0 || ltb judged_jobs good.job) (Err JobOutside)
    (pick (leb cells good.cell) (Err CellAbove)
    (pick (get_or flags good.job false) (Err Ended) (Ok (record { code = code_of good.letter; job = good.job; cell = good.cell }))))

-- a line, by how it reads
unfoldable pub looked_read : List Bool → Reading → Looked
looked_read flags (Ok good) = looked_good flags good
looked_read flags (Err at) = Err (BadLine at)

-- line n, by how it reads
unfoldable pub looked_at : ℕ → List Bool → Reading → Looked
looked_at n flags r = pick (ltb judged_lines n) (Err TooManyLines) (looked_read flags r)
