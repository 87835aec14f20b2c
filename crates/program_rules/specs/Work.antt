-- A clerk's work: from a place of a chunk on, line after line, while there are bytes left and room for a line's records (01, Lines).
use Rattle.std.specs.Prelude.{ℕ, zero, suc, ◌+◌, ◌*◌, Bool, true, false, not, ◌&&◌, List, [], ltb, leb, length}
use Rattle.laws.specs.Choice.{pick}
use Rattle.terms.specs.declared.refusals.Field.{Field}
use Rattle.terms.specs.declared.refusals.Refusal.TheVariants.{BadLine}
use Rattle.terms.specs.Letters.{of_requests}
use Rattle.terms.specs.Limits.{places, request_lines}
use Rattle.text_rules.specs.declared.splitter.Splitter.{Splitter}
use Rattle.text_rules.specs.Fields.{lacking}
use Rattle.text_rules.specs.Lines.{read_line}
use Rattle.text_rules.specs.Records.{longest_record}
use Rattle.text_rules.specs.Split.{fresh, cut_of, found_at}
use Rattle.text_rules.specs.Wrote.{put_from}
use Rattle.desks.specs.declared.Answer.TheVariants.{No}
use Rattle.program_rules.specs.declared.Clerk.{Clerk}
use Rattle.program_rules.specs.declared.Desks.{Desks}
use Rattle.program_rules.specs.declared.Method.{Method}
use Rattle.program_rules.specs.declared.View.{View}
use Rattle.program_rules.specs.declared.View.TheVariants.{Answers, History, Chains}
use Rattle.program_rules.specs.declared.Worked.{Worked}
use Rattle.program_rules.specs.declared.Finished.{Finished}
use Rattle.program_rules.specs.OverLines.{Told, Lined, no_request, line_by, answer_lines, history_lines}
use Rattle.program_rules.specs.Desks.{new_desks, on_desks}
use Rattle.program_rules.specs.Programs.{first_number}

-- before any byte: each desk is started at 1, and the method says which is asked
unfoldable pub started_clerk : Method → Clerk
started_clerk m = record { desks = new_desks m first_number; splitter = fresh }

-- the records of a line in a view; `chain` writes none for a line
unfoldable pub viewed : View → Told → List ℕ
viewed Answers t = answer_lines t
viewed History t = history_lines t
viewed Chains t = []

-- the most bytes of a line's wake records: at most one record for each place for open jobs (01, What is delivered)
abbrev pub wakes_room : ℕ
wakes_room = longest_record * places

-- the most bytes of a line's records: its own record, and those of its wakes
abbrev pub line_room : ℕ
line_room = longest_record + wakes_room

-- whether there is room for the records of any line from this place on
unfoldable pub roomy : List ℕ → ℕ → Bool
roomy out at = leb (at + line_room) (length out)

-- whether the line in the splitter is to be answered: its newline has come, and its number is at most 1,000,000 (01, Lines)
unfoldable pub due : Splitter → Bool
due s = s.ended && leb s.line request_lines

-- the clerk, the buffer, and the place after the last record
pub record Turn : Type 0 where
  pub clerk : Clerk
  pub at : ℕ
  pub out : List ℕ

-- answers the line in the splitter, and puts its records into the buffer
unfoldable pub answering : View → Clerk → List ℕ → ℕ → Turn
answering view c out at =
    let l : Lined Desks = line_by on_desks c.desks c.splitter.line (found_at c.splitter).bytes in
    let bytes = viewed view l.told in
    record { clerk = record { desks = l.desk; splitter = c.splitter }; at = at + length bytes; out = put_from out at bytes }

-- after a cut: the line is answered if it is due, else nothing changes
unfoldable pub turning : View → Clerk → List ℕ → ℕ → Turn
turning view c out at = pick (due c.splitter) (answering view c out at) (record { clerk = c; at = at; out = out })

-- the clerk after a cut
unfoldable pub cutting : Clerk → List ℕ → ℕ → Clerk
cutting c chunk from = record { desks = c.desks; splitter = (cut_of c.splitter chunk from).splitter }

-- how far the work has come, and what the buffer then holds
pub record Working : Type 0 where
  pub worked : Worked
  pub out : List ℕ

-- the work ends here
unfoldable pub stopped : Clerk → ℕ → List ℕ → ℕ → Bool → Working
stopped c from out at full = record { worked = record { clerk = c; next = from; at = at; full = full }; out = out }

-- at most n lines of the chunk from the place on; stops before the next cut if there is no room for a line's records
unfoldable pub work_by : ℕ → View → Clerk → List ℕ → ℕ → List ℕ → ℕ → Working
work_by zero view c chunk from out at = stopped c from out at false
work_by (suc n) view c chunk from out at =
    let t = turning view (cutting c chunk from) out at in
    let rest = work_by n view t.clerk chunk (cut_of c.splitter chunk from).next t.out t.at in
    pick (ltb from (length chunk)) (pick (roomy out at) rest (stopped c from out at true)) (stopped c from out at false)

-- every line of the chunk from the place on: each has a byte, so there are at most as many lines as bytes
unfoldable pub work_of : View → Clerk → List ℕ → ℕ → List ℕ → ℕ → Working
work_of view c chunk from out at = work_by (length chunk) view c chunk from out at

-- the end of the input, and what the buffer then holds
pub record Finishing : Type 0 where
  pub finished : Finished
  pub out : List ℕ

-- what is told of a bad line: refusal 9, with the field at fault (01, Lines; 02, No. 5)
unfoldable pub told_bad : ℕ → Field → Told
told_bad n at = record { line = n; request = no_request; said = No (BadLine at); wakes = [] }

-- what is told of the line in the splitter if the input ends before its newline
unfoldable pub unended : Splitter → Told
unended s = told_bad s.line (lacking (read_line of_requests (found_at s).bytes))

-- whether a line is under way that must be answered although it lacks its newline
unfoldable pub owing : Splitter → Bool
owing s = not s.ended && leb s.line request_lines

-- whether every line to be read has been read: line 1,000,000 has its newline, or a further line has begun (01, Lines)
unfoldable pub all_read : Splitter → Bool
all_read s = pick s.ended (leb request_lines s.line) (ltb request_lines s.line)

-- the end of the input: a line without its newline gets refusal 9 with the field at fault, if its number is at most 1,000,000 (01, Lines; 02, No. 5)
unfoldable pub finish_of : View → Clerk → List ℕ → ℕ → Finishing
finish_of view c out at =
    let bytes = viewed view (unended c.splitter) in
    pick (owing c.splitter)
    (pick (roomy out at)
    (record { finished = record { at = at + length bytes; full = false }; out = put_from out at bytes })
    (record { finished = record { at = at; full = true }; out = out }))
    (record { finished = record { at = at; full = false }; out = out })
