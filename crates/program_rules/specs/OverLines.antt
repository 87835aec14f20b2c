-- The run of a desk over lines of text: one definition, with the answers and the history as its two views (01, Lines).
use Rattle.std.specs.Prelude.{ℕ, ◌+◌, List, [], ◌∷◌, ◌++◌, ltb, Option, None, Some, Err, Ok}
use Rattle.laws.specs.Choice.{pick}
use Rattle.terms.specs.declared.letters.Letter.{Letter}
use Rattle.terms.specs.declared.words.Word.TheVariants.{Wake}
use Rattle.terms.specs.declared.refusals.Refusal.{Refusal}
use Rattle.terms.specs.Letters.{byte_of, of_requests}
use Rattle.terms.specs.Limits.{request_lines}
use Rattle.conflict.specs.declared.action.Action.{Action}
use Rattle.text_rules.specs.Lines.{refusal_of, read_line, Reading}
use Rattle.text_rules.specs.Records.{answer_record}
use Rattle.desks.specs.declared.Answer.{Answer}
use Rattle.desks.specs.declared.Answer.TheVariants.{No}
use Rattle.desks.specs.AnswerWords.{word_of, number_beside, field_beside}
use Rattle.desks.specs.Request.{Request}
use Rattle.desks.specs.Stepping.{Stepped, Stepping}
use Rattle.desks.specs.Records.{records_of}
use Rattle.text_rules.specs.EventRecords.{text_of}

-- what is known of a line after it has been answered: its number, its request, the answer and the wakes
pub record Told : Type 0 where
  pub line : ℕ
  pub request : Request
  pub said : Answer
  pub wakes : List Action

-- the request that stands for none
unfoldable pub no_request : Request
no_request = record { kind = 0; job = 0; cell = 0 }

-- a line's answer, and the desk after it
pub record Lined (S : Type 0) : Type 0 where
  pub desk : S
  pub told : Told

-- the request of a good line
abbrev pub asked : Letter → ℕ → ℕ → Request
asked l job cell = record { kind = byte_of l; job = job; cell = cell }

-- the request in a line; a bad line has none
abbrev pub request_in : Reading → Request
request_in (Err at) = no_request
request_in (Ok line) = asked line.letter line.job line.cell

-- what is known of a line whose request led to this step
abbrev pub told_by : {S : Type 0} → ℕ → Request → Stepped S → Told
told_by n r o = record { line = n; request = r; said = o.said; wakes = o.wakes }

-- a line that the reader refuses is answered with that refusal, and the desk does not see it; any other line is a step
abbrev pub answered_by : {S : Type 0} → Stepping S → S → ℕ → Request → Option Refusal → Lined S
answered_by step d n r (Some why) = record { desk = d; told = record { line = n; request = r; said = No why; wakes = [] } }
answered_by step d n r None = let o = step d r in record { desk = o.desk; told = told_by n r o }

-- a line is answered by how it reads: refusal 9 with the field at fault if it is bad, else a step
unfoldable pub answered : {S : Type 0} → Stepping S → S → ℕ → Reading → Lined S
answered step d n r = answered_by step d n (request_in r) (refusal_of r)

-- line n, answered
unfoldable pub line_by : {S : Type 0} → Stepping S → S → ℕ → List ℕ → Lined S
line_by step d n bytes = answered step d n (read_line of_requests bytes)

-- the run over lines numbered from n on; nothing is read after line 1,000,000 (01, Lines)
unfoldable pub run_of : {S : Type 0} → Stepping S → S → ℕ → List (List ℕ) → List Told
run_of step d n [] = []
run_of step d n (l ∷ ls) =
    let o = line_by step d n l in
    let rest = run_of step o.desk (n + 1) ls in
    pick (ltb request_lines n) [] (o.told ∷ rest)

-- one wake record for each wake (01, Lines)
unfoldable pub wake_lines : ℕ → List Action → List ℕ
wake_lines n [] = []
wake_lines n (a ∷ rest) = answer_record n Wake a.job 0 ++ wake_lines n rest

-- the answer records of a line: its answer, with the field at fault for refusal 9, then its wakes (01, Lines; 02, No. 5)
unfoldable pub answer_lines : Told → List ℕ
answer_lines t = answer_record t.line (word_of t.said) (number_beside t.said) (field_beside t.said) ++ wake_lines t.line t.wakes

-- the history records of a line: those of its step (01, Lines)
unfoldable pub history_lines : Told → List ℕ
history_lines t = text_of (records_of t.request t.said t.wakes)

-- the text written for a run, in a view
unfoldable pub written : (Told → List ℕ) → List Told → List ℕ
written view [] = []
written view (t ∷ ts) = view t ++ written view ts
