-- The records of one line as the code writes them, one after another: the first, if there is one, then one for each wake (01, Lines).
use Rattle.std.specs.Prelude.{ℕ, ◌≤◌, ◌<◌, ◌≡◌, List, [], ◌∷◌, ◌++◌, length, Option, None, Some}
use Rattle.terms.specs.declared.letters.Letter.{Letter}
use Rattle.terms.specs.declared.words.Word.TheVariants.{Wake}
use Rattle.terms.specs.Letters.{byte_of}
use Rattle.terms.specs.Limits.{last_number}
use Rattle.conflict.specs.declared.action.Action.{Action}
use Rattle.conflict.specs.declared.action.Event.TheVariants.{Does}
use Rattle.text_rules.specs.declared.Line.{Line}
use Rattle.text_rules.specs.EventRecords.{event_line, text_of}
use Rattle.text_rules.specs.Records.{answer_record, line_record}
use Rattle.text_rules.specs.Wrote.{Wrote}
use Rattle.desks.specs.declared.Answer.{Answer}
use Rattle.program_rules.specs.declared.View.{View}
use Rattle.program_rules.specs.declared.View.TheVariants.{Answers, History, Chains}
use Rattle.desks.specs.AnswerWords.{word_of, number_beside, field_beside}
use Rattle.desks.specs.Request.{Request}
use Rattle.desks.specs.Records.{own_records}
use Rattle.desks.specs.Stepping.{Stepping}
use Rattle.program_rules.specs.OverLines.{told_by}
use Rattle.program_rules.specs.Work.{viewed}

-- at most `most` bytes were written: they stand from one place up to another, and all other bytes are unchanged
pub record Added (most at to : ℕ) (bytes before after : List ℕ) : Type 0 where
  pub wrote : Wrote at to bytes before after
  pub few : length bytes ≤ most

-- the number and the field of a short enough answer record: the number has 32 bits, and at most two digits if there is a field
abbrev pub Besides : ℕ → ℕ → Type 0
Besides number fault = (number ≤ last_number) × (fault ≤ 9) × (0 < fault → number ≤ 99)

-- the request of a good line, as far as its history records need it: they name the job answered, not the job that asked
abbrev pub asking : Letter → ℕ → Request
asking l cell = record { kind = byte_of l; job = 0; cell = cell }

-- the bytes of the line that the history notes of a request, if any
unfoldable pub noted_bytes : Option Line → List ℕ
noted_bytes None = []
noted_bytes (Some l) = line_record l.letter l.job l.cell

-- the first record of a line in a view
unfoldable pub first_record : View → ℕ → Letter → ℕ → Answer → List ℕ
first_record Answers line l cell a = answer_record line (word_of a) (number_beside a) (field_beside a)
first_record History line l cell a = text_of (own_records (asking l cell) a)
first_record Chains line l cell a = []

-- the record of a wake in a view
unfoldable pub wake_record : View → ℕ → Action → List ℕ
wake_record Answers line a = answer_record line Wake a.job 0
wake_record History line a = event_line (Does a)
wake_record Chains line a = []

-- the records of all wakes in a view
unfoldable pub wake_records : View → ℕ → List Action → List ℕ
wake_records view line [] = []
wake_records view line (a ∷ rest) = wake_record view line a ++ wake_records view line rest

-- all records of a line whose request is good
unfoldable pub line_records : View → ℕ → Letter → ℕ → Answer → List Action → List ℕ
line_records view line l cell a wakes = first_record view line l cell a ++ wake_records view line wakes

-- a request answered on a desk of either kind: the desk is what the step leaves, and the records of what the step says are written
pub record Answered {S : Type 0} (does : Stepping S) (view : View) (line : ℕ) (r : Request) (d e : S) (at to : ℕ) (before after : List ℕ) : Type 0 where
  pub desk : e ≡ (does d r).desk
  pub records : Wrote at to (viewed view (told_by line r (does d r))) before after
