-- What is promised of refusals and answers, for any desk with a table: a refusal exactly if the table has it due, and what an answer names (01, Refusals by number; 01, Lines).
use Rattle.std.specs.Prelude.{ℕ, ◌≡◌, ◌↔◌, true, [], Option, None, Some}
use Rattle.terms.specs.declared.refusals.Refusal.{Refusal}
use Rattle.terms.specs.declared.words.Word.TheVariants.{No as no_word}
use Rattle.terms.specs.Letters.{letter_of}
use Rattle.terms.specs.Refusals.{number_of}
use Rattle.desks.specs.declared.Answer.TheVariants.{Go, No}
use Rattle.desks.specs.AnswerWords.{word_of, number_beside, field_beside}
use Rattle.desks.specs.Request.{Request, Alike}
use Rattle.desks.specs.Table.{Answers, letter_is, asks_no_cell}
use Rattle.desks.specs.Course.{Course, now, to, records}

-- given what the table says of a request to a desk, and the job that its answer names
pub record RefusesBy {D : Type 0} (due : D → Request → Option Refusal) (named : D → Request → ℕ) (k : Course D) : Type 0 where
  -- a step is refused exactly if the table has that refusal due
  pub refused_exactly : (r : Request) (why : Refusal) → ((to k r).said ≡ No why) ↔ (due (now k) r ≡ Some why)
  -- a refusal changes nothing, wakes no job and writes nothing
  pub refusal_kept : (r : Request) (why : Refusal) → (to k r).said ≡ No why → ((to k r).desk ≡ now k) × ((to k r).wakes ≡ []) × (records k r ≡ [])
  -- if nothing is due the answer is go, wait or back with the job that the request names, and the other way round
  pub not_due : (r : Request) → due (now k) r ≡ None → Answers (to k r).said (named (now k) r)
  pub answered_not_due : (r : Request) (j : ℕ) → Answers (to k r).said j → due (now k) r ≡ None
  pub answer_names : (r : Request) (j : ℕ) → Answers (to k r).said j → j ≡ named (now k) r
  -- begin, commit, give-up and retry go if nothing is due
  pub answers_go : (r : Request) → letter_is asks_no_cell (letter_of r.kind) ≡ true → due (now k) r ≡ None → (to k r).said ≡ Go (named (now k) r)
  -- the number beside the word is the refusal's, or the job's; a step tells no field
  pub no_with_number : (r : Request) (why : Refusal) → due (now k) r ≡ Some why → (word_of (to k r).said ≡ no_word) × (number_beside (to k r).said ≡ number_of why)
  pub job_beside : (r : Request) → due (now k) r ≡ None → number_beside (to k r).said ≡ named (now k) r
  pub no_field : (r : Request) → field_beside (to k r).said ≡ 0
  -- requests of one kind that agree in the fields the kind uses make the same step and write the same
  pub unread : (r s : Request) → r.kind ≡ s.kind → Alike (letter_of r.kind) r s → (to k r ≡ to k s) × (records k r ≡ records k s)
