-- Each branch of the code, against the case of the definition that it follows.
-- Assumes nothing.
use Prim.Native.Nat.{ℕ}
use Rattle.std.specs.Prelude.{◌⊎◌, Option, None, Some}
use Rattle.std.proofs.Common.{inl, inr}
use mathlib.Core.Path.{◌≡◌, sym, ap, ◌∙◌}
use mathlib.Core.List.{[], append-nil}
use Rattle.terms.specs.declared.letters.Letter.{Letter}
use Rattle.terms.specs.declared.letters.Letter.TheVariants.{Asks}
use Rattle.terms.specs.declared.letters.Ask.{Ask}
use Rattle.terms.specs.declared.words.Word.{Word}
use Rattle.terms.specs.declared.words.Word.TheVariants.{Wake, No}
use Rattle.terms.specs.declared.refusals.Field.{Field}
use Rattle.terms.specs.declared.refusals.Refusal.TheVariants.{BadLine}
use Rattle.terms.specs.Refusals.{number_of, field_number}
use Rattle.conflict.specs.declared.action.Action.{Action}
use Rattle.terms.specs.Letters.{of_requests}
use Rattle.text_rules.specs.declared.Line.{Line}
use Rattle.text_rules.specs.declared.splitter.Splitter.{Splitter}
use Rattle.text_rules.specs.Fields.{lacking}
use Rattle.text_rules.specs.Lines.{read_line}
use Rattle.text_rules.specs.Records.{answer_record, line_record}
use Rattle.text_rules.specs.Split.{found_at}
use Rattle.desks.specs.declared.Answer.{Answer}
use Rattle.program_rules.specs.declared.View.{View}
use Rattle.program_rules.specs.declared.View.TheVariants.{Answers, History, Chains}
use Rattle.desks.specs.Records.{records_of, own_records, wake_records}
use Rattle.text_rules.specs.EventRecords.{ask_by, event_line, text_of}
use Rattle.desks.specs.AnswerWords.{word_of, number_beside, field_beside}
use Rattle.program_rules.specs.OverLines.{answer_lines, history_lines, wake_lines}
use Rattle.program_rules.specs.Work.{viewed, told_bad, unended}
use Rattle.program_rules.specs.declared.Clerk.{Clerk}
use Rattle.program_rules.specs.declared.Desks.{Desks}
use Rattle.program_rules.specs.declared.Method.TheVariants.{Locks, Stamps}
use Rattle.program_rules.specs.Chains.{chain_text}
use Rattle.program_rules.specs.Closing.{chains_by, closing}
use Rattle.desk_chain.specs.Chains.{chains_on}
use Rattle.clerk.specs.Parts.{asking, noted_bytes, first_record, wake_record}

-- nothing is noted
pub nothing_noted : (n : Option Line) → n ≡ None → [] ≡ noted_bytes n
unfolding noted_bytes
nothing_noted n e = rw e

-- a line is noted
pub line_noted : (n : Option Line) {l : Line} → n ≡ Some l → line_record l.letter l.job l.cell ≡ noted_bytes n
unfolding noted_bytes
line_noted n e = rw e

-- the first record among the answers
pub first_answer : (view : View) (line : ℕ) (l : Letter) (cell : ℕ) (a : Answer) (w : Word) (n k : ℕ) → view ≡ Answers → w ≡ word_of a → n ≡ number_beside a → k ≡ field_beside a →
    answer_record line w n k ≡ first_record view line l cell a
unfolding first_record
first_answer view line l cell a w n k e f g h = rw (e, f, g, h)

-- the first record in the history
pub first_noted : (view : View) (line : ℕ) (l : Letter) (cell : ℕ) (a : Answer) (n : Option Line) → view ≡ History → noted_bytes n ≡ text_of (own_records (asking l cell) a) → noted_bytes n ≡ first_record view line l cell a
unfolding first_record
first_noted view line l cell a n e f = f ∙ rw e

-- no first record for the chains
pub first_chains : (view : View) (line : ℕ) (l : Letter) (cell : ℕ) (a : Answer) → view ≡ Chains → [] ≡ first_record view line l cell a
unfolding first_record
first_chains view line l cell a e = rw e

-- a wake among the answers
pub wake_answer : (view : View) (line : ℕ) (a : Action) → view ≡ Answers → answer_record line Wake a.job 0 ≡ wake_record view line a
unfolding wake_record
wake_answer view line a e = rw e

-- a wake in the history
pub wake_noted : (view : View) (line : ℕ) (a : Action) (k : Ask) → view ≡ History → k ≡ ask_by a.kind → line_record (Asks k) a.job a.cell ≡ wake_record view line a
unfolding wake_record event_line
wake_noted view line a k e f = rw (e, f)

-- no record of a wake for the chains
pub wake_chains : (view : View) (line : ℕ) (a : Action) → view ≡ Chains → [] ≡ wake_record view line a
unfolding wake_record
wake_chains view line a e = rw e

-- a bad line among the answers
pub bad_answer : (view : View) (line n k : ℕ) (field : Field) → view ≡ Answers → n ≡ number_of (BadLine field) → k ≡ field_number field → answer_record line No n k ≡ viewed view (told_bad line field)
unfolding viewed told_bad answer_lines word_of number_beside field_beside wake_lines
bad_answer view line n k field e f g = rw (e, f, g) (sym (append-nil _))

-- a bad line gives the history nothing, nor the chains
pub bad_untold : (view : View) (line : ℕ) (field : Field) → (view ≡ History) ⊎ (view ≡ Chains) → [] ≡ viewed view (told_bad line field)
unfolding viewed told_bad history_lines records_of own_records wake_records text_of
bad_untold view line field (inl e) = rw e
bad_untold view line field (inr e) = rw e

-- a line that lacks its newline is a bad line, at the field that its bytes tell
pub unended_told : (view : View) (s : Splitter) {field : Field} → field ≡ lacking (read_line of_requests (found_at s).bytes) → viewed view (told_bad s.line field) ≡ viewed view (unended s)
unfolding unended
unended_told view s e = ap (λ k. viewed view (told_bad s.line k)) e

-- nothing is written last of the answers, nor of the history
pub last_none : (view : View) (c : Clerk) → (view ≡ Answers) ⊎ (view ≡ History) → [] ≡ closing view c
unfolding closing
last_none view c (inl e) = rw e
last_none view c (inr e) = rw e

-- the chains are, by the method
pub last_chains : (view : View) (c : Clerk) → view ≡ Chains → chains_by c.desks.method c.desks ≡ closing view c
unfolding closing
last_chains view c e = rw e

-- on the lock desk, those of the jobs waiting there
pub waiting_locks : (d : Desks) → d.method ≡ Locks → chain_text (chains_on d.locks) ≡ chains_by d.method d
unfolding chains_by
waiting_locks d e = ap (λ m. chains_by m d) (sym e)

-- and on the timestamp desk nobody waits
pub waiting_stamps : (d : Desks) → d.method ≡ Stamps → [] ≡ chains_by d.method d
unfolding chains_by
waiting_stamps d e = ap (λ m. chains_by m d) (sym e)
