-- The records as the code writes them are the records of the line in the view (01, Lines).
-- Assumes nothing.
use Rattle.std.specs.Prelude.{Option, None, Some}
use Prim.Native.Nat.{ℕ}
use mathlib.Core.Path.{◌≡◌, refl, sym, ap, ap₂, ◌∙◌}
use mathlib.Core.List.{List, [], ◌∷◌, ◌++◌}
use Rattle.terms.specs.declared.letters.Letter.{Letter}
use Rattle.terms.specs.declared.letters.Letter.TheVariants.{Begin, Commit, GiveUp, Retry, Back, Asks}
use Rattle.terms.specs.Letters.{byte_of, letter_of}
use Rattle.conflict.specs.declared.action.Action.{Action}
use Rattle.conflict.specs.declared.action.Event.TheVariants.{Does}
use Rattle.conflict.specs.Modes.{recorded}
use Rattle.desks.specs.declared.Answer.{Answer}
use Rattle.desks.specs.declared.Answer.TheVariants.{Go, Wait, Back as goes_back, No}
use Rattle.desks.specs.Request.{Request}
use Rattle.desks.specs.Records.{went_by, own_records, records_of}
use Rattle.desks.specs.Records as step
use Rattle.text_rules.specs.EventRecords.{text_of}
use Rattle.text_rules.proofs.RecordLines.{text_append}
use Rattle.program_rules.specs.declared.View.{View}
use Rattle.program_rules.specs.declared.View.TheVariants.{Answers, History as TheHistory, Chains}
use Rattle.program_rules.specs.OverLines.{wake_lines, answer_lines, history_lines}
use Rattle.program_rules.specs.Work.{viewed}
use Rattle.clerk.specs.Parts.{asking, first_record, wake_record, wake_records, line_records}

-- what the history records of a request that goes does not name the job that asked
went_of : (r s : Request) (j : ℕ) (l : Option Letter) → r.cell ≡ s.cell → went_by r j l ≡ went_by s j l
unfolding went_by
went_of r s j None e = refl
went_of r s j (Some Back) e = refl
went_of r s j (Some Begin) e = refl
went_of r s j (Some Commit) e = refl
went_of r s j (Some GiveUp) e = refl
went_of r s j (Some Retry) e = refl
went_of r s j (Some (Asks a)) e = ap (λ c. Does (record { kind = recorded a; job = j; cell = c }) ∷ []) e

-- nor does what it records of any answer
own_of : (l : Letter) (job cell : ℕ) (a : Answer) → own_records (asking l cell) a ≡ own_records (record { kind = byte_of l; job = job; cell = cell }) a
unfolding own_records
own_of l job cell (Go j) = went_of (asking l cell) (record { kind = byte_of l; job = job; cell = cell }) j (letter_of (byte_of l)) refl
own_of l job cell (Wait j) = refl
own_of l job cell (goes_back j) = refl
own_of l job cell (No why) = refl

-- the wakes among the answers
wakes_answered : (line : ℕ) (ws : List Action) → wake_records Answers line ws ≡ wake_lines line ws
unfolding wake_records wake_record wake_lines
wakes_answered line [] = refl
wakes_answered line (a ∷ ws) = ap (λ l. wake_record Answers line a ++ l) (wakes_answered line ws)

-- the wakes in the history
wakes_noted : (line : ℕ) (ws : List Action) → wake_records TheHistory line ws ≡ text_of (step.wake_records ws)
unfolding wake_records wake_record step.wake_records text_of
wakes_noted line [] = refl
wakes_noted line (a ∷ ws) = ap (λ l. wake_record TheHistory line a ++ l) (wakes_noted line ws)

-- no wakes for the chains
wakes_untold : (line : ℕ) (ws : List Action) → wake_records Chains line ws ≡ []
unfolding wake_records wake_record
wakes_untold line [] = refl
wakes_untold line (a ∷ ws) = wakes_untold line ws

-- all records of a line whose request is good are those of what is told of it
pub records_told : (view : View) (line : ℕ) (l : Letter) (job cell : ℕ) (a : Answer) (ws : List Action) →
    line_records view line l cell a ws ≡ viewed view (record { line = line; request = record { kind = byte_of l; job = job; cell = cell }; said = a; wakes = ws })
unfolding line_records viewed first_record answer_lines history_lines records_of
records_told Answers line l job cell a ws = ap (λ r. first_record Answers line l cell a ++ r) (wakes_answered line ws)
records_told TheHistory line l job cell a ws =
    ap₂ (λ h k. h ++ k) (ap text_of (own_of l job cell a)) (wakes_noted line ws)
    ∙ sym (text_append (own_records (record { kind = byte_of l; job = job; cell = cell }) a) (step.wake_records ws))
records_told Chains line l job cell a ws = wakes_untold line ws
