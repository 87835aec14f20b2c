-- Answers and history show the same: each go of a read, write, increment or u, each wake and each back has its record in the history, and vice versa.
-- Assumes nothing.
use Rattle.std.specs.Prelude.{Option, None, Some}
use Prim.Native.Nat.{ℕ}
use mathlib.Core.Path.{◌≡◌, refl, sym, ap, ap₂, ◌∙◌}
use mathlib.Core.List.{List, [], ◌∷◌, ◌++◌}
use Rattle.terms.specs.declared.letters.Letter.{Letter}
use Rattle.terms.specs.declared.letters.Letter.TheVariants.{Begin, Commit as commit, GiveUp as give-up, Retry, Back as no-request, Asks}
use Rattle.terms.specs.Letters.{letter_of}
use Rattle.conflict.specs.declared.action.Action.{Action}
use Rattle.conflict.specs.declared.action.Event.TheVariants.{Does, Ends}
use Rattle.conflict.specs.History.{History}
use Rattle.desks.specs.declared.Answer.{Answer}
use Rattle.desks.specs.declared.Answer.TheVariants.{Go, Wait, Back as goes_back, No}
use Rattle.desks.specs.Request.{Request}
use Rattle.desks.specs.Records.{went_by, own_records, wake_records, records_of}
use Rattle.text_rules.specs.EventRecords.{text_of}
use Rattle.text_rules.proofs.RecordLines.{text_append}
use Rattle.program_rules.specs.OverLines.{Told, history_lines, written}
use Rattle.program_rules.specs.Programs.{run_on, history_of, stamp_run_on, stamp_history_of}
use Rattle.program_rules.specs.Shown.{granted, ended, go_shows, answer_shows, wakes_show, answers_show, answers_show_all, history_shows, history_of_run}

-- what some records show and then others
shows_append : (h k : History) → history_shows (h ++ k) ≡ history_shows h ++ history_shows k
unfolding history_shows
shows_append [] k = refl
shows_append (Does a ∷ h) k = ap (λ l. granted a.job ∷ l) (shows_append h k)
shows_append (Ends m j ∷ h) k = ap (λ l. ended m j ∷ l) (shows_append h k)

-- a request that goes
go_shown : (r : Request) (j : ℕ) (l : Option Letter) → history_shows (went_by r j l) ≡ go_shows j l
unfolding history_shows went_by go_shows
go_shown r j None = refl
go_shown r j (Some no-request) = refl
go_shown r j (Some Begin) = refl
go_shown r j (Some commit) = refl
go_shown r j (Some give-up) = refl
go_shown r j (Some Retry) = refl
go_shown r j (Some (Asks a)) = refl

-- any answer
own_shown : (r : Request) (a : Answer) → history_shows (own_records r a) ≡ answer_shows (letter_of r.kind) a
unfolding own_records answer_shows history_shows
own_shown r (Go j) = go_shown r j (letter_of r.kind)
own_shown r (Wait j) = refl
own_shown r (goes_back j) = refl
own_shown r (No why) = refl

-- the wakes
wakes_shown : (ws : List Action) → history_shows (wake_records ws) ≡ wakes_show ws
unfolding wake_records wakes_show history_shows
wakes_shown [] = refl
wakes_shown (a ∷ ws) = ap (λ l. granted a.job ∷ l) (wakes_shown ws)

-- the history records of a line show, one by one and in the same order, what its answer records show
pub line_shown : (t : Told) → history_shows (records_of t.request t.said t.wakes) ≡ answers_show t
unfolding records_of answers_show
line_shown t =
    shows_append (own_records t.request t.said) (wake_records t.wakes) ∙ ap₂ (λ h k. h ++ k) (own_shown t.request t.said) (wakes_shown t.wakes)

-- ANSWERS AND HISTORY AGREE: over a whole run they show the same grants and the same ends, in the same order
pub same_shown : (ts : List Told) → history_shows (history_of_run ts) ≡ answers_show_all ts
unfolding history_of_run answers_show_all
same_shown [] = unfold history_shows in refl
same_shown (t ∷ ts) =
    shows_append (records_of t.request t.said t.wakes) (history_of_run ts) ∙ ap₂ (λ h k. h ++ k) (line_shown t) (same_shown ts)

-- what is written of a run in the history's view is the text of the run's history
run_written : (ts : List Told) → written history_lines ts ≡ text_of (history_of_run ts)
unfolding written history_lines history_of_run
run_written [] = unfold text_of in refl
run_written (t ∷ ts) =
    ap (λ l. text_of (records_of t.request t.said t.wakes) ++ l) (run_written ts) ∙ sym (text_append (records_of t.request t.said t.wakes) (history_of_run ts))

-- so the history program writes the text of the history of the run whose answers the answering program writes
pub history_is : (text : List ℕ) → history_of text ≡ text_of (history_of_run (run_on text))
unfolding history_of
history_is text = run_written (run_on text)

-- and so does the timestamp desk's (02, No. 6)
pub stamp_history_is : (text : List ℕ) → stamp_history_of text ≡ text_of (history_of_run (stamp_run_on text))
unfolding stamp_history_of
stamp_history_is text = run_written (stamp_run_on text)
