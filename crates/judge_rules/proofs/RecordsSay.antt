-- A record says its event, so the records of a history say it (01, Lines).
-- Assumes nothing.
use Prim.Native.Nat.{ℕ}
use mathlib.Core.Path.{◌≡◌, refl, ap, ap₂, ◌∙◌}
use mathlib.Core.Bool.{true}
use mathlib.Core.List.{[], ◌∷◌, ◌++◌, map}
use Rattle.laws.proofs.Parts.{and_first, and_second}
use Rattle.terms.specs.Letters.{of_histories}
use Rattle.terms.specs.Limits.{last_number}
use Rattle.conflict.specs.declared.action.Kind.{Kind}
use Rattle.conflict.specs.declared.action.Kind.TheVariants.{Read, Write, Increment}
use Rattle.conflict.specs.declared.action.Mark.{Mark}
use Rattle.conflict.specs.declared.action.Mark.TheVariants.{Commit as commits, GiveUp as gives_up, Back as goes_back}
use Rattle.conflict.specs.declared.action.Event.{Event}
use Rattle.conflict.specs.declared.action.Event.TheVariants.{Does, Ends}
use Rattle.conflict.specs.Modes.{recorded}
use Rattle.conflict.specs.History.{History}
use Rattle.conflict.proofs.Clauses.{records_read, records_write, records_increment}
use Rattle.text_rules.specs.Lines.{read_line, good}
use Rattle.text_rules.specs.EventRecords.{ask_by, mark_letter, event_line, within, all_within}
use Rattle.text_rules.proofs.EventsRead.{reads_action, reads_mark}
use Rattle.judge_rules.specs.HistoryText.{event_of, events_in}

-- a kind's letter asks for that kind
kind_back : (k : Kind) → recorded (ask_by k) ≡ k
unfolding ask_by
kind_back Read = records_read
kind_back Write = records_write
kind_back Increment = records_increment

-- a mark's letter says that mark
mark_back : (m : Mark) (j : ℕ) → event_of (good (mark_letter m) j 0) ≡ Ends m j ∷ []
unfolding event_of mark_letter
mark_back commits j = refl
mark_back gives_up j = refl
mark_back goes_back j = refl

-- a record says its event
says_event : (e : Event) → within last_number e ≡ true → event_of (read_line of_histories (event_line e)) ≡ e ∷ []
unfolding event_of
says_event (Does a) w =
    ap event_of (reads_action a w) ∙ ap (λ k. Does (record { kind = k; job = a.job; cell = a.cell }) ∷ []) (kind_back a.kind)
says_event (Ends m j) w = ap event_of (reads_mark m j w) ∙ mark_back m j

-- the records of a history say it
pub records_say : (h : History) → all_within last_number h ≡ true → events_in (map (λ e. read_line of_histories (event_line e)) h) ≡ h
unfolding events_in all_within
records_say [] w = refl
records_say (e ∷ h) w = ap₂ (λ x y. x ++ y) (says_event e (and_first (within last_number e) (all_within last_number h) w)) (records_say h (and_second (within last_number e) (all_within last_number h) w))
