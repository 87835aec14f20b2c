-- What the history records of a step, by its request and its answer, on any desk; and that a mark stands before the records of the wakes (01, Lines; 01, Slips to rule out, 5).
-- Assumes nothing.
use Rattle.std.specs.Prelude.{Option, None, Some}
use Prim.Native.Nat.{ℕ}
use mathlib.Core.Path.{◌≡◌, refl, ap, ◌∙◌}
use mathlib.Core.Bool.{true}
use mathlib.Core.List.{List, [], ◌∷◌, ◌++◌}
use Rattle.terms.specs.declared.letters.Letter.{Letter}
use Rattle.terms.specs.declared.letters.Ask.{Ask}
use Rattle.terms.specs.declared.letters.Letter.TheVariants.{Begin, Commit as commit, GiveUp as give-up, Retry, Back as no-request, Asks}
use Rattle.terms.specs.Letters.{letter_of}
use Rattle.conflict.specs.declared.action.Action.{Action}
use Rattle.conflict.specs.declared.action.Mark.TheVariants.{Commit, GiveUp, Back}
use Rattle.conflict.specs.declared.action.Event.TheVariants.{Does, Ends}
use Rattle.conflict.specs.Modes.{recorded as done}
use Rattle.conflict.specs.History.{History}
use Rattle.desks.specs.declared.Answer.{Answer}
use Rattle.desks.specs.declared.Answer.TheVariants.{Go, Wait, Back as sent_back, No}
use Rattle.desks.specs.Request.{Request}
use Rattle.desks.specs.Stepping.{Stepping}
use Rattle.desks.specs.Records.{went_by, own_records, wake_records, records_of}
use Rattle.desks.specs.Course.{course}
use Rattle.desks.specs.Recorded.{only_actions, MarkFirst, no_mark, mark, Recorded}

-- the records of wakes are only actions
wakes_actions : (wakes : List Action) → only_actions (wake_records wakes) ≡ true
unfolding wake_records only_actions
wakes_actions [] = refl
wakes_actions (a ∷ rest) = wakes_actions rest

-- a request that goes writes only actions, or a mark first
went_first : (r : Request) (j : ℕ) (wakes : List Action) (l : Option Letter) → MarkFirst (went_by r j l ++ wake_records wakes)
went_first r j wakes None = unfold went_by in no_mark (wakes_actions wakes)
went_first r j wakes (Some no-request) = unfold went_by in no_mark (wakes_actions wakes)
went_first r j wakes (Some Begin) = unfold went_by in no_mark (wakes_actions wakes)
went_first r j wakes (Some commit) = unfold went_by in mark Commit j (wakes_actions wakes)
went_first r j wakes (Some give-up) = unfold went_by in mark GiveUp j (wakes_actions wakes)
went_first r j wakes (Some Retry) = unfold went_by in no_mark (wakes_actions wakes)
went_first r j wakes (Some (Asks a)) = unfold went_by only_actions in no_mark (wakes_actions wakes)

-- A MARK STANDS BEFORE THE WAKES of its step, whatever the answer, and no other step writes one (01, Lines)
pub mark_first : (r : Request) (said : Answer) (wakes : List Action) → MarkFirst (records_of r said wakes)
unfolding records_of
mark_first r (Go j) wakes = unfold own_records in went_first r j wakes (letter_of r.kind)
mark_first r (Wait j) wakes = unfold own_records in no_mark (wakes_actions wakes)
mark_first r (sent_back j) wakes = unfold own_records in mark Back j (wakes_actions wakes)
mark_first r (No why) wakes = unfold own_records in no_mark (wakes_actions wakes)

-- the records of a step are its own and then those of its wakes
records : (r : Request) (said : Answer) (wakes : List Action) (h : History) → own_records r said ≡ h → records_of r said wakes ≡ h ++ wake_records wakes
unfolding records_of
records r said wakes h e = ap (λ x. x ++ wake_records wakes) e

-- the records of a request that goes
went : (r : Request) (said : Answer) (wakes : List Action) (l : Option Letter) (j : ℕ) → letter_of r.kind ≡ l → said ≡ Go j → records_of r said wakes ≡ went_by r j l ++ wake_records wakes
went r said wakes l j e g = records r said wakes (went_by r j l) (ap (own_records r) g ∙ (unfold own_records in ap (went_by r j) e))

-- what is promised of the records of a step, on a desk where a request that asks, begins or retries and goes wakes no job, and a wait wakes no job
pub recorded_by :
    {D : Type 0} (step : Stepping D) (d : D) (r : Request) →
    ((a : Ask) (j : ℕ) → letter_of r.kind ≡ Some (Asks a) → (step d r).said ≡ Go j → (step d r).wakes ≡ []) →
    ((j : ℕ) → letter_of r.kind ≡ Some Begin → (step d r).said ≡ Go j → (step d r).wakes ≡ []) →
    ((j : ℕ) → letter_of r.kind ≡ Some Retry → (step d r).said ≡ Go j → (step d r).wakes ≡ []) →
    ((j : ℕ) → (step d r).said ≡ Wait j → (step d r).wakes ≡ []) →
    Recorded (course (λ e. e) step d) r
unfolding went_by own_records wake_records
recorded_by step d r asks begins retries waits = record {
  mark_first = mark_first r (step d r).said (step d r).wakes;
  commit_records = λ j. went r _ _ (Some commit) j;
  give_up_records = λ j. went r _ _ (Some give-up) j;
  back_records = λ j g. records r _ _ (Ends Back j ∷ []) (ap (own_records r) g);
  ask_records = λ a j e g. went r _ _ (Some (Asks a)) j e g ∙ ap (λ w. Does (record { kind = done a; job = j; cell = r.cell }) ∷ wake_records w) (asks a j e g);
  begin_records = λ j e g. went r _ _ (Some Begin) j e g ∙ ap wake_records (begins j e g);
  retry_records = λ j e g. went r _ _ (Some Retry) j e g ∙ ap wake_records (retries j e g);
  wait_records = λ j g. records r _ _ [] (ap (own_records r) g) ∙ ap wake_records (waits j g);
}
