-- The records of the wakes: each belongs to a wake, and a job has one exactly if it is woken.
-- Assumes nothing.
use Prim.Native.Nat.{ℕ}
use mathlib.Core.Path.{◌≡◌, ap, ◌∙◌}
use mathlib.Core.Bool.{◌||◌}
use mathlib.Core.List.{List, [], ◌∷◌}
use lib.Dec.{eqb}
use Rattle.conflict.proofs.OneEvent.{same_action, line_none, line_does}
use Rattle.conflict.specs.declared.action.Action.{Action}
use Rattle.conflict.specs.declared.action.Event.TheVariants.{Does}
use Rattle.conflict.specs.History.{line_of}
use Rattle.laws.specs.Standing.{In, first, later}
use Rattle.desk_rules.specs.Rules.{is_woken}
use Rattle.desks.specs.Records.{wake_records}
use Rattle.laws.proofs.Standing.{in_none, in_split, is_first}

-- an action whose record stands among theirs is one of the wakes
pub recorded_wake : {a : Action} (xs : List Action) → In (Does a) (wake_records xs) → In a xs
unfolding wake_records
recorded_wake [] h = in_none h
recorded_wake {a} (x ∷ xs) h = in_split h (λ e. is_first (same_action e)) (λ k. later (recorded_wake xs k))

-- and each wake has its record among them
pub wake_recorded : {a : Action} {xs : List Action} → In a xs → In (Does a) (wake_records xs)
unfolding wake_records
wake_recorded first = first
wake_recorded (later h) = later (wake_recorded h)

-- a line of a job stands among the records exactly if the job is among the wakes
pub line_woken : (j : ℕ) (xs : List Action) → line_of j (wake_records xs) ≡ is_woken j xs
unfolding wake_records is_woken
line_woken j [] = line_none j
line_woken j (a ∷ xs) = line_does j a (wake_records xs) ∙ ap (λ b. eqb a.job j || b) (line_woken j xs)
