-- What a step leaves and writes: nothing, with the cells' numbers as before; the action of a request for a cell that went; or the mark of a job that was closed. Only this file follows the moves for it (01, Lines).
-- Assumes nothing.
use mathlib.Core.Path.{◌≡◌, refl}
use mathlib.Core.Logic.{inl, inr}
use mathlib.Core.Bool.{true, false}
use mathlib.Core.List.{[], ◌∷◌}
use Rattle.terms.specs.declared.letters.Ask.{Ask}
use Rattle.conflict.specs.declared.action.Action.{Action}
use Rattle.conflict.specs.declared.action.Mark.{Mark}
use Rattle.conflict.specs.declared.action.Mark.TheVariants.{Commit, GiveUp, Back}
use Rattle.conflict.specs.declared.action.Event.TheVariants.{Does, Ends}
use Rattle.conflict.specs.Modes.{recorded}
use Rattle.conflict.specs.History.{History}
use Rattle.desks.specs.Request.{Request}
use Rattle.desks.specs.Begin.{refused}
use Rattle.desks.specs.Records.{went_by, own_records, wake_records, records_of, records_by}
use Rattle.stamp_rules.specs.Desk.{Desk, is_open}
use Rattle.stamp_rules.specs.Rules.{Outcome, late, done}
use Rattle.stamp_rules.specs.Step.{step}
use Rattle.stamp_rules.specs.Asked.{Asking, SameStamps}
use Rattle.stamp_rules.specs.Moves.{without, Moved, refuses, begins, closes, goes, goes_back}
use Rattle.stamp_rules.proofs.Moved.{step_moved}

-- the action that a request asks for
abbrev pub asking : Request → Ask → Action
asking r a = record { kind = recorded a; job = r.job; cell = r.cell }

-- what a step leaves, and what it writes
pub data Wrote (d : Desk) (r : Request) : Desk → History → Type 0 where
  nothing : {e : Desk} → SameStamps d e → Wrote d r e []
  action : (a : Ask) → Asking d r a → late d r.job r.cell a ≡ false → Wrote d r (done d r.job r.cell a) (Does (asking r a) ∷ [])
  mark : (m : Mark) → is_open d r.job ≡ true → Wrote d r (without d r.job) (Ends m r.job ∷ [])

module _ {d : Desk} {r : Request} where
  -- every move writes in one of these ways
  moved_wrote : {o : Outcome} → Moved d r o → Wrote d r o.desk (records_of r o.said o.wakes)
  unfolding refused records_of own_records wake_records went_by
  moved_wrote (refuses why _) = nothing (record { readers = λ c. refl; writers = λ c. refl })
  moved_wrote (begins l n m) = rw l (nothing (record { readers = λ c. refl; writers = λ c. refl }))
  moved_wrote (closes (inl l) o) = rw l (mark Commit o)
  moved_wrote (closes (inr l) o) = rw l (mark GiveUp o)
  moved_wrote (goes a k f) = rw k.letter (action a k f)
  moved_wrote (goes_back a k t) = mark Back k.open_job

-- and so does every step
pub step_wrote : (d : Desk) (r : Request) → Wrote d r (step d r).desk (records_by step d r)
unfolding records_by
step_wrote d r = moved_wrote (step_moved d r)
