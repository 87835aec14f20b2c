-- What never happens on a timestamp desk, started or not: no job waits, no job is woken, and 4, 5 and 8 are never given (02, No. 6).
-- Assumes nothing.
use Prim.Native.Nat.{ℕ}
use mathlib.Core.Path.{◌≡◌, refl}
use mathlib.Core.Logic.{◌≢◌}
use mathlib.Core.List.{[]}
use Rattle.desks.specs.declared.Answer.TheVariants.{Wait}
use Rattle.desks.specs.Request.{Request}
use Rattle.desks.specs.Begin.{refused}
use Rattle.desks.proofs.Answers.{other-answer}
use Rattle.stamp_rules.specs.Desk.{Desk}
use Rattle.stamp_rules.specs.Rules.{Outcome}
use Rattle.stamp_rules.specs.Step.{step}
use Rattle.stamp_rules.specs.Course.{from}
use Rattle.stamp_rules.specs.Quiet.{Quiet}
use Rattle.stamp_rules.specs.Moves.{Moved, refuses, begins, closes, goes, goes_back}
use Rattle.stamp_rules.proofs.Moved.{step_moved}
use Rattle.stamp_rules.proofs.Refusing.{only_these}

module _ (d : Desk) (r : Request) where
  -- no move makes a job wait
  moved_no_wait : {o : Outcome} (j : ℕ) → Moved d r o → o.said ≢ Wait j
  unfolding refused
  moved_no_wait j (refuses why _) e = other-answer e refl
  moved_no_wait j (begins l n m) e = other-answer e refl
  moved_no_wait j (closes l o) e = other-answer e refl
  moved_no_wait j (goes a k f) e = other-answer e refl
  moved_no_wait j (goes_back a k t) e = other-answer e refl

  -- no move wakes a job
  moved_no_wakes : {o : Outcome} → Moved d r o → o.wakes ≡ []
  unfolding refused
  moved_no_wakes (refuses why _) = refl
  moved_no_wakes (begins l n m) = refl
  moved_no_wakes (closes l o) = refl
  moved_no_wakes (goes a k f) = refl
  moved_no_wakes (goes_back a k t) = refl

-- no step wakes a job
pub nobody_woken : (d : Desk) (r : Request) → (step d r).wakes ≡ []
nobody_woken d r = moved_no_wakes d r (step_moved d r)

-- the promise of what never happens
pub quiet : (d : Desk) (r : Request) → Quiet (from d) r
quiet d r = record { never_waits = λ j. moved_no_wait d r j (step_moved d r); never_wakes = nobody_woken d r; only_these = only_these d r }
