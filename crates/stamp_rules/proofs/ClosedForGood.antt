-- A job that is closed, by commit, by give-up or by being sent back, stays closed: its number is never given again (02, No. 6; 01, Jobs and their numbers).
-- Assumes nothing.
use Prim.Native.Nat.{ℕ, ◌<◌}
use mathlib.Core.Path.{◌≡◌, ap, ◌∙◌}
use mathlib.Core.Logic.{◌≢◌}
use mathlib.Core.Bool.{true, false}
use mathlib.Core.List.{List, [], ◌∷◌}
use native.Mathlib.Omega.{arith}
use Rattle.laws.specs.Choice.{not_both}
use Rattle.desks.specs.Request.{Request}
use Rattle.desks.specs.Stepping.{through}
use Rattle.desks.specs.Begin.{refused}
use Rattle.stamp_rules.specs.Desk.{Desk, is_open}
use Rattle.stamp_rules.specs.Rules.{Outcome}
use Rattle.stamp_rules.specs.Step.{step}
use Rattle.stamp_rules.specs.Moves.{Moved, refuses, begins, closes, goes, goes_back}
use Rattle.stamp_rules.proofs.Moved.{step_moved}
use Rattle.stamp_rules.proofs.Seats.{done_open, new_others, gone_others}
use Rattle.stamp_rules.proofs.Numbers.{next_rises}

module _ (d : Desk) (j : ℕ) (l : j < d.next) (e : is_open d j ≡ false) where
  -- a closed job is not an open one
  other_job : (i : ℕ) → is_open d i ≡ true → j ≢ i
  other_job i o q = not_both (ap (is_open d) q ∙ o) e

  -- nor the next one to be begun
  not_next : j ≢ d.next
  not_next q = omega arith

  -- every move leaves it closed, since its number was given
  moved_closed : {r : Request} {o : Outcome} → Moved d r o → is_open o.desk j ≡ false
  unfolding refused
  moved_closed (refuses why _) = e
  moved_closed (begins b n m) = new_others d _ d.next j not_next ∙ e
  moved_closed {r} (closes b o) = gone_others d r.job j (other_job r.job o) ∙ e
  moved_closed {r} (goes a k f) = done_open d r.job r.cell a j ∙ e
  moved_closed {r} (goes_back a k t) = gone_others d r.job j (other_job r.job k.open_job) ∙ e

-- a closed job whose number was given stays closed
pub closed_stays : (d : Desk) (r : Request) (j : ℕ) → j < d.next → is_open d j ≡ false → is_open (step d r).desk j ≡ false
closed_stays d r j l e = moved_closed d j l e (step_moved d r)

-- through any requests
pub closed_through : (d : Desk) (rs : List Request) (j : ℕ) → j < d.next → is_open d j ≡ false → is_open (through step d rs) j ≡ false
closed_through d [] j l e = e
closed_through d (r ∷ rs) j l e = closed_through (step d r).desk rs j (omega (arith, next_rises d r)) (closed_stays d r j l e)
