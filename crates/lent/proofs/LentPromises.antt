-- EVERY PROMISE HOLDS OF A DESK LENT ALL NIGHT: after any calls on one started desk, answers, wakes, desk and history are those of the steps by value, and every promise of the desk's rules holds (02, No. 7).
-- Assumes nothing.
use Prim.Native.Nat.{ℕ, ◌<◌, ◌≤◌}
use mathlib.Core.Path.{◌≡◌, refl, ap, ◌∙◌}
use mathlib.Core.List.{List, ◌++◌, map}
use Rattle.terms.specs.Limits.{last_number}
use Rattle.conflict.specs.History.{History}
use Rattle.desks.specs.Request.{Request}
use Rattle.desks.specs.Told.{answers_of}
use Rattle.desk_rules.specs.Promises as by_locks
use Rattle.desk_rules.specs.Desk as paper
use Rattle.desk_rules.specs.Step as paper-step
use Rattle.desk_rules.proofs.Promised as by-locks-kept
use Rattle.desk_arrays.specs.declared.state.Desk.{Desk}
use Rattle.desk_arrays.specs.declared.state.Outcome.{Outcome}
use Rattle.desk_arrays.specs.Steps as locks
use Rattle.desk_arrays.specs.Steps.{empty_desk}
use Rattle.desk_arrays.specs.Seen as arrays
use Rattle.desk_arrays.proofs.Faithful as arrays-follow
use Rattle.desk_arrays.proofs.DeskPromises.{desk_answers}
use Rattle.stamp_rules.specs.Promises as by_stamps
use Rattle.stamp_rules.specs.Desk as request
use Rattle.stamp_rules.specs.Step as request-step
use Rattle.stamp_rules.proofs.Promised as by-stamps-kept
use Rattle.stamp_arrays.specs.declared.state.Stamps.{Stamps}
use Rattle.stamp_arrays.specs.declared.state.Stamped.{Stamped}
use Rattle.stamp_arrays.specs.Steps as by_number_lem
use Rattle.stamp_arrays.specs.Steps.{empty_stamps}
use Rattle.stamp_arrays.specs.Seen as stamps
use Rattle.stamp_arrays.proofs.Faithful as stamps-follow
use Rattle.stamp_arrays.proofs.StampPromises.{stamp_answers}
use Rattle.lent.specs.Entries.{OnLocks, OnStamps, locks_told, stamps_told}
use Rattle.lent.specs.Calls.{Lent, left_by, answers_by, wrote_by, AsSteps}
use Rattle.lent.proofs.Calling.{calls_for, as_steps, lent_keeps}

-- any requests to any desk have such calls
pub locks_calls : (d : Desk) (rs : List Request) → (os : List Outcome) × Lent (λ o. o.desk) OnLocks d rs os
locks_calls = calls_for (λ o. o.desk) (λ d r. locks.step_of d r.kind r.job r.cell) (λ d r. refl)

pub stamps_calls : (d : Stamps) (rs : List Request) → (os : List Stamped) × Lent (λ o. o.stamps) OnStamps d rs os
stamps_calls = calls_for (λ o. o.stamps) (λ d r. by_number_lem.step_of d r.kind r.job r.cell) (λ d r. refl)

-- the lock desk
pub lent_locks : {d : Desk} {h : History} {rs : List Request} {os : List Outcome} → arrays.Started d h → Lent (λ o. o.desk) OnLocks d rs os
    → AsSteps arrays.on_arrays d rs (map locks_told os) × by_locks.Promises (h ++ wrote_by rs (map locks_told os)) (arrays.running (left_by d (map locks_told os)))
lent_locks s l = (as_steps (λ d r o. ap locks_told) l, lent_keeps (λ d r o. ap locks_told) arrays-follow.faithful by_locks.Promises (λ _ _. by-locks-kept.promised) s l)

-- the timestamp desk
pub lent_stamps : {d : Stamps} {h : History} {rs : List Request} {os : List Stamped} → stamps.Started d h → Lent (λ o. o.stamps) OnStamps d rs os
    → AsSteps stamps.on_stamps d rs (map stamps_told os) × by_stamps.Promises (h ++ wrote_by rs (map stamps_told os)) (stamps.running (left_by d (map stamps_told os)))
lent_stamps s l = (as_steps (λ d r o. ap stamps_told) l, lent_keeps (λ d r o. ap stamps_told) stamps-follow.faithful by_stamps.Promises (λ _ _. by-stamps-kept.promised) s l)

module _ (n : ℕ) (some : 0 < n) (last : n ≤ last_number) where
  -- from a start on the calls on the lock desk get the answers that the paper's desk gives
  pub lent_answers : {rs : List Request} {os : List Outcome} → Lent (λ o. o.desk) OnLocks (empty_desk n) rs os → answers_by (map locks_told os) ≡ answers_of paper-step.step (paper.fresh_desk n) rs
  lent_answers {rs} l = (as_steps (λ d r o. ap locks_told) l).answers ∙ desk_answers n some last rs

  -- and those on the timestamp desk what the request's desk gives
  pub lent_stamp_answers : {rs : List Request} {os : List Stamped} → Lent (λ o. o.stamps) OnStamps (empty_stamps n) rs os → answers_by (map stamps_told os) ≡ answers_of request-step.step (request.fresh_desk n) rs
  lent_stamp_answers {rs} l = (as_steps (λ d r o. ap stamps_told) l).answers ∙ stamp_answers n some last rs
