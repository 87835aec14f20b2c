-- The clerk's two desks follow the one that the method names: under locks they show what the lock desk shows, and under timestamps what the timestamp desk shows (02, No. 6).
-- Assumes nothing.
use mathlib.Core.Path.{◌≡◌, refl, ap, ◌∙◌}
use Rattle.conflict.specs.History.{History}
use Rattle.desks.specs.Request.{Request}
use Rattle.desks.specs.Started.{StartedOn, fresh, after}
use Rattle.desks.specs.Course.{shown}
use Rattle.desks.specs.Follows.{Follows}
use Rattle.desk_arrays.specs.Steps.{empty_desk}
use Rattle.desk_arrays.specs.Seen.{on_arrays}
use Rattle.stamp_arrays.specs.Steps.{empty_stamps}
use Rattle.stamp_arrays.specs.Seen.{on_stamps}
use Rattle.program_rules.specs.declared.Desks.{Desks}
use Rattle.program_rules.specs.declared.Method.{Method}
use Rattle.program_rules.specs.declared.Method.TheVariants.{Locks, Stamps}
use Rattle.program_rules.specs.Desks.{new_desks, step_by, on_desks}

-- a step leaves the method as it is
step_method : (m : Method) (d : Desks) (r : Request) → (step_by m d r).desk.method ≡ m
unfolding step_by
step_method Locks d r = refl
step_method Stamps d r = refl

-- so desks keep the method that they were started with
pub started_method : {m : Method} {d : Desks} {h : History} → StartedOn on_desks (new_desks m) d h → d.method ≡ m
unfolding new_desks on_desks
started_method (fresh n l u) = refl
started_method (after {d = d} s r) = step_method d.method d r ∙ started_method s

-- under locks a step is the lock desk's
locks_step : (d : Desks) (r : Request) → d.method ≡ Locks → shown (λ (e : Desks). e.locks) (on_desks d r) ≡ on_arrays d.locks r
unfolding on_desks step_by
locks_step d r e = ap (λ m. shown (λ (x : Desks). x.locks) (step_by m d r)) e

-- and under timestamps the timestamp desk's
stamps_step : (d : Desks) (r : Request) → d.method ≡ Stamps → shown (λ (e : Desks). e.stamps) (on_desks d r) ≡ on_stamps d.stamps r
unfolding on_desks step_by
stamps_step d r e = ap (λ m. shown (λ (x : Desks). x.stamps) (step_by m d r)) e

-- BY LOCKS the two desks do as the lock desk does
pub by_locks : Follows (λ d. d.locks) on_desks (new_desks Locks) on_arrays empty_desk
unfolding new_desks
by_locks = record { starts = λ n l u. refl; same = λ d h s r. locks_step d r (started_method s) }

-- BY TIMESTAMPS they do as the timestamp desk does
pub by_stamps : Follows (λ d. d.stamps) on_desks (new_desks Stamps) on_stamps empty_stamps
unfolding new_desks
by_stamps = record { starts = λ n l u. refl; same = λ d h s r. stamps_step d r (started_method s) }
