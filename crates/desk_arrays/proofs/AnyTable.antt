-- Any other table that follows the arrays keeps every promise, and gives equal answers, wakes and histories for every sequence of requests.
-- Assumes nothing.
use Prim.Native.Nat.{ℕ, ◌<◌, ◌≤◌}
use mathlib.Core.Path.{◌≡◌}
use Rattle.terms.specs.Limits.{last_number}
use Rattle.conflict.specs.History.{History}
use Rattle.desks.specs.Stepping.{Stepping}
use Rattle.desks.specs.Started.{StartedOn}
use Rattle.desks.specs.Course.{course}
use Rattle.desks.specs.Follows.{Follows}
use Rattle.desk_rules.specs.Promises.{Promises}
use Rattle.desks.proofs.Following.{follows_on, show_the_same}
use Rattle.desk_rules.proofs.OneCourse.{keeps_promises}
use Rattle.desk_arrays.specs.declared.state.Desk.{Desk}
use Rattle.desk_arrays.specs.Steps.{empty_desk}
use Rattle.desk_arrays.specs.Seen.{view, on_arrays, running}
use Rattle.desk_arrays.proofs.Faithful.{faithful}

module _ {T : Type 0} {unpack : T → Desk} {does : Stepping T} {new : ℕ → T} (f : Follows unpack does new on_arrays empty_desk) where
  -- it keeps every promise
  pub table_promises : {d : T} {h : History} → StartedOn does new d h → Promises h (course (λ d. view (unpack d)) does d)
  table_promises = keeps_promises (follows_on f faithful)

  -- and shows what the arrays show
  pub table_same : (n : ℕ) → 0 < n → n ≤ last_number → course (λ d. view (unpack d)) does (new n) ≡ running (empty_desk n)
  table_same = show_the_same (follows_on f faithful) faithful
