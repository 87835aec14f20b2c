-- THE TIE: a desk that is kept in another way and does what the paper's desk does keeps every promise, since it shows what the paper's desk shows (`Following.antt` of `desks`).
-- Assumes nothing.
use Prim.Native.Nat.{ℕ, ◌<◌, ◌≤◌}
use mathlib.Core.Path.{sym, subst}
use Rattle.terms.specs.Limits.{last_number}
use Rattle.conflict.specs.History.{History}
use Rattle.desks.specs.Stepping.{Stepping}
use Rattle.desks.specs.Started.{StartedOn}
use Rattle.desks.specs.Course.{course}
use Rattle.desks.specs.Numbers.{NumbersFrom}
use Rattle.desks.proofs.Following.{started_course, keeps_too}
use Rattle.desk_rules.specs.Desk.{Desk}
use Rattle.desk_rules.specs.Faithful.{Faithful}
use Rattle.desk_rules.specs.Promises.{Promises}
use Rattle.desk_rules.proofs.Promised.{promised}
use Rattle.desk_rules.proofs.NumberLimits.{numbers_from}

module _ {S : Type 0} {view : S → Desk} {does : Stepping S} {new : ℕ → S} (f : Faithful view does new) where
  -- from a start it keeps what is promised of the numbers
  pub start_promises : (n : ℕ) → 0 < n → n ≤ last_number → NumbersFrom (λ d. d.next) n (course view does (new n))
  start_promises n l u = subst (NumbersFrom (λ d. d.next) n) (sym (started_course f n l u)) (numbers_from n u)

  -- and it keeps every promise
  pub keeps_promises : {d : S} {h : History} → StartedOn does new d h → Promises h (course view does d)
  keeps_promises = keeps_too f Promises (λ _. promised)
