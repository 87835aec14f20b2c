-- THE REQUEST'S DESK KEEPS EVERY PROMISE: each promise, by the file that its line names (02, No. 6).
-- Assumes nothing.
use Prim.Native.Nat.{ℕ, ◌<◌, ◌≤◌}
use mathlib.Core.List.{List}
use Rattle.terms.specs.Limits.{last_number}
use Rattle.conflict.specs.History.{History}
use Rattle.desks.specs.Request.{Request}
use Rattle.desks.specs.Stepping.{through}
use Rattle.desks.specs.Requests.{writes}
use Rattle.desks.specs.Started.{fresh}
use Rattle.desks.proofs.StartedThrough.{run_started}
use Rattle.stamp_rules.specs.Desk.{Desk, fresh_desk}
use Rattle.stamp_rules.specs.Step.{step, Started}
use Rattle.stamp_rules.specs.Course.{from}
use Rattle.stamp_rules.specs.Promises.{Promises}
use Rattle.stamp_rules.proofs.Refusing.{refuses}
use Rattle.stamp_rules.proofs.AsWorded.{worded}
use Rattle.stamp_rules.proofs.Records.{recorded}
use Rattle.stamp_rules.proofs.Deciding.{decides}
use Rattle.stamp_rules.proofs.Effecting.{effects}
use Rattle.stamp_rules.proofs.Quiet.{quiet}
use Rattle.stamp_rules.proofs.Stamping.{stamped}
use Rattle.stamp_rules.proofs.Serial.{number_history}
use Rattle.stamp_rules.proofs.NumberLimits.{limits}
use Rattle.stamp_rules.proofs.Numbers.{numbers}

-- every started desk of the request keeps the promises
pub promised : {d : Desk} {h : History} → Started d h → Promises h (from d)
promised {d} s = record {
  refuses = refuses d;
  worded = worded s;
  decides = decides d;
  effects = effects s;
  recorded = recorded d;
  quiet = quiet d;
  stamped = stamped s;
  history = number_history s;
  limits = limits s;
  numbers = numbers d;
}

-- and so does a fresh one after any requests
pub promised_from_fresh : (n : ℕ) → 0 < n → n ≤ last_number → (rs : List Request) → Promises (writes step (fresh_desk n) rs) (from (through step (fresh_desk n) rs))
promised_from_fresh n some last rs = promised (run_started (fresh n some last) rs)
