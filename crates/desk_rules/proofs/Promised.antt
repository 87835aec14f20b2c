-- The promises, for every started desk of the paper: its families, each proved in the file that its line names.
-- Assumes nothing.
use Prim.Native.Nat.{ℕ, ◌<◌, ◌≤◌}
use mathlib.Core.List.{List}
use Rattle.terms.specs.Limits.{last_number}
use Rattle.conflict.specs.History.{History}
use Rattle.desks.specs.Request.{Request}
use Rattle.desk_rules.specs.Desk.{Desk, fresh_desk}
use Rattle.desks.specs.Started.{fresh}
use Rattle.desk_rules.specs.Step.{Started}
use Rattle.desk_rules.specs.Requests.{desk_after, history_of}
use Rattle.desk_rules.specs.Course.{from}
use Rattle.desk_rules.specs.Promises.{Promises}
use Rattle.desks.proofs.StartedThrough.{run_started}
use Rattle.desk_rules.proofs.Refusing.{refuses}
use Rattle.desk_rules.proofs.AsWorded.{worded}
use Rattle.desk_rules.proofs.StepEffects.{effects}
use Rattle.desk_rules.proofs.Deciding.{decides}
use Rattle.desk_rules.proofs.WakesTold.{wakes}
use Rattle.desk_rules.proofs.Records.{recorded}
use Rattle.desk_rules.proofs.NumberLimits.{limits}
use Rattle.desk_rules.proofs.Numbers.{numbers}
use Rattle.desk_rules.proofs.UnderLock.{locking}
use Rattle.desk_rules.proofs.Serial.{serial_history}
use Rattle.desk_rules.proofs.ServedInTime.{service}
use Rattle.desk_rules.proofs.Oldest.{ages}
use Rattle.desk_rules.proofs.UpdateLocks.{update}
use Rattle.desk_rules.proofs.ChainsKept.{chains}

-- every started desk of the paper keeps the promises
pub promised : {d : Desk} {h : History} → Started d h → Promises h (from d)
promised {d} s = record {
  refuses = refuses d;
  worded = worded s;
  effects = effects s;
  decides = decides s;
  wakes = wakes s;
  recorded = recorded d;
  limits = limits s;
  numbers = numbers d;
  locking = locking s;
  serial = serial_history s;
  service = service s;
  ages = ages s;
  update = update s;
  chains = chains s;
}

-- and so does a fresh one after any requests
pub promised_from_fresh : (n : ℕ) → 0 < n → n ≤ last_number → (rs : List Request) → Promises (history_of (fresh_desk n) rs) (from (desk_after (fresh_desk n) rs))
promised_from_fresh n some last rs = promised (run_started (fresh n some last) rs)
