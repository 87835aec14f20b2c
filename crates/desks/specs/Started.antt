-- Started desks, however they are kept: fresh at a first number, and changed by their steps alone (01, How much a contract says).
use Rattle.std.specs.Prelude.{ℕ, ◌<◌, ◌≤◌, ◌≡◌, List, [], ◌++◌}
use Rattle.terms.specs.Limits.{last_number}
use Rattle.conflict.specs.History.{History}
use Rattle.desks.specs.Request.{Request}
use Rattle.desks.specs.Stepping.{Stepping, through}
use Rattle.desks.specs.Records.{records_by}
use Rattle.desks.specs.Requests.{writes}

-- a started desk and the history it has written: fresh at a number from 1 to 4,294,967,295, or one step from a started desk (01, How much a contract says)
pub data StartedOn {S : Type 0} (step : Stepping S) (new : ℕ → S) : S → History → Type 0 where
  fresh : (n : ℕ) → 0 < n → n ≤ last_number → StartedOn step new (new n) []
  after : {d : S} {h : History} → StartedOn step new d h → (r : Request) → StartedOn step new (step d r).desk (h ++ records_by step d r)

-- a desk and a history that requests to a fresh desk lead to
pub record ReachedOn {S : Type 0} (step : Stepping S) (new : ℕ → S) (d : S) (h : History) : Type 0 where
  pub first : ℕ
  pub least : 0 < first
  pub most : first ≤ last_number
  pub requests : List Request
  pub desk : d ≡ through step (new first) requests
  pub history : h ≡ writes step (new first) requests
