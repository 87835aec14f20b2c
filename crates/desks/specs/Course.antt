-- All that a desk shows from now on, however it is kept. Promises speak of this, so each is said once for the paper's desk and for every desk that runs.
use Rattle.std.specs.Prelude.{ℕ, List, [], ◌∷◌}
use Rattle.conflict.specs.History.{History}
use Rattle.desks.specs.Request.{Request}
use Rattle.desks.specs.Stepping.{Stepped, Stepping, through}
use Rattle.desks.specs.Records.{records_of}
use Rattle.desks.specs.Requests.{gives, writes}

-- what a desk shows, as desks of the paper: the desk after any requests; what the step of one more request then leaves and tells; the history that further requests then write; and the numbers that they give
pub record Course (D : Type 0) : Type 0 where
  pub seen : List Request → D
  pub does : List Request → Request → Stepped D
  pub wrote : List Request → List Request → History
  pub gave : List Request → List Request → List ℕ

-- the desk as it is now
abbrev pub now : {D : Type 0} → Course D → D
now k = k.seen []

-- what the step of a request leaves and tells now
abbrev pub to : {D : Type 0} → Course D → Request → Stepped D
to k = k.does []

-- the history records of that step
abbrev pub records : {D : Type 0} → Course D → Request → History
records k r = records_of r (to k r).said (to k r).wakes

-- what is shown after a request
abbrev pub later : {D : Type 0} → Course D → Request → Course D
later k r =
    record {
      seen = λ rs. k.seen (r ∷ rs);
      does = λ rs. k.does (r ∷ rs);
      wrote = λ rs. k.wrote (r ∷ rs);
      gave = λ rs. k.gave (r ∷ rs);
    }

-- a step as it is seen: the desk seen in what the step leaves, with its answer and its wakes
abbrev pub shown : {S T : Type 0} → (S → T) → Stepped S → Stepped T
shown see o = record { desk = see o.desk; said = o.said; wakes = o.wakes }

-- what a desk shows, given the paper's desk that is seen in each of its states, and its step
abbrev pub course : {S D : Type 0} → (S → D) → Stepping S → S → Course D
course view step d =
    record {
      seen = λ rs. view (through step d rs);
      does = λ rs r. shown view (step (through step d rs) r);
      wrote = λ rs. writes step (through step d rs);
      gave = λ rs. gives step (through step d rs);
    }
