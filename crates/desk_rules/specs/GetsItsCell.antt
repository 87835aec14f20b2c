-- The second sentence of demand 3, whole, for one request that is answered wait. All of it speaks of the desk as it was when the job asked.
use Rattle.std.specs.Prelude.{ℕ, ◌≤◌, ◌≡◌, true, false, List, [], ◌∷◌, ◌++◌, length, Some}
use Rattle.terms.specs.declared.letters.Ask.{Ask}
use Rattle.terms.specs.declared.letters.Letter.TheVariants.{Asks}
use Rattle.terms.specs.Letters.{letter_of}
use Rattle.conflict.specs.Runs.{ended}
use Rattle.laws.specs.Lists.{member, distinct}
use Rattle.desks.specs.Request.{Request}
use Rattle.desks.specs.Course.{now, later}
use Rattle.desk_rules.specs.Desk.{Desk, is_live}
use Rattle.desk_rules.specs.Asked.{asker, asked_there}
use Rattle.desk_rules.specs.Course.{Course}
use Rattle.desk_rules.specs.Waiting.{WasInWay, Patient, Granted}

-- when the request's job asked, at most n jobs held the cell or stood ahead: a list of such jobs that names none twice has at most n (demand 3)
abbrev pub AtMostWereInWay : ℕ → Desk → Request → Type 0
AtMostWereInWay n d r = (is : List ℕ) → distinct is ≡ true → ((i : ℕ) → member i is ≡ true → WasInWay d r i) → length is ≤ n

-- for every job that held the cell or stood ahead when the request's job asked, its run ends in the requests after it: what they write has a c, an a or a k of that job
abbrev pub TheirRunsEnd : Course → Request → List Request → Type 0
TheirRunsEnd k r rs = (i : ℕ) → WasInWay (now k) r i → ended i (k.wrote (r ∷ []) rs) ≡ true

-- one of the requests after it gives the job its cell in the mode it asked for, at the latest in the step that ends the last of those runs
pub record GotItsCell (k : Course) (r : Request) (a : Ask) (rs : List Request) : Type 0 where
  pub before : List Request
  pub request : Request
  pub rest : List Request
  pub split : rs ≡ before ++ request ∷ rest
  -- until this step, some job that held the cell or stood ahead when it asked had not ended its run
  pub in_time : (i : ℕ) × WasInWay (now k) r i × (ended i (k.wrote (r ∷ []) before) ≡ false)
  -- it is among the wakes of this step, it runs, and it holds the cell in the mode that it asked for
  pub granted : Granted (k.does (r ∷ before) request) r.cell (asker r a) (asked_there (now k) r a)

-- for a request that is answered wait (demand 3)
pub record GetsItsCell (k : Course) (r : Request) : Type 0 where
  pub ask : Ask
  pub asks : letter_of r.kind ≡ Some (Asks ask)
  -- the other jobs that held that cell or stood ahead when it asked are each in a run, and there are at most 31 of them
  pub in_a_run : (i : ℕ) → WasInWay (now k) r i → is_live ((now k).stat i) ≡ true
  pub at_most_31 : AtMostWereInWay 31 (now k) r
  -- whatever is requested from then on: if the job does not give up while it waits and all those runs end, it got its cell in the mode it asked for, at the latest in the step that ended the last of them
  pub got : (rs : List Request) → Patient (later k r) r.cell (asker r ask) rs → TheirRunsEnd k r rs → GotItsCell k r ask rs
