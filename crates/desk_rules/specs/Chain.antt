-- The chain of a job: the youngest job in its way, the youngest in that one's way, and so on until a job that is running (02, No. 3).
use Rattle.std.specs.Prelude.{ℕ, zero, suc, ◌+◌, ◌≤◌, ◌≡◌, not, ◌&&◌, List, [], ◌∷◌, ◌++◌, map, eqb, ltb}
use Rattle.laws.specs.Choice.{pick}
use Rattle.laws.specs.Lists.{put}
use Rattle.terms.specs.declared.letters.Ask.{Ask}
use Rattle.conflict.specs.declared.modes.Mode.{Mode}
use Rattle.conflict.specs.Modes.{is_free}
use Rattle.desk_rules.specs.Desk.{Status, closed, running, waiting, sentback, Waiter, Desk}
use Rattle.desk_rules.specs.Table.{is_waiting}
use Rattle.desk_rules.specs.Waiting.{InWay}

-- the holders of a cell among these jobs, without job j itself
unfoldable pub other_holders : ℕ → (ℕ → Mode) → List ℕ → List ℕ
other_holders j held [] = []
other_holders j held (i ∷ is) = put (not (eqb i j) && not (is_free (held i))) i (other_holders j held is)

-- the jobs that stand ahead of job j in a queue
unfoldable pub ahead_of : ℕ → List Waiter → List ℕ
ahead_of j [] = []
ahead_of j (w ∷ q) = pick (eqb w.job j) [] (w.job ∷ ahead_of j q)

-- the jobs in the way of job j at a cell: the other holders, and the jobs ahead of it there
unfoldable pub in_way_of : Desk → ℕ → ℕ → List ℕ
in_way_of d j c = other_holders j (d.row c).held d.jobs ++ ahead_of j (d.row c).queue

-- the younger of two jobs: larger is younger
unfoldable pub younger : ℕ → ℕ → ℕ
younger i j = pick (ltb i j) j i

-- the youngest of some jobs; 0, which is not a job's number, if there are none
unfoldable pub youngest_of : List ℕ → ℕ
youngest_of [] = 0
youngest_of (i ∷ is) = younger i (youngest_of is)

-- how many of these jobs are younger than j
unfoldable pub younger_than : ℕ → List ℕ → ℕ
younger_than j [] = 0
younger_than j (i ∷ is) = pick (ltb j i) 1 0 + younger_than j is

-- what follows a job in the chain: if it waits for a cell, what follows from there; if it runs, nothing
unfoldable pub onward : Status → (ℕ → List ℕ) → List ℕ
onward closed on = []
onward running on = []
onward (waiting c a) on = on c
onward sentback on = []

-- the chain of job j with at most this many further looks: j, and if it waits the chain of the youngest job in its way there
unfoldable pub chain_by : ℕ → Desk → ℕ → List ℕ
chain_by zero d j = j ∷ []
chain_by (suc n) d j = j ∷ onward (d.stat j) (λ c. chain_by n d (youngest_of (in_way_of d j c)))

-- the chain of job j: numbers rise along it, so each further look has fewer younger jobs left, and there are no more looks than younger jobs (02, No. 3)
unfoldable pub chain_of : Desk → ℕ → List ℕ
chain_of d j = chain_by (younger_than j d.jobs) d j

-- job i is next after a waiter of a cell: it is in the waiter's way there, and is the youngest of those
pub record Next (d : Desk) (c : ℕ) (w : Waiter) (i : ℕ) : Type 0 where
  pub way : InWay (d.row c) w i
  pub youngest : (k : ℕ) → InWay (d.row c) w k → k ≤ i

-- the request in its words, as a relation: a running job's chain is itself, and a waiting job's is itself and then the chain of the next job
pub data IsChain (d : Desk) : ℕ → List ℕ → Type 0 where
  runs : {j : ℕ} → d.stat j ≡ running → IsChain d j (j ∷ [])
  waits : {j i : ℕ} {js : List ℕ} (c : ℕ) (a : Ask) → d.stat j ≡ waiting c a → Next d c (record { job = j; ask = a }) i → IsChain d i js → IsChain d j (j ∷ js)

-- which of the jobs below n wait, in ascending order
unfoldable pub waiting_below : (ℕ → Status) → ℕ → List ℕ
waiting_below stat zero = []
waiting_below stat (suc n) = waiting_below stat n ++ put (is_waiting (stat n)) n []

-- the chains of all waiting jobs, in ascending order of the job asked about; every job's number is below the next number
unfoldable pub all_chains : Desk → List (List ℕ)
all_chains d = map (chain_of d) (waiting_below d.stat d.next)
