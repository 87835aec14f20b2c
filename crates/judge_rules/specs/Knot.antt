-- The judge's knot: the walk from the smallest job that remains, along smallest predecessors, until one comes again (01, The judge's rules: Knot).
use Rattle.std.specs.Prelude.{ℕ, zero, suc, List, [], ◌∷◌, ◌++◌, length, ltb, eqb, Option}
use Rattle.laws.specs.Choice.{pick}
use Rattle.laws.specs.Lists.{member}
use Rattle.judge_rules.specs.Order.{Edges, first, found}

-- the smallest remaining predecessor of j, if it has one
unfoldable pub predecessor : Edges → List ℕ → ℕ → Option ℕ
predecessor e left j = first (λ i. e i j) left

-- the jobs of a list up to the first place of j
unfoldable pub up_to : ℕ → List ℕ → List ℕ
up_to j [] = []
up_to j (k ∷ ks) = pick (eqb k j) [] (k ∷ up_to j ks)

-- the jobs of a list from the first place of j on
unfoldable pub from : ℕ → List ℕ → List ℕ
from j [] = []
from j (k ∷ ks) = pick (eqb k j) (k ∷ ks) (from j ks)

-- the walk at j, with the jobs seen on the way to it, the last one first: go from each job to its smallest remaining predecessor until one comes again.
-- Each job has an edge to the job it was reached from, so the jobs from its second coming back to its first are the cycle, listed along its edges.
-- At most n jobs are looked at; one more than remain is enough (proofs/Walking.antt)
unfoldable pub walk : Edges → List ℕ → ℕ → List ℕ → ℕ → List ℕ
walk e left zero seen j = []
walk e left (suc n) seen j =
    let further : List ℕ = found (predecessor e left j) [] (λ i. walk e left n (j ∷ seen) i) in
    pick (member j seen) (j ∷ up_to j seen) further

-- the smallest of k and the jobs of the list
unfoldable pub least : ℕ → List ℕ → ℕ
least k [] = k
least k (j ∷ js) = pick (ltb j k) (least j js) (least k js)

-- a cycle, listed from one of its jobs
unfoldable pub turn_to : ℕ → List ℕ → List ℕ
turn_to j js = from j js ++ up_to j js

-- a cycle, listed from its smallest number
unfoldable pub turn : List ℕ → List ℕ
turn [] = []
turn (k ∷ ks) = turn_to (least k ks) (k ∷ ks)

-- the knot among the jobs that remain, given in ascending order: the walk starts at the smallest, and its cycle is listed from its smallest (01, The judge's rules: Knot)
unfoldable pub knot_in : Edges → List ℕ → List ℕ
knot_in e [] = []
knot_in e (j ∷ left) = turn (walk e (j ∷ left) (suc (length (j ∷ left))) [] j)
