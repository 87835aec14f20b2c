-- The judge's order: among the jobs left, the smallest without a predecessor left is taken away, again and again (01, The judge's rules: Orderly, Knot).
use Rattle.std.specs.Prelude.{ℕ, zero, suc, Bool, false, not, ◌||◌, List, [], ◌∷◌, length, eqb, Option, None, Some}
use Rattle.laws.specs.Choice.{pick}

-- a test of which job has an edge to which
abbrev pub Edges : Type 0
Edges = ℕ → ℕ → Bool

-- whether some job among those left has an edge to j: j has a remaining predecessor
unfoldable pub preceded : Edges → List ℕ → ℕ → Bool
preceded e [] j = false
preceded e (i ∷ left) j = e i j || preceded e left j

-- the first job that passes the test, if there is one; if the jobs ascend, it is the smallest such job
unfoldable pub first : (ℕ → Bool) → List ℕ → Option ℕ
first f [] = None
first f (j ∷ js) = pick (f j) (Some j) (first f js)

-- the smallest number among those left whose predecessors all stand already, so that none of them is left (01, The judge's rules: Orderly)
unfoldable pub ready : Edges → List ℕ → Option ℕ
ready e left = first (λ j. not (preceded e left j)) left

-- the jobs without this one
unfoldable pub without : ℕ → List ℕ → List ℕ
without j [] = []
without j (k ∷ ks) = pick (eqb k j) (without j ks) (k ∷ without j ks)

-- what is done with a job, if there is one
abbrev pub found : {A : Type 0} → Option ℕ → A → (ℕ → A) → A
found None x f = x
found (Some j) x f = f j

-- the jobs taken away, each after those taken before it, and the jobs that remain
pub record Taken : Type 0 where
  pub order : List ℕ
  pub remaining : List ℕ

-- nothing more is taken
unfoldable pub ends : List ℕ → Taken
ends left = record { order = []; remaining = left }

-- j is taken, and then the others
unfoldable pub leads : ℕ → Taken → Taken
leads j t = record { order = j ∷ t.order; remaining = t.remaining }

-- take away the ready job, at most n times; as many times as there are jobs is enough (proofs/Taking.antt)
unfoldable pub taken : Edges → ℕ → List ℕ → Taken
taken e zero left = ends left
taken e (suc n) left = found (ready e left) (ends left) (λ j. leads j (taken e n (without j left)))

-- the order that at each place takes the smallest number whose predecessors all stand already (01, The judge's rules: Orderly)
unfoldable pub order_of : Edges → List ℕ → List ℕ
order_of e jobs = (taken e (length jobs) jobs).order

-- what remains when jobs without a remaining predecessor are taken away until none is left to take (01, The judge's rules: Knot)
unfoldable pub stuck : Edges → List ℕ → List ℕ
stuck e jobs = (taken e (length jobs) jobs).remaining
