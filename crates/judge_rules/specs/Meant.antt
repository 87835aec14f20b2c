-- What the paper says of the order, of what remains and of the knot, with no way to find them (01, The judge's rules: Orderly, Knot).
use Rattle.std.specs.Prelude.{ℕ, ◌≤◌, ◌<◌, ◌≡◌, Bool, true, false, List, [], ◌∷◌, ◌++◌}
use Rattle.laws.specs.Lists.{member, distinct, pos}
use Rattle.conflict.specs.Schedule.{knot}
use Rattle.judge_rules.specs.Order.{Edges, preceded, without}
use Rattle.judge_rules.specs.Knot.{up_to}
use Rattle.judge_rules.specs.Judged.{Finding, orderly, knotted}

-- the order names each of the jobs once and no others, and every edge between them goes forward in it
pub record Orderly (e : Edges) (jobs order : List ℕ) : Type 0 where
  pub once : distinct order ≡ true
  pub only : (j : ℕ) → member j order ≡ true → member j jobs ≡ true
  pub all : (j : ℕ) → member j jobs ≡ true → member j order ≡ true
  pub ahead : (i j : ℕ) → member i jobs ≡ true → member j jobs ≡ true → e i j ≡ true → pos order i < pos order j

-- the list is a knot of some of the jobs, none twice, and begins with its smallest
pub record Knotted (e : Edges) (jobs js : List ℕ) : Type 0 where
  pub knots : knot e js ≡ true
  pub only : (j : ℕ) → member j js ≡ true → member j jobs ≡ true
  pub once : distinct js ≡ true
  pub leader : ℕ
  pub rest : List ℕ
  pub listed : js ≡ leader ∷ rest
  pub smallest : (j : ℕ) → member j js ≡ true → leader ≤ j

-- job k may stand next: it does not stand yet, and its predecessors all stand already
pub record Fits (e : Edges) (jobs placed : List ℕ) (k : ℕ) : Type 0 where
  pub job : member k jobs ≡ true
  pub free : member k placed ≡ false
  pub behind : (i : ℕ) → member i jobs ≡ true → e i k ≡ true → member i placed ≡ true

-- the order takes at each place the smallest number whose predecessors all stand already, until every job stands (01, The judge's rules: Orderly)
pub record SmallestFirst (e : Edges) (jobs order : List ℕ) : Type 0 where
  pub all : (j : ℕ) → member j jobs ≡ true → member j order ≡ true
  pub fits : (placed : List ℕ) (j : ℕ) (rest : List ℕ) → order ≡ placed ++ j ∷ rest → Fits e jobs placed j
  pub smallest : (placed : List ℕ) (j : ℕ) (rest : List ℕ) → order ≡ placed ++ j ∷ rest → (k : ℕ) → Fits e jobs placed k → j ≤ k

-- jobs without a remaining predecessor are taken away, in some order, until none is left to take, and the rest remains (01, The judge's rules: Knot)
pub data Takes (e : Edges) : List ℕ → List ℕ → List ℕ → Type 0 where
  stops : {left : List ℕ} → ((j : ℕ) → member j left ≡ true → preceded e left j ≡ true) → Takes e left [] left
  takes : {j : ℕ} {left order rest : List ℕ} → member j left ≡ true → preceded e left j ≡ false → Takes e (without j left) order rest → Takes e left (j ∷ order) rest

-- j is the smallest of the jobs that pass the test
pub record Smallest (f : ℕ → Bool) (jobs : List ℕ) (j : ℕ) : Type 0 where
  pub job : member j jobs ≡ true
  pub passes : f j ≡ true
  pub least : (k : ℕ) → member k jobs ≡ true → f k ≡ true → j ≤ k

-- a walk starts at the smallest remaining number and goes from each job to its smallest remaining predecessor, while no job comes again.
-- The last job stands first, so that each but the last of the list has an edge to the next (01, The judge's rules: Knot)
pub data Walk (e : Edges) (left : List ℕ) : List ℕ → Type 0 where
  starts : {j : ℕ} → Smallest (λ k. true) left j → Walk e left (j ∷ [])
  goes : {i j : ℕ} {seen : List ℕ} → Walk e left (j ∷ seen) → member j seen ≡ false → Smallest (λ k. e k j) left i → Walk e left (i ∷ j ∷ seen)

-- a job comes again, and the jobs from its second coming back to its first are a cycle along its edges
pub record Cycle (e : Edges) (left round : List ℕ) : Type 0 where
  pub job : ℕ
  pub seen : List ℕ
  pub walked : Walk e left (job ∷ seen)
  pub again : member job seen ≡ true
  pub along : round ≡ job ∷ up_to job seen

-- the knot: that cycle is listed along its edges, from its smallest number (01, The judge's rules: Knot)
pub record Shown (e : Edges) (left js : List ℕ) : Type 0 where
  pub round : List ℕ
  pub closed : Cycle e left round
  pub ahead : List ℕ
  pub leader : ℕ
  pub rest : List ℕ
  pub parts : round ≡ ahead ++ leader ∷ rest
  pub turned : js ≡ (leader ∷ rest) ++ ahead
  pub smallest : (k : ℕ) → member k js ≡ true → leader ≤ k

-- what the paper says is found for jobs and their edges
pub data Says (e : Edges) (jobs : List ℕ) : Finding → Type 0 where
  says_order : {order : List ℕ} → SmallestFirst e jobs order → Says e jobs (orderly order)
  says_cycle : {taken rest js : List ℕ} → Takes e jobs taken rest → Shown e rest js → Says e jobs (knotted js)
