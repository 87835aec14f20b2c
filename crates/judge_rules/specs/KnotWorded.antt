-- The knot a second time, in the paper's words: by the places of one list, the jobs visited, without a search and without the words of Knot.antt and Meant.antt (01, The judge's rules: Knot).
use Rattle.std.specs.Prelude.{ℕ, suc, ◌+◌, ◌-◌, ◌≤◌, ◌<◌, ◌≡◌, ◌≢◌, true, List, length, get_or}
use Rattle.laws.specs.Lists.{member}
use Rattle.judge_rules.specs.Order.{Edges}

-- job j remains: it is in a set of the jobs in which each has a predecessor. A job of such a set is never without a remaining predecessor, so none of it is taken away; all other jobs are (01, The judge's rules: Knot)
pub record Remains (e : Edges) (jobs : List ℕ) (j : ℕ) : Type 0 where
  pub part : List ℕ
  pub named : member j part ≡ true
  pub only : (i : ℕ) → member i part ≡ true → member i jobs ≡ true
  pub each : (i : ℕ) → member i part ≡ true → (k : ℕ) × (member k part ≡ true) × (e k i ≡ true)

-- the smallest: a number is one of these, and none of these is below it (01, The judge's rules: Knot)
pub record SmallestOf (these : ℕ → Type 0) (j : ℕ) : Type 0 where
  pub among : these j
  pub below : (k : ℕ) → these k → j ≤ k

-- the jobs visited, from place 0 to the last: first the smallest that remains, then for each its smallest remaining predecessor, until one comes again: it is at the last place and at one earlier place (01, The judge's rules: Knot)
pub record ComesAgain (e : Edges) (jobs way : List ℕ) (first last : ℕ) : Type 0 where
  pub size : length way ≡ suc last
  pub start : SmallestOf (Remains e jobs) (get_or way 0 0)
  pub next : (k : ℕ) → k < last → SmallestOf (λ i. Remains e jobs i × (e i (get_or way k 0) ≡ true)) (get_or way (suc k) 0)
  pub earlier : first < last
  pub again : get_or way first 0 ≡ get_or way last 0
  pub once : (i k : ℕ) → i < k → k < last → get_or way i 0 ≢ get_or way k 0

-- the knot: the jobs after the first coming up to the second. Each has an edge to the one before it, so they are told backwards, along these edges, from the smallest of them,
-- which is at the place from; after the first coming the list goes on at the second, which is the same job (01, The judge's rules: Knot)
pub record KnotTold (e : Edges) (jobs js : List ℕ) : Type 0 where
  pub way : List ℕ
  pub first : ℕ
  pub last : ℕ
  pub comes : ComesAgain e jobs way first last
  pub from : ℕ
  pub behind : first < from
  pub within : from ≤ last
  pub smallest : (k : ℕ) → first < k → k ≤ last → get_or way from 0 ≤ get_or way k 0
  pub size : length js ≡ last - first
  pub back : (k : ℕ) → k < from - first → get_or js k 0 ≡ get_or way (from - k) 0
  pub on : (k : ℕ) → k < last - from → get_or js ((from - first) + k) 0 ≡ get_or way (last - k) 0
