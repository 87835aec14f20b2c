-- Paths along edges: made longer by an edge before or after; and a knot may be read from any of its jobs.
-- Assumes nothing.
use Prim.Native.Nat.{ℕ}
use mathlib.Core.Path.{◌≡◌}
use mathlib.Core.Bool.{Bool, true}
use mathlib.Core.List.{List, [], ◌∷◌, ◌++◌}
use Rattle.laws.proofs.Parts.{and_first, and_second, and_both}
use Rattle.conflict.specs.Schedule.{path, knot}

-- an edge is a path
pub path_edge : (e : ℕ → ℕ → Bool) (i k : ℕ) → e i k ≡ true → path e i [] k ≡ true
unfolding path
path_edge e i k h = h

-- an edge before a path makes a longer path
pub path_more : (e : ℕ → ℕ → Bool) (i j : ℕ) (js : List ℕ) (k : ℕ) → e i j ≡ true → path e j js k ≡ true → path e i (j ∷ js) k ≡ true
unfolding path
path_more e i j js k h g = and_both (e i j) (path e j js k) h g

-- an edge after a path makes a longer path
pub path_on : (e : ℕ → ℕ → Bool) (i : ℕ) (js : List ℕ) (k l : ℕ) → path e i js k ≡ true → e k l ≡ true → path e i (js ++ k ∷ []) l ≡ true
unfolding path
path_on e i [] k l h g = and_both (e i k) (e k l) h g
path_on e i (j ∷ js) k l h g =
    and_both (e i j) (path e j (js ++ k ∷ []) l) (and_first (e i j) (path e j js k) h) (path_on e j js k l (and_second (e i j) (path e j js k) h) g)

-- a path back to where it began is a knot
pub knot_of : (e : ℕ → ℕ → Bool) (j : ℕ) (js : List ℕ) → path e j js j ≡ true → knot e (j ∷ js) ≡ true
unfolding knot
knot_of e j js h = h

-- a knot may be read from its second job on
pub knot_on : (e : ℕ → ℕ → Bool) (k : ℕ) (ks : List ℕ) → knot e (k ∷ ks) ≡ true → knot e (ks ++ k ∷ []) ≡ true
unfolding knot path
knot_on e k [] h = h
knot_on e k (j ∷ js) h = path_on e j js k j (and_second (e k j) (path e j js k) h) (and_first (e k j) (path e j js k) h)
