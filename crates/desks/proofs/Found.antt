-- Laws of a job's place: how a loop over the numbers finds the first one that is the job's.
-- Assumes nothing.
use Prim.Native.Nat.{ℕ, suc, ◌+◌, ◌<◌, ◌≤◌}
use mathlib.Core.Path.{◌≡◌}
use mathlib.Core.List.{List}
use native.Mathlib.Numerals.{add-one}
use native.Mathlib.Omega.{arith}
use lib.ListN.{length, get_or, drop, drop_of_length-le}
use lib.Seq.{drop-cons}
use borrow.Author.Tests.{eq-eqb, ne_eqb}
use Rattle.laws.specs.Lists.{pos}

-- the job is at p, so the search ends there
pub found_here : (l : List ℕ) (j p : ℕ) → p < length l → get_or l p 0 ≡ j → p + pos (drop p l) j ≡ pos l j → p ≡ pos l j
unfolding pos
found_here l j p h e i =
    let z : pos (drop p l) j ≡ 0 = rw (drop-cons l p 0 h, eq-eqb (get_or l p 0) j e) in
    omega arith

-- the job is not at p, so the search goes on with the rest
pub found_later : (l : List ℕ) (j p : ℕ) → p < length l → (get_or l p 0 ≡ j → ⊥) → p + pos (drop p l) j ≡ pos l j → p + 1 + pos (drop (p + 1) l) j ≡ pos l j
unfolding pos
found_later l j p h e i =
    let z : pos (drop p l) j ≡ suc (pos (drop (suc p) l) j) = rw (drop-cons l p 0 h, ne_eqb (get_or l p 0) j e) in
    rw (add-one p) (omega arith)

-- the whole list is passed, so the job is not in it
pub found_nowhere : (l : List ℕ) (j p : ℕ) → length l ≤ p → p + pos (drop p l) j ≡ pos l j → p ≡ pos l j
unfolding pos
found_nowhere l j p h i =
    let z : pos (drop p l) j ≡ 0 = rw (drop_of_length-le l h) in
    omega arith
