-- Lists of numbers, such as jobs: membership, no repeats, positions, one more in front, the first places of a lent list; and the first element that passes a test.
-- Nothing here comes from the paper; the definitions are open to every crate.
use Rattle.std.specs.Prelude.{ℕ, suc, ◌≡◌, Bool, true, false, not, ◌&&◌, ◌||◌, List, [], ◌∷◌, ◌++◌, eqb, length, take, drop, Option, None, Some}
use Rattle.laws.specs.Choice.{pick}

-- whether the list names the number
unfoldable pub member : ℕ → List ℕ → Bool
member j [] = false
member j (k ∷ ks) = eqb k j || member j ks

-- whether no number stands in the list twice
unfoldable pub distinct : List ℕ → Bool
distinct [] = true
distinct (k ∷ ks) = not (member k ks) && distinct ks

-- how many numbers stand before the first occurrence of this one
unfoldable pub pos : List ℕ → ℕ → ℕ
pos [] j = 0
pos (k ∷ ks) j = pick (eqb k j) 0 (suc (pos ks j))

-- the number put in front of the list if the flag is true, else the list alone
unfoldable pub put : Bool → ℕ → List ℕ → List ℕ
put true i js = i ∷ js
put false i js = js

-- the numbers in the first places of the list, the rest unchanged
unfoldable pub filled : List ℕ → List ℕ → List ℕ
filled js list = js ++ drop (length js) list

-- what `filled` means: the first places hold the numbers, the rest is unchanged, and the length is the same
pub record Fills (js before after : List ℕ) : Type 0 where
  pub first : take (length js) after ≡ js
  pub rest : drop (length js) after ≡ drop (length js) before
  pub size : length after ≡ length before

-- the first element that passes the test, if there is one
unfoldable pub first_of : {A : Type 0} → (A → Bool) → List A → Option A
first_of f [] = None
first_of f (x ∷ xs) = pick (f x) (Some x) (first_of f xs)
