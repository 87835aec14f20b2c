-- A list of copies: what stands in each of its places, and past its end.
-- Assumes nothing.
use Prim.Native.Nat.{ℕ, ◌≤◌}
use mathlib.Core.Path.{◌≡◌, sym, subst}
use lib.Dec.{ltb}
use lib.ListN.{get_or, replicate, length-replicate, get_or-replicate, get_or-eq_default}
use borrow.Author.Tests.{ltb-true, ltb-false}
use Rattle.laws.specs.Choice.{by_test}

-- every place of a list of copies holds the copy, and past its end the same is read
pub copies_at : {A : Type 0} (n : ℕ) (x : A) (i : ℕ) → get_or (replicate n x) i x ≡ x
copies_at n x i =
    by_test (ltb i n) (λ t. get_or-replicate n i x x (ltb-true i n t))
    (λ f. get_or-eq_default (replicate n x) x (subst (λ m. m ≤ i) (sym (length-replicate n x)) (ltb-false i n f)))
