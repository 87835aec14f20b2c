-- Two functions that are the same on a list, one by one, are the same on whichever number the list names.
-- Assumes nothing.
use Prim.Native.Nat.{ℕ}
use mathlib.Core.Path.{◌≡◌, subst}
use mathlib.Core.Bool.{true}
use mathlib.Core.List.{List, [], ◌∷◌, map}
use Rattle.laws.specs.Lists.{member}
use Rattle.laws.proofs.Lists.{member_split, member_none}
use Rattle.laws.proofs.Joined.{head_same, tail_same}

pub same_on : {A : Type 0} (f g : ℕ → A) (ks : List ℕ) → map f ks ≡ map g ks → (j : ℕ) → member j ks ≡ true → f j ≡ g j
same_on f g [] e j m = member_none j m
same_on f g (k ∷ ks) e j m = member_split k ks j m (λ q. subst (λ i. f i ≡ g i) q (head_same e)) (λ l. same_on f g ks (tail_same e) j l)
