-- Joined lists: what an equation of two says of their parts, and which jobs are in the whole.
-- Assumes nothing.
use Prim.Native.Nat.{ℕ}
use mathlib.Core.Path.{◌≡◌, refl, sym, ap, ◌∙◌}
use mathlib.Core.Bool.{true, ◌||◌, or_assoc}
use mathlib.Core.List.{List, [], ◌∷◌, ◌++◌}
use native.Mathlib.Omega.{arith}
use lib.Dec.{eqb}
use Rattle.laws.specs.Lists.{member}
use Rattle.laws.proofs.Lists.{member_first}

-- a job is in the whole if it is in a part
pub member_append : (j : ℕ) (js ks : List ℕ) → member j (js ++ ks) ≡ (member j js || member j ks)
unfolding member
member_append j [] ks = refl
member_append j (i ∷ js) ks = ap (λ b. eqb i j || b) (member_append j js ks) ∙ sym (or_assoc (eqb i j) (member j js) (member j ks))

-- equal lists have the same first
pub head_same : {A : Type 0} {j k : A} {js ks : List A} → ◌≡◌ {A = List A} (j ∷ js) (k ∷ ks) → j ≡ k
head_same e = cc

-- and the same rest
pub tail_same : {A : Type 0} {j k : A} {js ks : List A} → ◌≡◌ {A = List A} (j ∷ js) (k ∷ ks) → js ≡ ks
tail_same e = cc

-- no list with a first is empty
pub not_empty : {P A : Type 0} {k : A} {ks : List A} → ◌≡◌ {A = List A} [] (k ∷ ks) → P
not_empty e = let z : ◌≡◌ {A = ℕ} 0 1 = cc in absurd (omega arith)

-- nor one with something in its midst
pub not_empty_mid : {P A : Type 0} (js : List A) (k : A) (ks : List A) → [] ≡ js ++ k ∷ ks → P
not_empty_mid [] k ks e = not_empty e
not_empty_mid (j ∷ js) k ks e = not_empty e

-- an element of a list with one more at its end is that one, or stands before it
pub last_split : {P A : Type 0} (h : List A) (e : A) (u : List A) (x : A) (v : List A) → h ++ e ∷ [] ≡ u ++ x ∷ v → (h ≡ u → e ≡ x → P) → ((w : List A) → h ≡ u ++ x ∷ w → P) → P
last_split [] e [] x v q one' two' = one' refl (head_same q)
last_split [] e (y ∷ u) x v q one' two' = not_empty_mid u x v (tail_same q)
last_split (z ∷ h) e [] x v q one' two' = two' h (ap (λ a. a ∷ h) (head_same q))
last_split (z ∷ h) e (y ∷ u) x v q one' two' =
    let s : z ≡ y = head_same q in
    last_split h e u x v (tail_same q) (λ p r. one' (cc) r) (λ w p. two' w (cc))

-- a list that names nobody is empty
pub nobody : (js : List ℕ) → ((j : ℕ) → member j js ≡ true → ⊥) → js ≡ []
nobody [] h = refl
nobody (k ∷ ks) h = absurd (h k (member_first k ks))
