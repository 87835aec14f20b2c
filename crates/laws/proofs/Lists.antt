-- Laws of lists of numbers, such as jobs: membership, no repeats, positions, and one more in front.
-- Assumes nothing.
use Rattle.std.specs.Prelude.{Some}
use Prim.Native.Nat.{ℕ, zero, suc, ◌<◌}
use mathlib.Core.Path.{◌≡◌, refl, sym, ap, subst, ◌∙◌}
use mathlib.Core.Bool.{Bool, true, false, not, ◌&&◌, ◌||◌, and-true, and-false}
use mathlib.Core.List.{List, [], ◌∷◌}
use native.Mathlib.Omega.{arith}
use borrow.Author.Tests.{eqb-true, eqb-false, eq-eqb, ne_eqb, not-true}
use lib.Dec.{eqb}
use lib.ListN.{length, get_or}
use Rattle.laws.specs.Choice.{by_test, not_both}
use Rattle.laws.specs.Lists.{member, distinct, pos, put, first_of}
use Rattle.laws.proofs.Parts.{and_first, and_second}

-- a number is the same as itself
pub same_refl : (j : ℕ) → eqb j j ≡ true
same_refl j = eq-eqb j j refl

-- being the same does not depend on which of the two comes first
pub same_sym : (i j : ℕ) → eqb i j ≡ eqb j i
same_sym i j =
    by_test (eqb i j) (λ t. t ∙ sym (eq-eqb j i (sym (eqb-true i j t))))
    (λ f. f ∙ sym (ne_eqb j i (λ e. eqb-false i j f (sym e))))

-- the first of a list stands at 0
pub pos_first : (k : ℕ) (ks : List ℕ) → pos (k ∷ ks) k ≡ 0
unfolding pos
pos_first k ks = rw (same_refl k)

-- any other stands one place further than in the rest
pub pos_later : (k : ℕ) (ks : List ℕ) (j : ℕ) → eqb k j ≡ false → pos (k ∷ ks) j ≡ suc (pos ks j)
unfolding pos
pos_later k ks j f = rw f

-- a number that stands behind another is not the first, and stands behind it in the rest too
pub pos_rest : (k : ℕ) (ks : List ℕ) (i j : ℕ) → eqb k i ≡ false → pos (k ∷ ks) i < pos (k ∷ ks) j → pos ks i < pos ks j
pos_rest k ks i j f h =
    by_test (eqb k j) (λ t. let e : k ≡ j = eqb-true k j t in absurd (omega (arith, pos_first k ks, ap (pos (k ∷ ks)) e)))
    (λ g. omega (arith, pos_later k ks i f, pos_later k ks j g))

-- the first stands ahead of every other
pub first_ahead : (k : ℕ) (ks : List ℕ) (i j : ℕ) → eqb k i ≡ true → eqb k j ≡ false → pos (k ∷ ks) i < pos (k ∷ ks) j
first_ahead k ks i j t f = omega (arith, pos_first k ks, ap (pos (k ∷ ks)) (eqb-true k i t), pos_later k ks j f)

-- nobody stands ahead of the first
pub none_ahead : {P : Type 0} (k : ℕ) (ks : List ℕ) (i : ℕ) → pos (k ∷ ks) i < pos (k ∷ ks) k → P
none_ahead k ks i h = absurd (omega (arith, pos_first k ks))

-- two others stand in the whole as in the rest
pub pos_both : (k : ℕ) (ks : List ℕ) (i j : ℕ) → eqb k i ≡ false → eqb k j ≡ false → pos ks i < pos ks j → pos (k ∷ ks) i < pos (k ∷ ks) j
pos_both k ks i j f g h = omega (arith, pos_later k ks i f, pos_later k ks j g)

-- the first of a list is in it
pub member_first : (k : ℕ) (ks : List ℕ) → member k (k ∷ ks) ≡ true
unfolding member
member_first k ks = rw (same_refl k)

-- another is in a list where it is in the rest
pub member_later : (k : ℕ) (ks : List ℕ) (j : ℕ) → eqb k j ≡ false → member j (k ∷ ks) ≡ member j ks
unfolding member
member_later k ks j f = rw f

-- a number in the rest is in the list
pub member_more : (k : ℕ) (ks : List ℕ) (j : ℕ) → member j ks ≡ true → member j (k ∷ ks) ≡ true
unfolding member
member_more k ks j h = by_test (eqb k j) (λ t. rw t) (λ f. rw f h)

-- a number in a list is its first or in the rest
pub member_split : {P : Type 0} (k : ℕ) (ks : List ℕ) (i : ℕ) → member i (k ∷ ks) ≡ true → (k ≡ i → P) → (member i ks ≡ true → P) → P
member_split k ks i h f g = by_test (eqb k i) (λ t. f (eqb-true k i t)) (λ n. g (sym (member_later k ks i n) ∙ h))

-- nobody is in an empty list
pub member_none : {P : Type 0} (i : ℕ) → member i [] ≡ true → P
unfolding member
member_none i h = not_both h refl

-- a list that names none twice does not name its first again
pub once_first : (k : ℕ) (ks : List ℕ) → distinct (k ∷ ks) ≡ true → member k ks ≡ false
unfolding distinct
once_first k ks h = not-true (member k ks) (and_first (not (member k ks)) (distinct ks) h)

-- and its rest names none twice
pub once_rest : (k : ℕ) (ks : List ℕ) → distinct (k ∷ ks) ≡ true → distinct ks ≡ true
unfolding distinct
once_rest k ks h = and_second (not (member k ks)) (distinct ks) h

-- a number in a list is not a number outside it
pub member_other : (k j : ℕ) (ks : List ℕ) → member k ks ≡ false → member j ks ≡ true → eqb k j ≡ false
member_other k j ks f h =
    by_test (eqb k j) (λ t. not_both (ap (λ i. member i ks) (eqb-true k j t) ∙ h) f) (λ g. g)

-- membership in a list with one more in front, if that is listed
pub member_put : (b : Bool) (i j : ℕ) (js : List ℕ) → member j (put b i js) ≡ ((eqb i j && b) || member j js)
unfolding member put
member_put true i j js = rw and-true
member_put false i j js = rw and-false

-- a list that names none twice with one more names none twice without it
pub put_once : (b : Bool) (k : ℕ) (order : List ℕ) → distinct (put b k order) ≡ true → distinct order ≡ true
unfolding put
put_once true k order d = once_rest k order d
put_once false k order d = d

-- of two in a list, one ahead of the other, that one is so too with one more in front
pub put_ahead : (b : Bool) (k : ℕ) (order : List ℕ) (i j : ℕ) → distinct (put b k order) ≡ true → member i order ≡ true → member j order ≡ true → pos order i < pos order j → pos (put b k order) i < pos (put b k order) j
unfolding put
put_ahead true k order i j d p q h = pos_both k order i j (member_other k i order (once_first k order d) p) (member_other k j order (once_first k order d) q) h
put_ahead false k order i j d p q h = h

-- the first of a list of which a test holds is one of which it holds
pub first_holds : {A : Type 0} (f : A → Bool) (xs : List A) (x : A) → first_of f xs ≡ Some x → f x ≡ true
unfolding first_of
first_holds f [] x e = let z : ◌≡◌ {A = ℕ} 0 1 = cc in absurd (omega arith)
first_holds f (y ∷ ys) x e =
    by_test (f y) (λ t. let q : Some y ≡ Some x = rw t at e in subst (λ z. f z ≡ true) (same_some y x q) t) (λ g. first_holds f ys x (rw g at e))
  where
    same_some : {A : Type 0} (y x : A) → Some y ≡ Some x → y ≡ x
    same_some y x q = cc

-- within a list any default reads the same
pub any_default : (l : List ℕ) (q x y : ℕ) → q < length l → get_or l q x ≡ get_or l q y
any_default [] q x y h = absurd (omega arith)
any_default (k ∷ ks) zero x y h = refl
any_default (k ∷ ks) (suc q) x y h = any_default ks q x y (omega arith)

-- what is above a number stands within the list
pub above_within : (l : List ℕ) (q y : ℕ) → y < get_or l q 0 → q < length l
above_within [] q y h = absurd (omega arith)
above_within (k ∷ ks) zero y h = omega arith
above_within (k ∷ ks) (suc q) y h = omega (arith, above_within ks q y h)
