-- The search for a conflict between two jobs' lines, one line of the first job at a time, from the last back; and positions in ascending lines.
-- Assumes nothing.
use Prim.Native.Nat.{ℕ, zero, suc, ◌-◌, ◌≤◌, ◌<◌}
use mathlib.Core.Path.{◌≡◌, refl, sym, ap, ◌∙◌}
use mathlib.Core.Bool.{Bool, true, false, ◌||◌, or-false, or-true}
use mathlib.Core.List.{List, [], ◌∷◌, ◌++◌}
use native.Mathlib.Omega.{arith}
use lib.ListN.{length, get_or, take}
use lib.Seq.{take-suc}
use borrow.Author.Tests.{eqb-true}
use lib.Dec.{eqb}
use Rattle.laws.specs.Choice.{not_both}
use Rattle.laws.specs.Lists.{member}
use Rattle.laws.specs.Sorted.{under, ascending}
use Rattle.laws.proofs.Lists.{same_refl}
use Rattle.laws.proofs.Parts.{and_first, and_second, or_either, or_first, or_second}
use Rattle.laws.proofs.Sorted.{under_each}
use Rattle.judge_core.specs.Meeting.{meets_later, meetings}

-- what stands at a place of a list is in it
pub member_at : (ys : List ℕ) (k : ℕ) → k < length ys → member (get_or ys k 0) ys ≡ true
unfolding member
member_at [] k h = absurd (omega arith)
member_at (y ∷ ys) zero h = or_first (eqb y y) (member y ys) (same_refl y)
member_at (y ∷ ys) (suc k) h = or_second (eqb y (get_or ys k 0)) (member (get_or ys k 0) ys) (member_at ys k (omega arith))

pub at_member : (ys : List ℕ) (k y : ℕ) → k < length ys → y ≡ get_or ys k 0 → member y ys ≡ true
at_member ys k y h e = rw e (member_at ys k h)

-- in ascending order nothing before a place is larger than what stands there
pub up_to : (ys : List ℕ) (k : ℕ) → ascending ys ≡ true → k < length ys → (y : ℕ) → member y (take (suc k) ys) ≡ true → y ≤ get_or ys k 0
unfolding member ascending
up_to [] k a h y m = absurd (omega arith)
up_to (z ∷ ys) zero a h y m = or_either (eqb z y) false m (λ t. omega (arith, eqb-true z y t)) (λ t. not_both t refl)
up_to (z ∷ ys) (suc k) a h y m =
    or_either (eqb z y) (member y (take (suc k) ys)) m
    (λ t. omega (arith, eqb-true z y t, under_each z ys (and_first (under z ys) (ascending ys) a) (get_or ys k 0) (member_at ys k (omega arith))))
    (λ t. up_to ys k (and_second (under z ys) (ascending ys) a) (omega arith) y t)

-- of three tests it does not matter which two are taken first
or_three : (a b c : Bool) → (a || (b || c)) ≡ ((a || b) || c)
or_three true b c = refl
or_three false b c = refl

module _ (clash : ℕ → ℕ → Bool) (ys : List ℕ) where
  -- lines of two lists meet others where those of the first do or those of the second
  meets_append : (xs zs : List ℕ) → meetings clash (xs ++ zs) ys ≡ (meetings clash xs ys || meetings clash zs ys)
  unfolding meetings
  meets_append [] zs = refl
  meets_append (x ∷ xs) zs =
      ap (λ b. meets_later clash x ys || b) (meets_append xs zs) ∙ or_three (meets_later clash x ys) (meetings clash xs ys) (meetings clash zs ys)

  module _ (xs : List ℕ) where
    module _ (i : ℕ) where
      -- the last that is looked at, and those before it
      meets_last : 0 < i → i ≤ length xs → meetings clash (take i xs) ys ≡ (meetings clash (take (i - 1) xs) ys || (meets_later clash (get_or xs (i - 1) 0) ys || false))
      unfolding meetings
      meets_last p h =
          let e : i ≡ suc (i - 1) = omega arith in
          ap (λ k. meetings clash (take k xs) ys) e
          ∙ ap (λ l. meetings clash l ys) (take-suc xs (i - 1) 0 (omega arith))
          ∙ meets_append (take (i - 1) xs) (get_or xs (i - 1) 0 ∷ [])

      -- a line that meets none is passed
      pub meets_past : (x : ℕ) → 0 < i → i ≤ length xs → x ≡ get_or xs (i - 1) 0 → meets_later clash x ys ≡ false → meetings clash xs ys ≡ meetings clash (take i xs) ys → meetings clash xs ys ≡ meetings clash (take (i - 1) xs) ys
      meets_past x p h q f e = e ∙ meets_last p h ∙ rw (← q, f) (or-false (meetings clash (take (i - 1) xs) ys))

      -- a line that meets one decides
      pub meets_found : (x : ℕ) → 0 < i → i ≤ length xs → x ≡ get_or xs (i - 1) 0 → meets_later clash x ys ≡ true → meetings clash xs ys ≡ meetings clash (take i xs) ys → true ≡ meetings clash xs ys
      meets_found x p h q t e = sym (e ∙ meets_last p h ∙ rw (← q, t) (or-true (meetings clash (take (i - 1) xs) ys)))

      -- when all lines are passed, none meets one
      pub meets_end : i ≡ 0 → meetings clash xs ys ≡ meetings clash (take i xs) ys → false ≡ meetings clash xs ys
      unfolding meetings
      meets_end z e = sym (e ∙ rw z)
