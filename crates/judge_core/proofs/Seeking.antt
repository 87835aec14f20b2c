-- The smallest remaining job that passes a test, searched from the smallest number on.
-- Assumes nothing.
use Prim.Native.Nat.{ℕ, zero, suc, ◌+◌, ◌-◌, ◌≤◌, ◌<◌}
use mathlib.Core.Path.{◌≡◌, refl, sym, ap, ◌∙◌, subst}
use mathlib.Core.Bool.{Bool, true, false}
use mathlib.Core.List.{List, [], ◌∷◌}
use native.Mathlib.Nat.{zero-add, add-zero}
use native.Mathlib.Numerals.{add-one}
use native.Mathlib.Omega.{arith}
use lib.ListN.{length, get_or}
use Rattle.std.specs.Prelude.{Option, None, Some}
use Rattle.laws.specs.Choice.{by_test}
use Rattle.laws.specs.Lists.{member, put}
use Rattle.judge_rules.specs.Order.{first}
use Rattle.judge_rules.proofs.Firsts.{by_one, first_is}
use Rattle.std.specs.List.{position, position_from}
use Rattle.std.proofs.lemmas.Iterator.Adapters.{position_from-zero}
use Rattle.judge_core.specs.Lists.{listed}
use Rattle.judge_core.specs.Left.{left_of, left_from, or_nobody}
use Rattle.judge_core.proofs.Listing.{listed_is, listed_has, listed_few}

-- the first flag that is set is that of the first number listed
position_listed : (f : ℕ → Bool) (bs : List Bool) (k : ℕ) → ((i : ℕ) → i < length bs → f (k + i) ≡ get_or bs i false) → position_from (λ b. b) k bs ≡ first (λ j. true) (listed f k (length bs))
unfolding listed first put
position_listed f [] k h = refl
position_listed f (b ∷ bs) k h =
    let here' : f k ≡ b = ap f (sym (add-zero k)) ∙ h 0 (omega arith) in
    by_test b
    (λ t. rw (here', t))
    (λ g. rw (here', g, add-one k) (position_listed f bs (suc k) (λ i l. ap f (omega arith) ∙ h (suc i) (omega arith))))

module _ (left : List Bool) where
  -- the next number, if it is left, and those behind it
  left_next : (i : ℕ) → i < 256 → left_from left i ≡ put (get_or left i false) i (left_from left (i + 1))
  unfolding left_from listed
  left_next i h =
      let e : 256 - i ≡ suc (256 - (i + 1)) = omega arith in
      rw (e, add-one i)

  module _ (test : ℕ → Bool) where
    -- at first all are looked at
    pub seek_start : first test (left_of left) ≡ first test (left_from left 0)
    unfolding left_of left_from
    seek_start = refl

    -- a job that is not left is passed
    pub seek_gone : (i : ℕ) (o : Option ℕ) → i < 256 → get_or left i false ≡ false → o ≡ first test (left_from left i) → o ≡ first test (left_from left (i + 1))
    unfolding put
    seek_gone i o h f e = e ∙ rw (left_next i h, f)

    -- and so is one that does not pass the test
    pub seek_past : (i : ℕ) (o : Option ℕ) → i < 256 → test i ≡ false → o ≡ first test (left_from left i) → o ≡ first test (left_from left (i + 1))
    unfolding put first
    seek_past i o h f e =
        e ∙ rw (left_next i h) (by_test (get_or left i false) (λ t. rw (t, f)) (λ g. rw g))

    -- one that is left and passes is found
    pub seek_some : (i : ℕ) (o : Option ℕ) → i < 256 → get_or left i false ≡ true → test i ≡ true → o ≡ first test (left_from left i) → o ≡ Some i
    unfolding put first
    seek_some i o h t p e = e ∙ rw (left_next i h, t, p)

    pub seek_found : (i : ℕ) (o : Option ℕ) → i < 256 → get_or left i false ≡ true → test i ≡ true → o ≡ first test (left_from left i) → i ≡ or_nobody o
    unfolding or_nobody
    seek_found i o h t p e = sym (ap or_nobody (seek_some i o h t p e))

    -- when all numbers are passed there is none
    pub seek_nobody : (i : ℕ) (o : Option ℕ) → 256 ≤ i → o ≡ first test (left_from left i) → o ≡ None
    unfolding left_from listed first
    seek_nobody i o h e =
        let z : 256 - i ≡ 0 = omega arith in
        e ∙ rw z

    pub seek_none : (i : ℕ) (o : Option ℕ) → 256 ≤ i → o ≡ first test (left_from left i) → 256 ≡ or_nobody o
    unfolding or_nobody
    seek_none i o h e = sym (ap or_nobody (seek_nobody i o h e))

    -- where none of the first i passes, the others are looked at
    pub seek_behind : (i : ℕ) → i ≤ 256 → ((k : ℕ) → k < i → get_or left k false ≡ true → test k ≡ false) → first test (left_of left) ≡ first test (left_from left i)
    seek_behind zero b h = seek_start
    seek_behind (suc i) b h =
        let before : first test (left_of left) ≡ first test (left_from left i) = seek_behind i (omega arith) (λ k l t. h k (omega arith) t) in
        subst (λ m. first test (left_of left) ≡ first test (left_from left m)) (add-one i)
        (by_test (get_or left i false) (λ t. seek_past i (first test (left_of left)) (omega arith) (h i (omega arith) t) before) (λ f. seek_gone i (first test (left_of left)) (omega arith) f before))

  -- a job that is left is one of 256
  pub left_small : (j : ℕ) → member j (left_of left) ≡ true → j < 256
  unfolding left_of
  left_small j m = let r = listed_is (λ i. get_or left i false) 0 256 j m in omega (arith, r.1)

  -- its flag is set
  pub left_is : (j : ℕ) → member j (left_of left) ≡ true → get_or left j false ≡ true
  unfolding left_of
  left_is j m = (listed_is (λ i. get_or left i false) 0 256 j m).2

  -- and one whose flag is set is left
  pub left_has : (j : ℕ) → j < 256 → get_or left j false ≡ true → member j (left_of left) ≡ true
  unfolding left_of
  left_has j b t = listed_has (λ i. get_or left i false) 0 256 j (omega arith) (omega arith) t

  -- they are no more than 256
  pub left_few : length (left_of left) ≤ 256
  unfolding left_of
  left_few = listed_few (λ i. get_or left i false) 0 256

  -- the job found is one of 256
  pub found_small : (test : ℕ → Bool) (j : ℕ) → first test (left_of left) ≡ Some j → j < 256
  found_small test j e = left_small j (first_is test (left_of left) j e).0

  -- the job found is one of those left
  pub found_left : (test : ℕ → Bool) (j : ℕ) → j ≡ or_nobody (first test (left_of left)) → (j ≡ 256 → ⊥) → (first test (left_of left) ≡ Some j) × (j < 256)
  unfolding or_nobody
  found_left test j h n =
      by_one (first test (left_of left))
      (λ q. absurd (n (h ∙ ap or_nobody q)))
      (λ i q.
      let same' : j ≡ i = h ∙ ap or_nobody q in
      (q ∙ ap Some (sym same'), rw same' (left_small i (first_is test (left_of left) i q).0)))

  -- where nobody is found there is none
  pub none_left : (test : ℕ → Bool) (j : ℕ) → j ≡ or_nobody (first test (left_of left)) → j ≡ 256 → first test (left_of left) ≡ None
  unfolding or_nobody
  none_left test j h n =
      by_one (first test (left_of left)) (λ q. q)
      (λ i q.
      let small : i < 256 = left_small i (first_is test (left_of left) i q).0 in
      let same' : j ≡ i = h ∙ ap or_nobody q in
      absurd (omega arith))

  -- the first flag that is set is that of the first job left
  pub left_position : length left ≡ 256 → position (λ b. b) left ≡ first (λ j. true) (left_of left)
  unfolding left_of
  left_position w =
      position_from-zero (λ b. b) left ∙ position_listed (λ j. get_or left j false) left 0 (λ i l. ap (λ k. get_or left k false) (zero-add i))
      ∙ ap (λ n. first (λ j. true) (listed (λ j. get_or left j false) 0 n)) w
