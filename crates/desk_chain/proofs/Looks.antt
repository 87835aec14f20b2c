-- Each further look along a chain has fewer younger jobs left: so a chain is its first job and the chain of the next, and has at most one job more than there are younger jobs (02, No. 3).
-- Assumes nothing.
use Prim.Native.Nat.{ℕ, zero, suc, ◌≤◌, ◌<◌}
use mathlib.Core.Path.{◌≡◌, refl, ap, ◌∙◌}
use mathlib.Core.Bool.{not, ◌&&◌}
use mathlib.Core.List.{List, [], ◌∷◌}
use native.Mathlib.Omega.{arith}
use lib.Dec.{eqb, ltb}
use lib.ListN.{length, get_or, get_or-eq_default}
use borrow.Author.Tests.{ltb-true}
use Rattle.laws.specs.Choice.{pick, by_test}
use Rattle.laws.proofs.Parts.{and_second}
use Rattle.laws.proofs.Lists.{any_default, above_within}
use Rattle.terms.specs.Limits.{places, cells}
use Rattle.conflict.specs.Modes.{is_free}
use Rattle.desk_rules.specs.Chain.{younger_than}
use Rattle.desk_rules.proofs.Younger.{younger_less, younger_short}
use Rattle.desk_arrays.specs.Codes.{waiting_code}
use Rattle.desk_arrays.specs.Places.{mode_at}
use Rattle.desks.proofs.Seats.{at_member}
use Rattle.desk_chain.specs.Chains.{holds_above, holder_above, next_at, chain_from_by, chain_from}

-- a job of the list that is younger than job j has fewer younger ones than j
younger_falls : (is : List ℕ) (q j : ℕ) → q < length is → j < get_or is q 0 → younger_than (get_or is q 0) is < younger_than j is
younger_falls is q j l h = younger_less (get_or is q 0) j is h (at_member is q l)

-- the job at a place is not younger than itself, so fewer are younger than it than there are places
younger_below : (is : List ℕ) (p : ℕ) → p < length is → younger_than (get_or is p 0) is < length is
younger_below is p h = younger_short (get_or is p 0) is (at_member is p h)

-- so a list of as many places as there are has room for every chain
pub places_enough : (number list : List ℕ) (p : ℕ) → length number ≡ places → places ≤ length list → p < places → younger_than (get_or number p 0) number < length list
places_enough number list p n l h = omega (arith, younger_below number p (omega arith))

module _ (number held : List ℕ) (c job : ℕ) where
  -- what holds of a newly found place, and of the one found before, holds of the place found
  by_found : (P : ℕ → Type 0) (n : ℕ) → (get_or number (holder_above number held c job n) job < get_or number n 0 → P n) → P (holder_above number held c job n) → P (holder_above number held c job (suc n))
  unfolding holder_above holds_above
  by_found P n new' old' =
      let best = holder_above number held c job n in
      by_test (not (is_free (mode_at held c n)) && ltb (get_or number best job) (get_or number n 0))
      (λ t. rw t (new' (ltb-true (get_or number best job) (get_or number n 0) (and_second (not (is_free (mode_at held c n))) (ltb (get_or number best job) (get_or number n 0)) t))))
      (λ f. rw f old')

  -- a further place has to be above a number that is at least the job's
  found_least : length number ≡ places → (n : ℕ) → job ≤ get_or number (holder_above number held c job n) job
  unfolding holder_above
  found_least e zero = rw (get_or-eq_default number job {n = places} (omega arith)) (omega arith)
  found_least e (suc n) =
      let r = found_least e n in
      by_found (λ q. job ≤ get_or number q job) n (λ h. rw (any_default number n job 0 (above_within number n (get_or number (holder_above number held c job n) job) h)) (omega arith)) r

  -- the job found is younger
  pub found_younger : length number ≡ places → (n : ℕ) → holder_above number held c job n < places → job < get_or number (holder_above number held c job n) 0
  unfolding holder_above
  found_younger e zero = λ h. absurd (omega arith)
  found_younger e (suc n) =
      let r = found_least e n in
      by_found (λ q. q < places → job < get_or number q 0) n (λ h l. omega arith) (found_younger e n)

module _ (number status cell held : List ℕ) (e : length number ≡ places) where
  -- the next job is younger
  pub next_younger : (p : ℕ) → next_at number status cell held p < places → get_or number p 0 < get_or number (next_at number status cell held p) 0
  unfolding next_at
  next_younger p =
      by_test (eqb (get_or status p 0) waiting_code && ltb (get_or cell p 0) cells)
      (λ t. rw t (found_younger number held (get_or cell p 0) (get_or number p 0) e places))
      (λ f. rw f (λ h. absurd (omega arith)))

  -- so each further look has fewer younger jobs left
  pub next_falls : (p : ℕ) → next_at number status cell held p < places → younger_than (get_or number (next_at number status cell held p) 0) number < younger_than (get_or number p 0) number
  next_falls p h = younger_falls number (next_at number status cell held p) (get_or number p 0) (omega arith) (next_younger p h)

  -- looks that are more than the younger jobs find no more
  enough : (n m p : ℕ) → younger_than (get_or number p 0) number ≤ n → younger_than (get_or number p 0) number ≤ m → chain_from_by number status cell held n p ≡ chain_from_by number status cell held m p
  unfolding chain_from_by
  enough zero zero p l k = refl
  enough zero (suc m) p l k =
      by_test (ltb (next_at number status cell held p) places) (λ t. absurd (omega (arith, next_falls p (ltb-true (next_at number status cell held p) places t)))) (λ f. rw f)
  enough (suc n) zero p l k =
      by_test (ltb (next_at number status cell held p) places) (λ t. absurd (omega (arith, next_falls p (ltb-true (next_at number status cell held p) places t)))) (λ f. rw f)
  enough (suc n) (suc m) p l k =
      by_test (ltb (next_at number status cell held p) places)
      (λ t. let q = next_at number status cell held p in let h = next_falls p (ltb-true q places t) in rw t (ap (λ js. get_or number p 0 ∷ js) (enough n m q (omega arith) (omega arith))))
      (λ f. rw f)

  -- a chain is its first job, then the chain of the next job if there is one
  pub chain_next : (p : ℕ) → chain_from number status cell held p ≡ get_or number p 0 ∷ pick (ltb (next_at number status cell held p) places) (chain_from number status cell held (next_at number status cell held p)) []
  unfolding chain_from chain_from_by
  chain_next p =
      let n = younger_than (get_or number p 0) number in
      let q = next_at number status cell held p in
      enough n (suc n) p (omega arith) (omega arith) ∙
      by_test (ltb q places) (λ t. let h = next_falls p (ltb-true q places t) in rw t (ap (λ js. get_or number p 0 ∷ js) (enough n (younger_than (get_or number q 0) number) q (omega arith) (omega arith))))
      (λ f. rw f)

-- no more jobs than looks and one
looks_most : (number status cell held : List ℕ) (n p : ℕ) → length (chain_from_by number status cell held n p) ≤ suc n
unfolding chain_from_by
looks_most number status cell held zero p = omega arith
looks_most number status cell held (suc n) p =
    by_test (ltb (next_at number status cell held p) places)
    (λ t. rw t (omega (arith, looks_most number status cell held n (next_at number status cell held p)))) (λ f. rw f (omega arith))

-- a chain is no longer than the younger jobs and one
pub chain_most : (number status cell held : List ℕ) (p : ℕ) → length (chain_from number status cell held p) ≤ suc (younger_than (get_or number p 0) number)
unfolding chain_from
chain_most number status cell held p = looks_most number status cell held (younger_than (get_or number p 0) number) p
