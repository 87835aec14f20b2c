-- How many places wait: one fewer after a wake, and never all if one place does not wait.
-- Assumes nothing.
use Prim.Native.Nat.{ℕ, zero, suc, ◌+◌, ◌<◌, ◌≤◌}
use mathlib.Core.Path.{◌≡◌, refl, sym, subst, ◌∙◌}
use mathlib.Core.Logic.{◌≢◌}
use mathlib.Core.Bool.{Bool, true, false}
use mathlib.Core.List.{List}
use native.Mathlib.Omega.{arith}
use lib.Dec.{eqb}
use lib.ListN.{length, get_or, set}
use lib.Seq.{get_or-set_same, get_or-set_other}
use borrow.Author.Tests.{eq-eqb, ne_eqb}
use Rattle.laws.specs.Choice.{pick}
use Rattle.desk_arrays.specs.Codes.{waiting_code}
use Rattle.desk_arrays.specs.Places.{waiters}
use Rattle.desk_arrays.proofs.Cases.{by_last}

-- one for a place that waits, none for another
one_or_none : (b : Bool) → pick {A = ℕ} b 1 0 ≤ 1
one_or_none true = omega arith
one_or_none false = omega arith

-- no more wait than there are
pub waiters_most : (status : List ℕ) (n : ℕ) → waiters status n ≤ n
unfolding waiters
waiters_most status zero = omega arith
waiters_most status (suc n) = omega (arith, waiters_most status n, one_or_none (eqb (get_or status n 0) waiting_code))

-- where one does not wait, fewer
pub waiters_fewer : (status : List ℕ) (p : ℕ) → get_or status p 0 ≢ waiting_code → (n : ℕ) → p < n → waiters status n < n
unfolding waiters
waiters_fewer status p d zero h = absurd (omega arith)
waiters_fewer status p d (suc n) h =
    by_last p n h
    (λ e. rw (subst (λ m. eqb (get_or status m 0) waiting_code ≡ false) e (ne_eqb (get_or status p 0) waiting_code d)) (omega (arith, waiters_most status n)))
    (λ l. more (waiters_fewer status p d n l))
  where
    more : waiters status n < n → pick (eqb (get_or status n 0) waiting_code) 1 0 + waiters status n < suc n
    more l = omega (arith, one_or_none (eqb (get_or status n 0) waiting_code))

module _ (status : List ℕ) (p code : ℕ) where
  -- a place that is not reached makes no difference
  waiters_left : (n : ℕ) → n ≤ p → waiters (set status p code) n ≡ waiters status n
  unfolding waiters
  waiters_left zero h = refl
  waiters_left (suc n) h = rw (get_or-set_other status p n code 0 (λ e. omega arith), waiters_left n (omega arith))

  -- one that waited and does so no more makes one fewer
  pub waiters_woken : p < length status → get_or status p 0 ≡ waiting_code → code ≢ waiting_code → (n : ℕ) → p < n → suc (waiters (set status p code) n) ≡ waiters status n
  unfolding waiters
  waiters_woken l w d zero h = absurd (omega arith)
  waiters_woken l w d (suc n) h =
      by_last p n h now (λ k. then' k (waiters_woken l w d n k))
    where
      now : p ≡ n → suc (pick (eqb (get_or (set status p code) n 0) waiting_code) 1 0 + waiters (set status p code) n) ≡ pick (eqb (get_or status n 0) waiting_code) 1 0 + waiters status n
      now e =
          rw (subst (λ m. eqb (get_or (set status p code) m 0) waiting_code ≡ false) e (ne_eqb (get_or (set status p code) p 0) waiting_code (λ g. d (sym (get_or-set_same status p code 0 l) ∙ g))), subst (λ m. eqb (get_or status m 0) waiting_code ≡ true) e (eq-eqb (get_or status p 0) waiting_code w), waiters_left n (omega arith))
          (omega arith)

      then' : p < n → suc (waiters (set status p code) n) ≡ waiters status n → suc (pick (eqb (get_or (set status p code) n 0) waiting_code) 1 0 + waiters (set status p code) n) ≡ pick (eqb (get_or status n 0) waiting_code) 1 0 + waiters status n
      then' e k = rw (get_or-set_other status p n code 0 (λ g. omega arith)) (omega arith)
