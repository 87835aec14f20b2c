-- The value at a job's place, looked up by the job's number: at each place, for a number at no place, and after a change at one place.
-- Assumes nothing.
use Prim.Native.Nat.{ℕ, ◌<◌}
use mathlib.Core.Path.{◌≡◌, sym, ap, subst, ◌∙◌}
use mathlib.Core.Logic.{◌≢◌}
use mathlib.Core.Bool.{false}
use mathlib.Core.List.{List}
use lib.ListN.{length, get_or}
use Rattle.laws.specs.Choice.{by_test}
use Rattle.laws.specs.Lists.{pos}
use Rattle.laws.specs.Functions.{at}
use Rattle.desks.specs.Places.{Once, is_seated}
use Rattle.laws.proofs.Functions.{at_same, at_other, at_all}
use Rattle.desk_arrays.specs.Stands.{by_number}
use Rattle.desk_arrays.proofs.Cases.{by_same}
use Rattle.desks.proofs.Seats.{Seat, seat_at, seat_of, seat_seated, zero_unseated}

-- at every free place stands x
abbrev pub FreeHas : {A : Type 0} → A → List ℕ → (ℕ → A) → Type 0
FreeHas x ks f = (p : ℕ) → p < length ks → get_or ks p 0 ≡ 0 → f p ≡ x

module _ {A : Type 0} (x : A) (ks : List ℕ) (f : ℕ → A) where
  -- for a job with a place, what stands there
  pub seat_has : {j p : ℕ} → Seat ks j p → by_number x ks f j ≡ f p
  unfolding by_number
  seat_has s = rw (seat_seated s) (ap f s.found)

  -- for anybody else x
  pub nobody_has : (j : ℕ) → is_seated ks j ≡ false → by_number x ks f j ≡ x
  unfolding by_number
  nobody_has j e = rw e

  -- for 0 too
  pub zero_has : by_number x ks f 0 ≡ x
  zero_has = nobody_has 0 (zero_unseated ks)

  -- so for the number at any place, free or not, what stands there
  pub place_has : Once ks → FreeHas x ks f → (p : ℕ) → p < length ks → by_number x ks f (get_or ks p 0) ≡ f p
  place_has o free p h =
      by_same (get_or ks p 0) 0 (λ e. ap (by_number x ks f) e ∙ zero_has ∙ sym (free p h e)) (λ n. seat_has (seat_at o p h n))

  -- what is not x is at a place
  pub has_seat : {P : Type 0} (j : ℕ) → by_number x ks f j ≢ x → (Seat ks j (pos ks j) → P) → P
  has_seat j n g = by_test (is_seated ks j) (λ t. g (seat_of ks j t)) (λ e. absurd (n (nobody_has j e)))

  -- what holds of what stands at each place, and of x, holds for every job
  pub number_each : (P : A → Type 0) (j : ℕ) → ((p : ℕ) → Seat ks j p → P (f p)) → (is_seated ks j ≡ false → P x) → P (by_number x ks f j)
  number_each P j here' none' =
      by_test (is_seated ks j) (λ t. let s = seat_of ks j t in subst P (sym (seat_has s)) (here' (pos ks j) s))
      (λ e. subst P (sym (nobody_has j e)) (none' e))

module _ {A : Type 0} (x : A) (ks : List ℕ) (f g : ℕ → A) where
  -- what is the same at every place is the same for every job
  pub same_number : ((p : ℕ) → p < length ks → g p ≡ f p) → (j : ℕ) → by_number x ks g j ≡ by_number x ks f j
  same_number h j =
      number_each x ks g (λ y. y ≡ by_number x ks f j) j (λ p s. h p s.within ∙ sym (seat_has x ks f s)) (λ e. sym (nobody_has x ks f j e))

  -- what is changed at one place is changed for the job there
  pub at_number : {j p : ℕ} (y : A) → Seat ks j p → ((q : ℕ) → q < length ks → g q ≡ at f p y q) → (i : ℕ) → by_number x ks g i ≡ at (by_number x ks f) j y i
  at_number {j} {p} y s h =
      at_all (λ i z. by_number x ks g i ≡ z) (by_number x ks f) j y
      (seat_has x ks g s ∙ h p s.within ∙ at_same f p y)
      (λ i n. number_each x ks g (λ z. z ≡ by_number x ks f i) i
      (λ q t. h q t.within ∙ at_other f p y q (λ e. n (sym t.sits ∙ ap (λ r. get_or ks r 0) e ∙ s.sits)) ∙ sym (seat_has x ks f t))
      (λ e. sym (nobody_has x ks f i e)))
