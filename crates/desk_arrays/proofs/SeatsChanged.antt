-- A job takes the first free place, or frees its own: one number among the places changes, and nothing changes for other jobs.
-- Assumes nothing.
use Prim.Native.Nat.{ℕ, ◌<◌}
use mathlib.Core.Path.{◌≡◌, refl, sym, ap, subst, ◌∙◌}
use mathlib.Core.Logic.{◌≢◌}
use mathlib.Core.Bool.{true, false}
use mathlib.Core.List.{List}
use lib.ListN.{length, get_or, set, length-set}
use lib.Seq.{get_or-set_same, get_or-set_other, lt-length-set}
use Rattle.laws.specs.Choice.{by_test, not_both}
use Rattle.laws.specs.Lists.{member, pos}
use Rattle.laws.specs.Functions.{at}
use Rattle.desks.specs.Places.{vacated, Once, is_seated}
use Rattle.laws.proofs.Functions.{at_each, at_all}
use Rattle.desks.proofs.Places.{seated_set, vacated_set, seated_once, vacated_once, vacated_gone}
use Rattle.desk_arrays.specs.Stands.{by_number}
use Rattle.desk_arrays.proofs.Cases.{by_same}
use Rattle.desks.proofs.Seats.{Seat, seat_at, seat_of, seat_seated, seat_member, pos_below, pos_holds, seated_member}
use Rattle.desk_arrays.proofs.ByNumber.{seat_has, nobody_has, zero_has}

module _ {A : Type 0} (x : A) (ks : List ℕ) (p n : ℕ) (f g : ℕ → A) where
  -- one number among the places changes, and what stands at the other places does not: nothing changes for the other jobs
  others_stay : p < length ks → Once ks → Once (set ks p n) → ((q : ℕ) → q ≢ p → g q ≡ f q) → (i : ℕ) → i ≢ 0 → i ≢ n → i ≢ get_or ks p 0 → by_number x (set ks p n) g i ≡ by_number x ks f i
  others_stay b o o' h i z d e =
      by_test (is_seated ks i) (λ t. was (pos ks i) (seat_of ks i t))
      (λ u. nobody_has x (set ks p n) g i (by_test (is_seated (set ks p n) i) (λ t. not_both (is (seat_of (set ks p n) i t)) u) (λ r. r)) ∙ sym (nobody_has x ks f i u))
    where
      moved : (q : ℕ) → q ≢ p → get_or (set ks p n) q 0 ≡ get_or ks q 0
      moved q r = get_or-set_other ks p q n 0 r

      was : (q : ℕ) → Seat ks i q → by_number x (set ks p n) g i ≡ by_number x ks f i
      was q s =
          let r : q ≢ p = λ c. e (sym s.sits ∙ ap (λ m. get_or ks m 0) c) in
          let c : get_or (set ks p n) q 0 ≡ i = moved q r ∙ s.sits in
          let t : Seat (set ks p n) i q = subst (λ k. Seat (set ks p n) k q) c (seat_at o' q (lt-length-set ks p n s.within) (λ y. z (sym c ∙ y))) in
          seat_has x (set ks p n) g t ∙ h q r ∙ sym (seat_has x ks f s)

      is : Seat (set ks p n) i (pos (set ks p n) i) → is_seated ks i ≡ true
      is s = held (pos (set ks p n) i) s
        where
          held : (q : ℕ) → Seat (set ks p n) i q → is_seated ks i ≡ true
          held q s =
              let r : q ≢ p = λ c. d (sym s.sits ∙ ap (λ m. get_or (set ks p n) m 0) c ∙ get_or-set_same ks p n 0 b) in
              let c : get_or ks q 0 ≡ i = sym (moved q r) ∙ s.sits in
              seat_seated (subst (λ k. Seat ks k q) c (seat_at o q (subst (λ l. q < l) (length-set ks p n) s.within) (λ y. z (sym c ∙ y))))

-- for 0 the places make no difference
zero_same : {A : Type 0} (x : A) (ks ls : List ℕ) (f g : ℕ → A) (i : ℕ) → i ≡ 0 → by_number x ls g i ≡ by_number x ks f i
zero_same x ks ls f g i e = ap (by_number x ls g) e ∙ zero_has x ls g ∙ sym (ap (by_number x ks f) e ∙ zero_has x ks f)

module _ (ks : List ℕ) (n : ℕ) (m : member 0 ks ≡ true) (new : member n ks ≡ false) (o : Once ks) where
  -- nobody has two places once a new job has taken one
  taken_once : Once (set ks (pos ks 0) n)
  taken_once = subst Once (seated_set n ks m) (seated_once n ks new o)

  -- the new job's is what stands at the place it takes, and every other's is as before
  pub taken_number : {A : Type 0} (x y : A) (f g : ℕ → A) → n ≢ 0 → g (pos ks 0) ≡ y → ((q : ℕ) → q ≢ pos ks 0 → g q ≡ f q) → (i : ℕ) → by_number x (set ks (pos ks 0) n) g i ≡ at (by_number x ks f) n y i
  taken_number x y f g z e h =
      at_all (λ i w. by_number x (set ks (pos ks 0) n) g i ≡ w) (by_number x ks f) n y (seat_has x (set ks (pos ks 0) n) g sits ∙ e)
      (λ i d. by_same i 0 (zero_same x ks (set ks (pos ks 0) n) f g i)
      (λ u. others_stay x ks (pos ks 0) n f g (pos_below ks 0 m) o taken_once h i u d (λ c. u (c ∙ pos_holds ks 0 m))))
    where
      there : get_or (set ks (pos ks 0) n) (pos ks 0) 0 ≡ n
      there = get_or-set_same ks (pos ks 0) n 0 (pos_below ks 0 m)

      sits : Seat (set ks (pos ks 0) n) n (pos ks 0)
      sits = subst (λ k. Seat (set ks (pos ks 0) n) k (pos ks 0)) there (seat_at taken_once (pos ks 0) (lt-length-set ks (pos ks 0) n (pos_below ks 0 m)) (λ c. z (sym there ∙ c)))

module _ {ks : List ℕ} {j p : ℕ} (s : Seat ks j p) (o : Once ks) where
  -- the places once the job has freed its own
  pub freed_set : vacated j ks ≡ set ks p 0
  freed_set = vacated_set j ks o s.real (seat_member s) ∙ ap (λ q. set ks q 0) s.found

  -- nobody has two places once one is freed
  freed_once : Once (set ks p 0)
  freed_once = subst Once freed_set (vacated_once j ks o)

  -- a job that has freed its place has none
  freed_gone : is_seated (set ks p 0) j ≡ false
  freed_gone = seated_member (set ks p 0) j s.real ∙ ap (member j) (sym freed_set) ∙ vacated_gone j ks s.real

  -- nothing is its own any more, and every other's is as before
  pub freed_number : {A : Type 0} (x : A) (f : ℕ → A) → (i : ℕ) → by_number x (set ks p 0) f i ≡ at (by_number x ks f) j x i
  freed_number x f =
      at_all (λ i w. by_number x (set ks p 0) f i ≡ w) (by_number x ks f) j x (nobody_has x (set ks p 0) f j freed_gone)
      (λ i d. by_same i 0 (zero_same x ks (set ks p 0) f f i)
      (λ u. others_stay x ks p 0 f f s.within o freed_once (λ q _. refl) i u u (λ c. d (c ∙ s.sits))))

  -- where nothing was its own, nothing changes for anybody
  pub freed_same : {A : Type 0} (x : A) (f : ℕ → A) → by_number x ks f j ≡ x → (i : ℕ) → by_number x (set ks p 0) f i ≡ by_number x ks f i
  freed_same x f e i =
      freed_number x f i
      ∙ at_each (λ y. y ≡ by_number x ks f i) (by_number x ks f) j x i (λ c. sym (ap (by_number x ks f) c ∙ e)) (λ _. refl)
