-- Looking a job up among the places: where it stands, that it stands only there, and what that says of the place.
-- Assumes nothing.
use Prim.Native.Nat.{ℕ, zero, suc, ◌<◌}
use mathlib.Core.Path.{◌≡◌, refl, sym, ap, subst, ◌∙◌}
use mathlib.Core.Logic.{◌≢◌}
use mathlib.Core.Bool.{true, false, not}
use mathlib.Core.List.{List, [], ◌∷◌}
use native.Mathlib.Omega.{arith}
use lib.Dec.{eqb, ltb}
use lib.ListN.{length, get_or}
use borrow.Author.Tests.{eqb-true, eqb-false, eq-eqb, ne_eqb, ltb-true, lt-ltb, not-true}
use Rattle.laws.specs.Choice.{by_test, not_both}
use Rattle.laws.specs.Lists.{member, pos}
use Rattle.laws.proofs.Lists.{pos_first, pos_later, member_first, member_later, member_more}
use Rattle.laws.proofs.Parts.{and_first, and_second}
use Rattle.desks.specs.Places.{Once, is_seated}

-- a job that is in the list has a place within it
pub pos_below : (ks : List ℕ) (j : ℕ) → member j ks ≡ true → pos ks j < length ks
pos_below [] j m = not_both m (unfold member in refl)
pos_below (k ∷ ks) j m =
    by_test (eqb k j) (λ t. subst (λ i. pos (k ∷ ks) i < suc (length ks)) (eqb-true k j t) (rw (pos_first k ks) (omega arith)))
    (λ f. rw (pos_later k ks j f) (further (pos_below ks j (sym (member_later k ks j f) ∙ m))))
  where
    further : {a b : ℕ} → a < b → suc a < suc b
    further h = omega arith

-- and its number is at that place
pub pos_holds : (ks : List ℕ) (j : ℕ) → member j ks ≡ true → get_or ks (pos ks j) 0 ≡ j
pos_holds [] j m = not_both m (unfold member in refl)
pos_holds (k ∷ ks) j m =
    by_test (eqb k j) (λ t. subst (λ i. get_or (k ∷ ks) (pos (k ∷ ks) i) 0 ≡ i) (eqb-true k j t) (rw (pos_first k ks)))
    (λ f. rw (pos_later k ks j f) (pos_holds ks j (sym (member_later k ks j f) ∙ m)))

-- for a job that is not in the list the search runs to the end
pub pos_end : (ks : List ℕ) (j : ℕ) → member j ks ≡ false → pos ks j ≡ length ks
unfolding pos member
pos_end [] j m = refl
pos_end (k ∷ ks) j m =
    by_test (eqb k j) (λ t. not_both (ap (λ i. member i (k ∷ ks)) (sym (eqb-true k j t)) ∙ member_first k ks) m)
    (λ f. rw f (ap suc (pos_end ks j (sym (member_later k ks j f) ∙ m))))

-- a number that is at some place is in the list
pub at_member : (ks : List ℕ) (p : ℕ) → p < length ks → member (get_or ks p 0) ks ≡ true
at_member [] p h = absurd (omega arith)
at_member (k ∷ ks) zero h = member_first k ks
at_member (k ∷ ks) (suc p) h = member_more k ks (get_or ks p 0) (at_member ks p (omega arith))

-- if no number is there twice, a number is found at the place where it is
pub pos_at : (ks : List ℕ) → Once ks → (p : ℕ) → p < length ks → get_or ks p 0 ≢ 0 → pos ks (get_or ks p 0) ≡ p
pos_at [] o p h z = absurd (omega arith)
pos_at (k ∷ ks) o zero h z = pos_first k ks
pos_at (k ∷ ks) o (suc p) h z =
    pos_later k ks (get_or ks p 0) (other (at_member ks p (omega arith))) ∙ ap suc (pos_at ks o.1 p (omega arith) z)
  where
    other : member (get_or ks p 0) ks ≡ true → eqb k (get_or ks p 0) ≡ false
    other m =
        by_test (eqb k (get_or ks p 0))
        (λ t. let e : k ≡ get_or ks p 0 = eqb-true k (get_or ks p 0) t in not_both (ap (λ i. member i ks) e ∙ m) (o.0 (λ n. z (sym e ∙ n))))
        (λ f. f)

-- a job has a place, and this is it
pub record Seat (ks : List ℕ) (j p : ℕ) : Type 0 where
  pub within : p < length ks
  pub sits : get_or ks p 0 ≡ j
  pub real : j ≢ 0
  pub found : pos ks j ≡ p

-- a number other than 0 that is at a place is seated there
pub seat_at : {ks : List ℕ} → Once ks → (p : ℕ) → p < length ks → get_or ks p 0 ≢ 0 → Seat ks (get_or ks p 0) p
seat_at {ks} o p h z = record { within = h; sits = refl; real = z; found = pos_at ks o p h z }

-- a job that passes the test is seated
pub seat_of : (ks : List ℕ) (j : ℕ) → is_seated ks j ≡ true → Seat ks j (pos ks j)
unfolding is_seated
seat_of ks j t =
    let m : member j ks ≡ true = and_second (not (eqb j 0)) (member j ks) t in
    record {
      within = pos_below ks j m;
      sits = pos_holds ks j m;
      real = eqb-false j 0 (not-true (eqb j 0) (and_first (not (eqb j 0)) (member j ks) t));
      found = refl;
    }

-- a job other than 0 that is in the list is seated
pub member_seated : (ks : List ℕ) (j : ℕ) → j ≢ 0 → member j ks ≡ true → is_seated ks j ≡ true
unfolding is_seated
member_seated ks j z m = rw (ne_eqb j 0 z, m)

-- a job other than 0 is seated exactly if it is in the list
pub seated_member : (ks : List ℕ) (j : ℕ) → j ≢ 0 → is_seated ks j ≡ member j ks
unfolding is_seated
seated_member ks j z = rw (ne_eqb j 0 z)

-- 0 is not
pub zero_unseated : (ks : List ℕ) → is_seated ks 0 ≡ false
unfolding is_seated
zero_unseated ks = refl

module _ {ks : List ℕ} {j p : ℕ} (s : Seat ks j p) where
  -- the place of a seated job is within the list
  pub seat_below : (n : ℕ) → length ks ≡ n → p < n
  seat_below n e = subst (λ m. p < m) e s.within

  -- and not free
  pub seat_taken : (q : ℕ) → get_or ks q 0 ≡ 0 → q ≢ p
  seat_taken q e c = s.real (sym s.sits ∙ ap (λ r. get_or ks r 0) (sym c) ∙ e)

  -- a job that has a place is in the list
  pub seat_member : member j ks ≡ true
  seat_member = subst (λ i. member i ks ≡ true) s.sits (at_member ks p s.within)

  -- and seated by the test
  pub seat_seated : is_seated ks j ≡ true
  seat_seated = member_seated ks j s.real seat_member

  -- its place is the only one with its number
  pub seat_only : Once ks → (q : ℕ) → q < length ks → get_or ks q 0 ≡ j → q ≡ p
  seat_only o q h e = sym (pos_at ks o q h (λ z. s.real (sym e ∙ z))) ∙ ap (pos ks) e ∙ s.found

  -- so comparing places is comparing numbers
  pub seat_same : Once ks → (q : ℕ) → q < length ks → eqb q p ≡ eqb (get_or ks q 0) j
  seat_same o q h =
      by_test (eqb q p) (λ t. t ∙ sym (eq-eqb (get_or ks q 0) j (ap (λ r. get_or ks r 0) (eqb-true q p t) ∙ s.sits)))
      (λ f. f ∙ sym (ne_eqb (get_or ks q 0) j (λ e. eqb-false q p f (seat_only o q h e))))

-- looking for a job among the places finds it exactly if it has one
pub place_found : (ks : List ℕ) (j : ℕ) → ltb (pos ks j) (length ks) ≡ member j ks
place_found ks j =
    by_test (member j ks) (λ t. lt-ltb (pos ks j) (length ks) (pos_below ks j t) ∙ sym t)
    (λ f. nowhere f ∙ sym f)
  where
    nowhere : member j ks ≡ false → ltb (pos ks j) (length ks) ≡ false
    nowhere f =
        by_test (ltb (pos ks j) (length ks)) (λ t. let h : pos ks j < length ks = ltb-true (pos ks j) (length ks) t in let e : pos ks j ≡ length ks = pos_end ks j f in absurd (omega arith))
        (λ g. g)

-- and a free place is found by looking for 0
pub free_place : (ks : List ℕ) → ltb (pos ks 0) (length ks) ≡ member 0 ks
free_place ks = place_found ks 0
