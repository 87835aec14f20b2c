-- The 32 places: a new job takes a free one, a closed job frees its own, and no other job's place changes.
-- Assumes nothing.
use Prim.Native.Nat.{ℕ, zero, suc}
use mathlib.Core.Path.{◌≡◌, refl, sym, ap, ◌∙◌}
use mathlib.Core.Logic.{◌≢◌}
use mathlib.Core.Bool.{true, false, ◌||◌}
use mathlib.Core.List.{List, [], ◌∷◌}
use lib.ListN.{length, length-map, replicate, set}
use borrow.Author.Tests.{eqb-true, eqb-false, ne_eqb}
use lib.Dec.{eqb}
use Rattle.laws.specs.Choice.{pick, by_test, not_both}
use Rattle.laws.specs.Lists.{member, pos}
use Rattle.laws.proofs.Lists.{pos_first, pos_later, member_first, member_later, member_more}
use Rattle.laws.proofs.Parts.{nor_first, nor_second}
use Rattle.desks.specs.Places.{seated, vacated, Once}

-- whether another job has a place does not depend on one place more or less in front
member_past : (k : ℕ) (ks ls : List ℕ) (i : ℕ) → member i ks ≡ member i ls → member i (k ∷ ks) ≡ member i (k ∷ ls)
unfolding member
member_past k ks ls i e = ap (λ b. eqb k i || b) e

-- taking a place changes no other job's place
pub seated_others : (j : ℕ) (ks : List ℕ) (i : ℕ) → i ≢ j → i ≢ 0 → member i (seated j ks) ≡ member i ks
unfolding seated
seated_others j [] i n z = refl
seated_others j (k ∷ ks) i n z =
    by_test (eqb k 0)
    (λ t. rw t (member_later j ks i (ne_eqb j i (λ e. n (sym e))) ∙ sym (member_later k ks i (ne_eqb k i (λ e. z (sym e ∙ eqb-true k 0 t))))))
    (λ f. rw f (member_past k (seated j ks) ks i (seated_others j ks i n z)))

-- if a place is free, the new job has one
pub seated_there : (j : ℕ) (ks : List ℕ) → member 0 ks ≡ true → member j (seated j ks) ≡ true
unfolding seated
seated_there j [] h = unfold member in not_both h refl
seated_there j (k ∷ ks) h =
    by_test (eqb k 0) (λ t. rw t (member_first j ks))
    (λ f. rw f (member_more k (seated j ks) j (seated_there j ks (sym (member_later k ks 0 f) ∙ h))))

-- a job without a place does not have the first
not_first : (k : ℕ) (ks : List ℕ) (j : ℕ) → member j (k ∷ ks) ≡ false → k ≢ j
unfolding member
not_first k ks j m = eqb-false k j (nor_first (eqb k j) (member j ks) m)

-- nor a later one
not_later : (k : ℕ) (ks : List ℕ) (j : ℕ) → member j (k ∷ ks) ≡ false → member j ks ≡ false
unfolding member
not_later k ks j m = nor_second (eqb k j) (member j ks) m

-- no job has two places after a job that had none has taken one
pub seated_once : (j : ℕ) (ks : List ℕ) → member j ks ≡ false → Once ks → Once (seated j ks)
unfolding seated
seated_once j [] m o = tt
seated_once j (k ∷ ks) m o =
    by_test (eqb k 0) (λ t. rw t (λ _. not_later k ks j m, o.1))
    (λ f. rw f (λ z. seated_others j ks k (not_first k ks j m) z ∙ o.0 z, seated_once j ks (not_later k ks j m) o.1))

-- there are as many places as before
pub seated_size : (j : ℕ) (ks : List ℕ) → length (seated j ks) ≡ length ks
unfolding seated
seated_size j [] = refl
seated_size j (k ∷ ks) = by_test (eqb k 0) (λ t. rw t) (λ f. rw f (ap suc (seated_size j ks)))

-- freeing a place changes no other job's place
pub vacated_others : (j : ℕ) (ks : List ℕ) (i : ℕ) → i ≢ j → i ≢ 0 → member i (vacated j ks) ≡ member i ks
unfolding vacated
vacated_others j [] i n z = refl
vacated_others j (k ∷ ks) i n z =
    by_test (eqb k j)
    (λ t. rw t (member_later 0 (vacated j ks) i (ne_eqb 0 i (λ e. z (sym e))) ∙ vacated_others j ks i n z ∙ sym (member_later k ks i (ne_eqb k i (λ e. n (sym e ∙ eqb-true k j t))))))
    (λ f. rw f (member_past k (vacated j ks) ks i (vacated_others j ks i n z)))

-- a job that frees its place has none
pub vacated_gone : (j : ℕ) (ks : List ℕ) → j ≢ 0 → member j (vacated j ks) ≡ false
unfolding vacated
vacated_gone j [] z = unfold member in refl
vacated_gone j (k ∷ ks) z =
    by_test (eqb k j) (λ t. rw t (member_later 0 (vacated j ks) j (ne_eqb 0 j (λ e. z (sym e))) ∙ vacated_gone j ks z))
    (λ f. rw f (member_later k (vacated j ks) j f ∙ vacated_gone j ks z))

-- a place that is freed is free
pub vacated_free : (j : ℕ) (ks : List ℕ) → member j ks ≡ true → member 0 (vacated j ks) ≡ true
unfolding vacated
vacated_free j [] m = unfold member in m
vacated_free j (k ∷ ks) m =
    by_test (eqb k j) (λ t. rw t (member_first 0 (vacated j ks)))
    (λ f. rw f (member_more k (vacated j ks) 0 (vacated_free j ks (sym (member_later k ks j f) ∙ m))))

-- no job has two places after one is freed
pub vacated_once : (j : ℕ) (ks : List ℕ) → Once ks → Once (vacated j ks)
unfolding vacated
vacated_once j [] o = tt
vacated_once j (k ∷ ks) o =
    by_test (eqb k j) (λ t. rw t (λ z. absurd (z refl), vacated_once j ks o.1))
    (λ f. rw f (λ z. vacated_others j ks k (eqb-false k j f) z ∙ o.0 z, vacated_once j ks o.1))

-- there are as many places as before
pub vacated_size : (j : ℕ) (ks : List ℕ) → length (vacated j ks) ≡ length ks
unfolding vacated
vacated_size j ks = length-map ks (λ k. pick (eqb k j) 0 k)

-- free places hold no job
pub free_nobody : (n i : ℕ) → i ≢ 0 → member i (replicate n 0) ≡ false
unfolding member
free_nobody zero i z = refl
free_nobody (suc n) i z = rw (ne_eqb 0 i (λ e. z (sym e))) (free_nobody n i z)

-- and so no job twice
pub free_once : (n : ℕ) → Once (replicate n 0)
free_once zero = tt
free_once (suc n) = (λ z. absurd (z refl), free_once n)

-- a new job takes the first free place: its number replaces the 0 found there
pub seated_set : (n : ℕ) (ks : List ℕ) → member 0 ks ≡ true → seated n ks ≡ set ks (pos ks 0) n
unfolding seated
seated_set n [] m = refl
seated_set n (k ∷ ks) m =
    by_test (eqb k 0) (λ t. rw t (ap (λ p. set (k ∷ ks) p n) (sym (ap (pos (k ∷ ks)) (sym (eqb-true k 0 t)) ∙ pos_first k ks))))
    (λ f. rw (f, pos_later k ks 0 f) (ap (λ l. k ∷ l) (seated_set n ks (sym (member_later k ks 0 f) ∙ m))))

-- if a job has no place, none is freed
vacated_none : (j : ℕ) (ks : List ℕ) → member j ks ≡ false → vacated j ks ≡ ks
unfolding vacated
vacated_none j [] m = refl
vacated_none j (k ∷ ks) m =
    by_test (eqb k j) (λ t. not_both (ap (λ i. member i (k ∷ ks)) (sym (eqb-true k j t)) ∙ member_first k ks) m)
    (λ f. rw f (ap (λ l. k ∷ l) (vacated_none j ks (sym (member_later k ks j f) ∙ m))))

-- a job that frees its place leaves 0 there
pub vacated_set : (j : ℕ) (ks : List ℕ) → Once ks → j ≢ 0 → member j ks ≡ true → vacated j ks ≡ set ks (pos ks j) 0
unfolding vacated
vacated_set j [] o z m = not_both m (unfold member in refl)
vacated_set j (k ∷ ks) o z m =
    by_test (eqb k j) (λ t. first t (eqb-true k j t))
    (λ f. rw (f, pos_later k ks j f) (ap (λ l. k ∷ l) (vacated_set j ks o.1 z (sym (member_later k ks j f) ∙ m))))
  where
    first : eqb k j ≡ true → k ≡ j → vacated j (k ∷ ks) ≡ set (k ∷ ks) (pos (k ∷ ks) j) 0
    first t e =
        rw (t, ap (pos (k ∷ ks)) (sym e) ∙ pos_first k ks)
        (ap (λ l. 0 ∷ l) (vacated_none j ks (ap (λ i. member i ks) (sym e) ∙ o.0 (λ n. z (sym e ∙ n)))))
