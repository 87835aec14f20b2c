-- The open jobs are those that the places name, each once, at most 32; no place is free exactly if 32 jobs are open (01, What is delivered; 01, refusals 3 and 6).
-- Assumes nothing.
use Prim.Native.Nat.{ℕ, suc, ◌<◌, ◌≤◌}
use mathlib.Core.Path.{◌≡◌, refl, sym, ap, ◌∙◌, subst}
use mathlib.Core.Bool.{Bool, true, false, not, ◌&&◌}
use mathlib.Core.Logic.{◌≢◌}
use mathlib.Core.List.{List, [], ◌∷◌}
use lib.ListN.{length}
use lib.Dec.{ltb, leb, eqb}
use borrow.Author.Tests.{eq-eqb, ne_eqb, ltb-true, ltb-false, le-leb, lt-leb, eqb-true}
use native.Mathlib.Omega.{arith}
use Rattle.laws.specs.Choice.{by_test, not_both}
use Rattle.terms.specs.Letters.{has_cell}
use Rattle.terms.specs.Limits.{cells, places, last_number}
use Rattle.laws.specs.Lists.{member, distinct}
use Rattle.laws.proofs.Parts.{and_both, or_either, or_first, or_second}
use Rattle.laws.proofs.Lists.{member_first, member_more}
use Rattle.desks.specs.Places.{Once, open_among}
use Rattle.desks.specs.Table.{letter_is, is_begin}
use Rattle.desks.specs.Seating.{Seating}
use Rattle.desks.specs.DeskLimits.{DeskLimits}

-- the list taken from the places has only open jobs
pub only_open : (is_open : ℕ → Bool) (ks : List ℕ) (j : ℕ) → member j (open_among is_open ks) ≡ true → is_open j ≡ true
unfolding open_among member
only_open is_open [] j h = not_both h refl
only_open is_open (k ∷ ks) j h =
    by_test (is_open k)
    (λ t. or_either (eqb k j) (member j (open_among is_open ks)) (rw t at h) (λ e. subst (λ i. is_open i ≡ true) (eqb-true k j e) t) (only_open is_open ks j))
    (λ f. only_open is_open ks j (rw f at h))

-- and only jobs of the places
only_seated : (is_open : ℕ → Bool) (ks : List ℕ) (j : ℕ) → member j (open_among is_open ks) ≡ true → member j ks ≡ true
unfolding open_among member
only_seated is_open [] j h = h
only_seated is_open (k ∷ ks) j h =
    by_test (is_open k)
    (λ t. or_either (eqb k j) (member j (open_among is_open ks)) (rw t at h) (or_first (eqb k j) (member j ks)) (λ m. or_second (eqb k j) (member j ks) (only_seated is_open ks j m)))
    (λ f. or_second (eqb k j) (member j ks) (only_seated is_open ks j (rw f at h)))

-- it has every open job of the places
pub all_open : (is_open : ℕ → Bool) (ks : List ℕ) (j : ℕ) → member j ks ≡ true → is_open j ≡ true → member j (open_among is_open ks) ≡ true
unfolding open_among member
all_open is_open [] j h o = h
all_open is_open (k ∷ ks) j h o =
    or_either (eqb k j) (member j ks) h
    (λ e. let t : is_open k ≡ true = rw (eqb-true k j e) o in rw t (or_first (eqb k j) (member j (open_among is_open ks)) e))
    (λ m. by_test (is_open k) (λ t. rw t (or_second (eqb k j) (member j (open_among is_open ks)) (all_open is_open ks j m o))) (λ f. rw f (all_open is_open ks j m o)))

-- it has none twice, if 0 is not open
pub none_twice : (is_open : ℕ → Bool) (ks : List ℕ) → is_open 0 ≡ false → Once ks → distinct (open_among is_open ks) ≡ true
unfolding open_among distinct
none_twice is_open [] z o = refl
none_twice is_open (k ∷ ks) z o =
    by_test (is_open k)
    (λ t. rw t (and_both (not (member k (open_among is_open ks))) (distinct (open_among is_open ks)) (rw (not_in t)) (none_twice is_open ks z o.1)))
    (λ f. rw f (none_twice is_open ks z o.1))
  where
    not_zero : is_open k ≡ true → k ≢ 0
    not_zero t e = not_both (rw e at t) z

    not_in : is_open k ≡ true → member k (open_among is_open ks) ≡ false
    not_in t = by_test (member k (open_among is_open ks)) (λ m. not_both (only_seated is_open ks k m) (o.0 (not_zero t))) (λ f. f)

-- it has no more jobs than there are places
pub no_more : (is_open : ℕ → Bool) (ks : List ℕ) → length (open_among is_open ks) ≤ length ks
unfolding open_among
no_more is_open [] = omega arith
no_more is_open (k ∷ ks) =
    let h : length (open_among is_open ks) ≤ length ks = no_more is_open ks in
    by_test (is_open k) (λ t. rw t (omega arith)) (λ f. rw f (omega arith))

-- and fewer, if a place is free and 0 is not open
fewer : (is_open : ℕ → Bool) (ks : List ℕ) → is_open 0 ≡ false → member 0 ks ≡ true → length (open_among is_open ks) < length ks
unfolding open_among member
fewer is_open [] z h = not_both h refl
fewer is_open (k ∷ ks) z h =
    or_either (eqb k 0) (member 0 ks) h
    (λ e. let f : is_open k ≡ false = rw (eqb-true k 0 e) z in let g : length (open_among is_open ks) ≤ length ks = no_more is_open ks in rw f (omega arith))
    (λ m. let g : length (open_among is_open ks) < length ks = fewer is_open ks z m in by_test (is_open k) (λ t. rw t (omega arith)) (λ f. rw f (omega arith)))

-- as many as there are places, if each names an open job
as_many : (is_open : ℕ → Bool) (ks : List ℕ) → ((k : ℕ) → member k ks ≡ true → is_open k ≡ true) → length (open_among is_open ks) ≡ length ks
unfolding open_among
as_many is_open [] h = refl
as_many is_open (k ∷ ks) h =
    rw (h k (member_first k ks)) (ap suc (as_many is_open ks (λ i m. h i (member_more k ks i m))))

-- a cell is not one of the 64 exactly if it is above 63
above_is : (c : ℕ) → leb cells c ≡ ltb 63 c
above_is c = by_test (ltb 63 c) (λ t. le-leb cells c (omega (arith, ltb-true 63 c t)) ∙ sym t) (λ f. lt-leb cells c (omega (arith, ltb-false 63 c f)) ∙ sym f)

module _ {next : ℕ} {jobs : List ℕ} {is_open : ℕ → Bool} (v : Seating next jobs is_open) where
  -- an open job's number is not 0
  pub open_not_zero : (j : ℕ) → is_open j ≡ true → j ≢ 0
  open_not_zero j o e = not_both (rw e at o) v.nobody

  -- with a place free, fewer than 32 jobs are open
  free_fewer : member 0 jobs ≡ true → length (open_among is_open jobs) < places
  free_fewer m = let h : length (open_among is_open jobs) < length jobs = fewer is_open jobs v.nobody m in omega (arith, v.size)

  -- with no place free, 32 jobs are open
  full_32 : member 0 jobs ≡ false → length (open_among is_open jobs) ≡ places
  full_32 m = as_many is_open jobs (λ k h. v.opens k (λ e. not_both (rw e at h) m) h) ∙ v.size

  -- a number that is not 0 is at least 1
  at_least : (j : ℕ) → j ≢ 0 → 1 ≤ j
  at_least j n = omega arith

  -- what is promised of the limits
  pub limits : (0 < next) × (next ≤ suc last_number) → DeskLimits next jobs is_open
  limits bounds = record {
    open_listed = λ j. by_test (is_open j) (λ t. all_open is_open jobs j (v.seats j t) t ∙ sym t)
        (λ f. by_test (member j (open_among is_open jobs)) (λ m. not_both (only_open is_open jobs j m) f) (λ g. g ∙ sym f));
    open_once = none_twice is_open jobs v.nobody v.once;
    at_most_32 = let m : length (open_among is_open jobs) ≤ length jobs = no_more is_open jobs in omega (arith, v.size);
    row_2 = λ l c. ap (λ b. letter_is has_cell l && b) (above_is c);
    row_3 = v.nobody;
    row_6 = λ l. ap (λ b. letter_is is_begin l && b)
        (by_test (member 0 jobs) (λ t. let m : length (open_among is_open jobs) < 32 = free_fewer t in rw (t, ne_eqb (length (open_among is_open jobs)) 32 (λ e. omega arith)))
        (λ f. rw (f, eq-eqb (length (open_among is_open jobs)) 32 (full_32 f))));
    open_within = λ j o. (at_least j (open_not_zero j o), omega (arith, v.below j o, bounds.1));
    open_below = v.below;
    next_within = bounds;
  }
