-- The numbers of jobs, on any desk whose steps each give the next number or none: the next number never falls, the numbers given rise, none is given twice, and none is above 4,294,967,295 (01, Jobs and their numbers).
-- Assumes nothing.
use Rattle.std.specs.Prelude.{Some}
use Prim.Native.Nat.{ℕ, suc, ◌<◌, ◌≤◌}
use mathlib.Core.Path.{◌≡◌, refl, sym, ap, subst, ◌∙◌}
use mathlib.Core.Bool.{true, false, not, ◌&&◌}
use mathlib.Core.List.{List, [], ◌∷◌, ◌++◌}
use native.Mathlib.Omega.{arith}
use borrow.Author.Tests.{eqb-true, eqb-false, ltb-true, ltb-false, lt-ltb, le-ltb}
use lib.Dec.{eqb, ltb}
use Rattle.laws.specs.Choice.{by_test, not_both}
use Rattle.terms.specs.declared.letters.Letter.{Letter}
use Rattle.terms.specs.declared.letters.Letter.TheVariants.{Begin}
use Rattle.terms.specs.declared.refusals.Refusal.{Refusal}
use Rattle.terms.specs.Letters.{letter_of}
use Rattle.terms.specs.Limits.{last_number}
use Rattle.conflict.specs.History.{History}
use Rattle.laws.specs.Lists.{member, distinct}
use Rattle.laws.proofs.Parts.{or_either, and_both}
use Rattle.laws.proofs.Lists.{member_first, member_more}
use Rattle.desks.specs.declared.Answer.{Answer}
use Rattle.desks.specs.declared.Answer.TheVariants.{Go, No}
use Rattle.desks.specs.Request.{Request}
use Rattle.desks.specs.Stepping.{Stepping, through}
use Rattle.desks.specs.Started.{StartedOn, fresh, after}
use Rattle.desks.specs.Table.{is_begin, letter_is}
use Rattle.desks.specs.Requests.{number_in, given_by, gives, Rising}
use Rattle.desks.specs.Course.{course}
use Rattle.desks.specs.Numbers.{Gives, none_given, one_given, Numbers, NumbersFrom}

-- numbers that rise are different
pub rising_distinct : (ns : List ℕ) → Rising ns → distinct ns ≡ true
unfolding distinct
rising_distinct [] f = refl
rising_distinct (n ∷ ns) f =
    and_both (not (member n ns)) (distinct ns) (by_test (member n ns) (λ t. let l : n < n = f.0 n t in absurd (omega arith)) (λ g. rw g)) (rising_distinct ns f.1)

-- a request of another letter gives no number
pub other_letter : (r : Request) {l : Letter} → letter_of r.kind ≡ Some l → is_begin l ≡ false → (x : Answer) → given_by r x ≡ []
unfolding given_by
other_letter r e f x = rw (e, f)

-- nor does a refusal
pub refusal_none : (r : Request) (why : Refusal) → given_by r (No why) ≡ []
unfolding given_by number_in
refusal_none r why = by_test (letter_is is_begin (letter_of r.kind)) (λ t. rw t) (λ f. rw f)

-- a begin that goes gives the number in its answer
begin_given : (r : Request) (j : ℕ) → letter_of r.kind ≡ Some Begin → (x : Answer) → x ≡ Go j → given_by r x ≡ j ∷ []
unfolding given_by number_in
begin_given r j l x e = rw (e, l)

-- if a number was given, it is the one that was next
gave_next : {m : ℕ} {ns : List ℕ} {n : ℕ} (j : ℕ) → Gives m ns n → ns ≡ j ∷ [] → (j ≡ m) × (n ≡ suc j)
gave_next j (none_given e f) q = let z : [] ≡ j ∷ [] = sym e ∙ q in let y : ◌≡◌ {A = ℕ} 0 1 = cc in absurd (omega arith)
gave_next {m} j (one_given e l f) q = let z : m ∷ [] ≡ j ∷ [] = sym e ∙ q in let y : m ≡ j = cc in (sym y, f ∙ ap suc y)

-- the next number does not fall in a step
not_lower : {m : ℕ} {ns : List ℕ} {n : ℕ} → Gives m ns n → m ≤ n
not_lower (none_given n e) = omega (arith, e)
not_lower (one_given n l e) = omega (arith, e)

module _ {S : Type 0} (step : Stepping S) (next : S → ℕ) (each : (d : S) (r : Request) → Gives (next d) (given_by r (step d r).said) (next (step d r).desk)) where
  -- the next number never falls
  pub next_rises : (d : S) (r : Request) → next d ≤ next (step d r).desk
  next_rises d r = not_lower (each d r)

  -- nor over several requests
  pub next_rises_on : (d : S) (rs : List Request) → next d ≤ next (through step d rs)
  next_rises_on d [] = omega arith
  next_rises_on d (r ∷ rs) =
      let a : next d ≤ next (step d r).desk = next_rises d r in
      let b : next (step d r).desk ≤ next (through step (step d r).desk rs) = next_rises_on (step d r).desk rs in
      omega arith

  -- a number given by the requests is at least the next number before them, below the next number after them, and at most 4,294,967,295
  pub given_within : (d : S) (rs : List Request) (m : ℕ) → member m (gives step d rs) ≡ true → (next d ≤ m) × (m < next (through step d rs)) × (m ≤ last_number)
  unfolding gives
  given_within d [] m h = unfold member in not_both h refl
  given_within d (r ∷ rs) m h = by_gives (each d r) (given_within (step d r).desk rs m)
    where
      Within : S → Type 0
      Within e = (next e ≤ m) × (m < next (through step (step d r).desk rs)) × (m ≤ last_number)

      by_gives : Gives (next d) (given_by r (step d r).said) (next (step d r).desk) → (member m (gives step (step d r).desk rs) ≡ true → Within (step d r).desk) → Within d
      by_gives (none_given q e) f = let w = f (rw q at h) in (omega (arith, e, w.0), w.1, w.2)
      by_gives (one_given q l e) f =
          unfold member in or_either (eqb (next d) m) (member m (gives step (step d r).desk rs)) (rw q at h)
          (λ t. let p : next d ≡ m = eqb-true (next d) m t in let b : next (step d r).desk ≤ next (through step (step d r).desk rs) = next_rises_on (step d r).desk rs in (omega arith, omega (arith, e), omega arith))
          (λ k. let w = f k in (omega (arith, e, w.0), w.1, w.2))

  -- and every number between those two was given
  pub given_all : (d : S) (rs : List Request) (m : ℕ) → next d ≤ m → m < next (through step d rs) → member m (gives step d rs) ≡ true
  unfolding gives
  given_all d [] m l u = absurd (omega arith)
  given_all d (r ∷ rs) m l u = by_gives (each d r) (λ k. given_all (step d r).desk rs m k u)
    where
      above : (next d ≡ m → ⊥) → next (step d r).desk ≡ suc (next d) → next (step d r).desk ≤ m
      above n e = omega arith

      by_gives : Gives (next d) (given_by r (step d r).said) (next (step d r).desk) → (next (step d r).desk ≤ m → member m (gives step (step d r).desk rs) ≡ true) → member m (given_by r (step d r).said ++ gives step (step d r).desk rs) ≡ true
      by_gives (none_given q e) f = rw q (f (omega (arith, e)))
      by_gives (one_given q l' e) f =
          rw q (by_test (eqb (next d) m) (λ t. subst (λ x. member x (next d ∷ gives step (step d r).desk rs) ≡ true) (eqb-true (next d) m t) (member_first (next d) (gives step (step d r).desk rs)))
          (λ n. member_more (next d) (gives step (step d r).desk rs) m (f (above (eqb-false (next d) m n) e))))

  -- over any list of requests the numbers given rise
  pub given_rises : (d : S) (rs : List Request) → Rising (gives step d rs)
  unfolding gives
  given_rises d [] = tt
  given_rises d (r ∷ rs) = by_gives (each d r) (given_rises (step d r).desk rs)
    where
      by_gives : Gives (next d) (given_by r (step d r).said) (next (step d r).desk) → Rising (gives step (step d r).desk rs) → Rising (given_by r (step d r).said ++ gives step (step d r).desk rs)
      by_gives (none_given q e) f = rw q f
      by_gives (one_given q l e) f = rw q (λ m h. omega (arith, e, (given_within (step d r).desk rs m h).0), f)

  -- a begin that goes gives the next number, and the one after it is next
  pub begin_gives : (d : S) (r : Request) (j : ℕ) → letter_of r.kind ≡ Some Begin → (step d r).said ≡ Go j → (j ≡ next d) × (next (step d r).desk ≡ suc j)
  begin_gives d r j l e = gave_next j (each d r) (begin_given r j l (step d r).said e)

  -- what is promised of the numbers
  pub numbers : (d : S) → Numbers next (course (λ e. e) step d)
  numbers d = record {
    begin_gives = begin_gives d;
    next_rises_on = next_rises_on d;
    given_rises = given_rises d;
    given_once = λ rs. rising_distinct (gives step d rs) (given_rises d rs);
    later_larger = λ rs r j l e m k. omega (arith, (given_within d rs m k).1, (begin_gives (through step d rs) r j l e).0);
  }

  module _ (new : ℕ → S) (first : (n : ℕ) → next (new n) ≡ n) where
    -- the next number of a started desk is from 1 to one past the last
    pub next_bounds : {d : S} {h : History} → StartedOn step new d h → (0 < next d) × (next d ≤ suc last_number)
    next_bounds (fresh n l u) = let e : next (new n) ≡ n = first n in (omega arith, omega arith)
    next_bounds (after {d = d} s r) = by_gives (each d r) (next_bounds s)
      where
        by_gives : {ns : List ℕ} {m : ℕ} → Gives (next d) ns m → (0 < next d) × (next d ≤ suc last_number) → (0 < m) × (m ≤ suc last_number)
        by_gives (none_given n e) w = (omega (arith, e, w.0), omega (arith, e, w.1))
        by_gives (one_given n l e) w = (omega (arith, e), omega (arith, e))

    -- what is promised of the numbers from a start on
    pub numbers_from : (n : ℕ) → n ≤ last_number → NumbersFrom next n (course (λ e. e) step (new n))
    numbers_from n le = record {
      given_from = λ rs m h. let w = given_within (new n) rs m h in (omega (arith, first n, w.0), w.2);
      row_7 = λ rs l. ap (λ b. letter_is is_begin l && b) (by_test (member last_number (gives step (new n) rs)) (λ t. lt-ltb _ _ (given_within (new n) rs last_number t).1 ∙ sym t) (λ f. le-ltb _ _ (below rs f) ∙ sym f));
    }
      where
        below : (rs : List Request) → member last_number (gives step (new n) rs) ≡ false → next (through step (new n) rs) ≤ last_number
        below rs f = by_test (ltb last_number (next (through step (new n) rs))) (λ t. not_both (given_all (new n) rs last_number (omega (arith, first n)) (ltb-true last_number _ t)) f) (ltb-false last_number _)
