-- What is promised of the numbers of jobs, by what a desk shows: begins give the next number, and the numbers given rise (01, Jobs and their numbers).
use Rattle.std.specs.Prelude.{ℕ, suc, ◌<◌, ◌≤◌, ◌≡◌, true, ◌&&◌, List, [], ◌∷◌, Option, Some}
use Rattle.laws.specs.Lists.{member, distinct}
use Rattle.terms.specs.declared.letters.Letter.{Letter}
use Rattle.terms.specs.declared.letters.Letter.TheVariants.{Begin}
use Rattle.terms.specs.Letters.{letter_of}
use Rattle.terms.specs.Limits.{last_number}
use Rattle.desks.specs.declared.Answer.TheVariants.{Go}
use Rattle.desks.specs.Request.{Request}
use Rattle.desks.specs.Table.{is_begin, letter_is, no_number_left}
use Rattle.desks.specs.Requests.{Rising}
use Rattle.desks.specs.Course.{Course, now, to}

-- what a request does to the numbers: it gives none and the next number stays, or it gives the next number, and the one after that is next
pub data Gives (next : ℕ) (given : List ℕ) (after : ℕ) : Type 0 where
  none_given : given ≡ [] → after ≡ next → Gives next given after
  one_given : given ≡ next ∷ [] → next ≤ last_number → after ≡ suc next → Gives next given after

-- for a desk whose next number is read off in this way
pub record Numbers {D : Type 0} (next : D → ℕ) (k : Course D) : Type 0 where
  -- a begin that goes gives the next number (01, Jobs and their numbers)
  pub begin_gives : (r : Request) (j : ℕ) → letter_of r.kind ≡ Some Begin → (to k r).said ≡ Go j → (j ≡ next (now k)) × (next (to k r).desk ≡ suc j)
  -- the next number never falls
  pub next_rises_on : (rs : List Request) → next (now k) ≤ next (k.seen rs)
  -- over any list of requests the numbers given rise, so no number is given twice
  pub given_rises : (rs : List Request) → Rising (k.gave [] rs)
  pub given_once : (rs : List Request) → distinct (k.gave [] rs) ≡ true
  -- no job begun later is older: a begin that goes after some requests gives a number larger than all that they gave (demand 3)
  pub later_larger : (rs : List Request) (r : Request) (j : ℕ) → letter_of r.kind ≡ Some Begin → (k.does rs r).said ≡ Go j → (m : ℕ) → member m (k.gave [] rs) ≡ true → m < j

-- what is promised of the numbers from a start at n on
pub record NumbersFrom {D : Type 0} (next : D → ℕ) (n : ℕ) (k : Course D) : Type 0 where
  -- a number given is from n to 4,294,967,295
  pub given_from : (rs : List Request) (m : ℕ) → member m (k.gave [] rs) ≡ true → (n ≤ m) × (m ≤ 4_294_967_295)
  -- row 7 of the table as printed: the next number is above 4,294,967,295 exactly if that number was given
  pub row_7 : (rs : List Request) (l : Option Letter) → no_number_left l (next (k.seen rs)) ≡ (letter_is is_begin l && member 4_294_967_295 (k.gave [] rs))
