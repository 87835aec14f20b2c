-- What is promised of a desk's limits: at most 32 open jobs, their numbers, and rows 2, 3 and 6 of the table as they are printed (01, What is delivered; 01, Refusals by number).
use Rattle.std.specs.Prelude.{ℕ, ◌<◌, ◌≤◌, ◌≡◌, Bool, true, false, ◌&&◌, List, ltb, eqb, length, Option}
use Rattle.laws.specs.Lists.{member, distinct}
use Rattle.terms.specs.declared.letters.Letter.{Letter}
use Rattle.terms.specs.Letters.{has_cell}
use Rattle.desks.specs.Places.{open_among}
use Rattle.desks.specs.Table.{cell_above, all_open, is_begin, letter_is}

-- for a desk with this next number, these places and this test of being open
pub record DeskLimits (next : ℕ) (jobs : List ℕ) (is_open : ℕ → Bool) : Type 0 where
  -- the open jobs are those that the places name, each once, and at most 32
  pub open_listed : (j : ℕ) → member j (open_among is_open jobs) ≡ is_open j
  pub open_once : distinct (open_among is_open jobs) ≡ true
  pub at_most_32 : length (open_among is_open jobs) ≤ 32
  -- rows 2, 3 and 6 of the table as printed: cell above 63; 0 is never open; begin with 32 open jobs
  pub row_2 : (l : Option Letter) (c : ℕ) → cell_above l c ≡ (letter_is has_cell l && ltb 63 c)
  pub row_3 : is_open 0 ≡ false
  pub row_6 : (l : Option Letter) → all_open l jobs ≡ (letter_is is_begin l && eqb (length (open_among is_open jobs)) 32)
  -- an open job's number is from 1 to 4,294,967,295, and below the next one
  pub open_within : (j : ℕ) → is_open j ≡ true → (1 ≤ j) × (j ≤ 4_294_967_295)
  pub open_below : (j : ℕ) → is_open j ≡ true → j < next
  pub next_within : (1 ≤ next) × (next ≤ 4_294_967_296)
