-- When a desk refuses a request, and with which number, in the paper's words and numbers: by the byte, the job, the cell and the next number alone, without rows or an order of tests (01, Refusals by number; 02, No. 1 and No. 6).
-- This file has the refusals that every desk gives, 1, 2, 3, 6 and 7, and the promise about them. The numbers are written out, since these are the words of promises.
use Rattle.std.specs.Prelude.{ℕ, ◌<◌, ◌≤◌, ◌≡◌, ◌↔◌, Bool, true, false, List, [], ◌∷◌, length}
use Rattle.laws.specs.Lists.{member, distinct}
use Rattle.terms.specs.declared.refusals.Refusal.{Refusal}
use Rattle.terms.specs.Refusals.{number_of}
use Rattle.desks.specs.declared.Answer.{Answer}
use Rattle.desks.specs.declared.Answer.TheVariants.{No}
use Rattle.desks.specs.Request.{Request}
use Rattle.desks.specs.Course.{Course, now, to}

-- the request's byte is one of those listed
abbrev pub IsOneOf : Request → List ℕ → Type 0
IsOneOf r bytes = member r.kind bytes ≡ true

-- it asks for a cell: its byte is that of r, w, i or u (01, Lines; 02, No. 1)
abbrev pub AsksForCell : Request → Type 0
AsksForCell r = IsOneOf r (114 ∷ 119 ∷ 105 ∷ 117 ∷ [])

-- 32 jobs are open: 32 different ones can be named (01, refusal 6)
pub record Open32 (open' : ℕ → Bool) : Type 0 where
  pub jobs : List ℕ
  pub many : length jobs ≡ 32
  pub once : distinct jobs ≡ true
  pub each : (j : ℕ) → member j jobs ≡ true → open' j ≡ true

-- what every desk refuses, by number. 1: the byte is not one of b, c, a, t, r, w, i and u. 2: the byte is r, w, i or u, its job may ask, and the cell is above 63. 3: the byte is one of the eight other than b, and the job is not open.
-- 6: the byte is b, 4,294,967,295 has not been given, and 32 jobs are open. 7: the byte is b, and 4,294,967,295 has been given (01, Refusals by number)
pub data RefusedAlike (open' : ℕ → Bool) (next : ℕ) (may_ask : Type 0) (r : Request) : ℕ → Type 0 where
  of_other_kind : member r.kind (98 ∷ 99 ∷ 97 ∷ 116 ∷ 114 ∷ 119 ∷ 105 ∷ 117 ∷ []) ≡ false → RefusedAlike open' next may_ask r 1
  above : AsksForCell r → may_ask → 63 < r.cell → RefusedAlike open' next may_ask r 2
  not_open : IsOneOf r (99 ∷ 97 ∷ 116 ∷ 114 ∷ 119 ∷ 105 ∷ 117 ∷ []) → open' r.job ≡ false → RefusedAlike open' next may_ask r 3
  all_open : r.kind ≡ 98 → next ≤ 4_294_967_295 → Open32 open' → RefusedAlike open' next may_ask r 6
  no_number_left : r.kind ≡ 98 → 4_294_967_295 < next → RefusedAlike open' next may_ask r 7

-- the answer is a refusal with this number
abbrev pub RefusedBy : Answer → ℕ → Type 0
RefusedBy said n = (why : Refusal) × (said ≡ No why) × (number_of why ≡ n)

-- what is promised of refusals, given the words of a desk
pub record RefusesAs {D : Type 0} (refused_as : D → Request → ℕ → Type 0) (k : Course D) : Type 0 where
  -- a step is refused with a number exactly if the words say so
  pub as_worded : (r : Request) (n : ℕ) → RefusedBy (to k r).said n ↔ refused_as (now k) r n
  -- if a read of a cell is refused, a write, an increment and a u of it are refused alike, and the other way round
  pub asks_alike : (r s : Request) → AsksForCell r → AsksForCell s → r.job ≡ s.job → r.cell ≡ s.cell → (why : Refusal) → (to k r).said ≡ No why → (to k s).said ≡ No why
