-- Several requests one after another on any desk: the numbers they give and the history they write (01, Jobs and their numbers).
use Rattle.std.specs.Prelude.{ℕ, ◌<◌, ◌≡◌, true, List, [], ◌∷◌, ◌++◌}
use Rattle.laws.specs.Choice.{pick}
use Rattle.terms.specs.Letters.{letter_of}
use Rattle.laws.specs.Lists.{member}
use Rattle.conflict.specs.History.{History}
use Rattle.desks.specs.declared.Answer.{Answer}
use Rattle.desks.specs.declared.Answer.TheVariants.{Go, Wait, Back as sent_back, No}
use Rattle.desks.specs.Request.{Request}
use Rattle.desks.specs.Stepping.{Stepping}
use Rattle.desks.specs.Records.{records_by}
use Rattle.desks.specs.Table.{is_begin, letter_is}

-- the number in an answer go
unfoldable pub number_in : Answer → List ℕ
number_in (Go j) = j ∷ []
number_in (Wait j) = []
number_in (sent_back j) = []
number_in (No why) = []

-- the number that a request gives: a begin that goes gives one (01, Jobs and their numbers)
unfoldable pub given_by : Request → Answer → List ℕ
given_by r said = pick (letter_is is_begin (letter_of r.kind)) (number_in said) []

-- the numbers that the requests give on any desk, in their order
unfoldable pub gives : {S : Type 0} → Stepping S → S → List Request → List ℕ
gives step d [] = []
gives step d (r ∷ rs) = given_by r (step d r).said ++ gives step (step d r).desk rs

-- strictly increasing: each number is smaller than all that come after it
abbrev pub Rising : List ℕ → Type 0
Rising [] = Unit {0}
Rising (n ∷ ns) = ((m : ℕ) → member m ns ≡ true → n < m) × Rising ns

-- the history that the requests write on any desk, in their order
unfoldable pub writes : {S : Type 0} → Stepping S → S → List Request → History
writes step d [] = []
writes step d (r ∷ rs) = records_by step d r ++ writes step (step d r).desk rs
