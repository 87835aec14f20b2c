-- A request by numbers, and the fields of it that its kind uses (01, Refusals by number).
use Rattle.std.specs.Prelude.{ℕ, ◌≡◌, true, Option}
use Rattle.terms.specs.declared.letters.Letter.{Letter}
use Rattle.terms.specs.Letters.{has_job, has_cell}
use Rattle.desks.specs.Table.{letter_is}

-- a request by numbers: kind is the letter's byte (01, Refusals by number: any numbers)
pub record Request : Type 0 where
  pub kind : ℕ
  pub job : ℕ
  pub cell : ℕ

-- two requests are alike for their letter: the same job if it has a job, and the same cell if it has a cell
pub record Alike (l : Option Letter) (r s : Request) : Type 0 where
  pub job : letter_is has_job l ≡ true → r.job ≡ s.job
  pub cell : letter_is has_cell l ≡ true → r.cell ≡ s.cell
