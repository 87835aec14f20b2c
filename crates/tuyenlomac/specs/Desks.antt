-- What a start answers and leaves in a desk that the caller keeps, and how the wakes of a step are told in three lists of numbers (01, refusal 10; 01, rule 4).
use Rattle.std.specs.Prelude.{ℕ, List, map, Result, Ok, Err}
use Rattle.laws.specs.Lists.{filled}
use Rattle.terms.specs.declared.letters.Letter.TheVariants.{Asks}
use Rattle.terms.specs.Letters.{byte_of}
use Rattle.terms.specs.declared.refusals.Refusal.{Refusal}
use Rattle.terms.specs.Refusals.{number_of}
use Rattle.conflict.specs.declared.action.Action.{Action}
use Rattle.conflict.specs.declared.action.Kind.{Kind}
use Rattle.text_rules.specs.EventRecords.{ask_by}
use Rattle.desk_arrays.specs.declared.state.Desk.{Desk}
use Rattle.stamp_arrays.specs.declared.state.Stamps.{Stamps}

-- the answer to a start: 0, or the refusal's number (01, refusal 10)
unfoldable pub start_number : Result Desk Refusal → ℕ
start_number (Ok d) = 0
start_number (Err why) = number_of why

-- what is then in the desk's place: the started desk, or what was there
unfoldable pub start_leaves : Desk → Result Desk Refusal → Desk
start_leaves before (Ok d) = d
start_leaves before (Err why) = before

-- the answer to the start of a timestamp desk
unfoldable pub stamps_number : Result Stamps Refusal → ℕ
stamps_number (Ok d) = 0
stamps_number (Err why) = number_of why

-- and what is then in its place
unfoldable pub stamps_leaves : Stamps → Result Stamps Refusal → Stamps
stamps_leaves before (Ok d) = d
stamps_leaves before (Err why) = before

-- three lists that a caller lends for the wakes: their jobs, their cells, and the bytes of what they do there
pub record Lists : Type 0 where
  pub jobs : List ℕ
  pub cells : List ℕ
  pub kinds : List ℕ

-- three lists as one record
abbrev pub lists_of : List ℕ → List ℕ → List ℕ → Lists
lists_of jobs cells kinds = record { jobs = jobs; cells = cells; kinds = kinds }

-- the byte of the letter that a history record has for an action: r, w or i (01, Lines: History records)
unfoldable pub kind_byte : Kind → ℕ
kind_byte k = byte_of (Asks (ask_by k))

-- wakes told in three lists: they fill the first places of each, in order, and the rest stay
unfoldable pub wakes_in : List Action → Lists → Lists
wakes_in ws l =
    lists_of (filled (map (λ (a : Action). a.job) ws) l.jobs) (filled (map (λ (a : Action). a.cell) ws) l.cells)
    (filled (map (λ (a : Action). kind_byte a.kind) ws) l.kinds)
