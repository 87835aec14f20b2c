-- A caller asks for a job's chain and lends a list: when the question is refused, what is answered, and what the list then holds (02, No. 3).
use Rattle.std.specs.Prelude.{ℕ, Bool, false, List, [], ◌∷◌, ltb, length, Option, None, Some, Result, Ok, Err}
use Rattle.laws.specs.Lists.{first_of, filled}
use Rattle.terms.specs.declared.refusals.Refusal.{Refusal}
use Rattle.terms.specs.declared.refusals.Refusal.TheVariants.{UnknownKind, CellAbove, NotOpen, Waiting, SentBack, AllOpen, NoNumberLeft, Running, BadLine, StartedAtZero, TooManyLines, JobOutside, Ended, ShortOrder, NoRoom, TooLong, ShortList, NoRetry}
use Rattle.terms.specs.Refusals.{number_of, field_of}
use Rattle.terms.specs.Limits.{places}
use Rattle.desk_rules.specs.Desk.{Status, Desk}
use Rattle.desk_rules.specs.Table.{not_open, is_sent_back}
use Rattle.desk_rules.specs.Chain.{chain_of}

-- when the row of each refusal holds, by what the job is doing and how many places are lent: 3, the job is not open; 5, the job was sent back; 18, fewer than 32 places
unfoldable pub chain_holds : Status → ℕ → Refusal → Bool
chain_holds s n UnknownKind = false
chain_holds s n CellAbove = false
chain_holds s n NotOpen = not_open s
chain_holds s n Waiting = false
chain_holds s n SentBack = is_sent_back s
chain_holds s n AllOpen = false
chain_holds s n NoNumberLeft = false
chain_holds s n Running = false
chain_holds s n (BadLine field) = false
chain_holds s n StartedAtZero = false
chain_holds s n TooManyLines = false
chain_holds s n JobOutside = false
chain_holds s n Ended = false
chain_holds s n ShortOrder = false
chain_holds s n NoRoom = false
chain_holds s n TooLong = false
chain_holds s n ShortList = ltb n places
chain_holds s n NoRetry = false

-- the order of the tests: 3, then 5, then 18
unfoldable pub chain_order : List Refusal
chain_order = NotOpen ∷ SentBack ∷ ShortList ∷ []

-- which refusal is due, if any
unfoldable pub chain_due : Status → ℕ → Option Refusal
chain_due s n = first_of (chain_holds s n) chain_order

-- what is answered, and what the list then holds
pub record ChainTold : Type 0 where
  pub said : Result ℕ Refusal
  pub list : List ℕ

-- a refusal leaves the list as it was; otherwise the chain is in its first places, the answer is how many jobs it has, and the unused places stay
unfoldable pub chain_told : List ℕ → List ℕ → Option Refusal → ChainTold
chain_told js list (Some why) = record { said = Err why; list = list }
chain_told js list None = record { said = Ok (length js); list = filled js list }

-- a question to a desk for the chain of job j, with a list lent for it
unfoldable pub ask_chain : Desk → ℕ → List ℕ → ChainTold
ask_chain d j list = chain_told (chain_of d j) list (chain_due (d.stat j) (length list))

-- the answer in two numbers: 0 and how many jobs, or the refusal's number and the field of a 9, which is never given here
unfoldable pub chain_numbers : Result ℕ Refusal → List ℕ
chain_numbers (Ok n) = 0 ∷ n ∷ []
chain_numbers (Err why) = number_of why ∷ field_of why ∷ []
