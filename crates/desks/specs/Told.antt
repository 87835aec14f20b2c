-- Requests by numbers, and a desk's answers to them, as literal numbers: the form of the examples of every desk (01, Lines; 01, Refusals by number).
use Rattle.std.specs.Prelude.{ℕ, zero, suc, List, [], ◌∷◌, ◌++◌, map}
use Rattle.terms.specs.declared.words.Word.{Word}
use Rattle.terms.specs.declared.words.Word.TheVariants.{Go, Wait, Back, No, Wake}
use Rattle.conflict.specs.declared.action.Action.{Action}
use Rattle.desks.specs.declared.Answer.{Answer}
use Rattle.desks.specs.AnswerWords.{word_of, number_beside}
use Rattle.desks.specs.Request.{Request}
use Rattle.desks.specs.Stepping.{Stepping}

-- an answer as its record has it: the word, and the number beside it (01, Lines)
pub record Said : Type 0 where
  pub word : Word
  pub number : ℕ

-- an answer in that form
unfoldable pub told_of : Answer → Said
told_of a = record { word = word_of a; number = number_beside a }

-- the word wake with a job
abbrev pub wake : ℕ → Said
wake j = record { word = Wake; number = j }

-- a step in that form: its answer, and then the word wake for each wake (01, Lines)
unfoldable pub step_told : Answer → List Action → List Said
step_told said wakes = told_of said ∷ map (λ (a : Action). wake a.job) wakes

-- a desk's answers to requests, in their order, each followed by the wakes of its step
unfoldable pub answers_of : {S : Type 0} → Stepping S → S → List Request → List Said
answers_of step d [] = []
answers_of step d (r ∷ rs) = step_told (step d r).said (step d r).wakes ++ answers_of step (step d r).desk rs

-- a desk started at a first number, requests to it, and its answers and wakes
pub record Example : Type 0 where
  pub start : ℕ
  pub requests : List Request
  pub answers : List Said

-- a request by its three numbers; the kinds are 98 begin, 99 commit, 97 give up, 116 retry, 114 read, 119 write, 105 increment, 117 u
abbrev pub request : ℕ → ℕ → ℕ → Request
request kind job cell = record { kind = kind; job = job; cell = cell }

-- this many begins
abbrev pub begins : ℕ → List Request
begins zero = []
begins (suc n) = request 98 0 0 ∷ begins n

-- the answer go with a job
abbrev pub go : ℕ → Said
go j = record { word = Go; number = j }

-- wait with a job
abbrev pub wait : ℕ → Said
wait j = record { word = Wait; number = j }

-- back with a job
abbrev pub back : ℕ → Said
back j = record { word = Back; number = j }

-- no with a refusal's number
abbrev pub no : ℕ → Said
no n = record { word = No; number = n }

-- this many jobs go, with numbers from the one given
abbrev pub go_from : ℕ → ℕ → List Said
go_from j zero = []
go_from j (suc n) = go j ∷ go_from (suc j) n
