-- Requests by numbers, and then questions for a chain: what is answered and what the list then holds (02, No. 3).
use Rattle.std.specs.Prelude.{ℕ, List, [], ◌∷◌, ◌++◌, take, replicate}
use Rattle.desks.specs.Request.{Request}
use Rattle.desk_rules.specs.Desk.{fresh_desk}
use Rattle.desk_rules.specs.Requests.{desk_after}
use Rattle.desk_rules.specs.AskedChain.{ask_chain, chain_numbers}
use Rattle.desks.specs.Told.{request, begins}

-- a question for a job's chain with this many places lent, each holding 7 before; the answer in its two numbers, and the first places of the list after it
pub record Question : Type 0 where
  pub job : ℕ
  pub places : ℕ
  pub numbers : List ℕ
  pub list : List ℕ

-- requests to a desk that was started at 1, and then questions
pub record ChainExample : Type 0 where
  pub requests : List Request
  pub questions : List Question

-- the answer to a question after requests, and the first places of the list
unfoldable pub answered_to : List Request → Question → List (List ℕ)
answered_to rs q =
    let t = ask_chain (desk_after (fresh_desk 1) rs) q.job (replicate q.places 7) in
    chain_numbers t.said ∷ take 5 t.list ∷ []

-- what the example says of it
unfoldable pub said_of : Question → List (List ℕ)
said_of q = q.numbers ∷ q.list ∷ []

-- the answer with this many jobs, whose numbers are in the first places of a list of 32
abbrev pub told : ℕ → ℕ → List ℕ → Question
told job n js = record { job = job; places = 32; numbers = 0 ∷ n ∷ []; list = take 5 (js ++ replicate 5 7) }

-- a refusal, with this many places lent, which stay
abbrev pub refused_with : ℕ → ℕ → ℕ → Question
refused_with job places why = record { job = job; places = places; numbers = why ∷ 0 ∷ []; list = take 5 (replicate places 7) }

-- a job asks to read a cell
abbrev pub reads : ℕ → ℕ → Request
reads = request 114

-- a job asks to write it
abbrev pub writes : ℕ → ℕ → Request
writes = request 119

-- a job asks to read it with intent to write
abbrev pub intends : ℕ → ℕ → Request
intends = request 117

-- the night's first lines: job 3 reads, 2 asks to write and waits, 1 asks to read and waits behind it; the youngest in the way of 1 is the holder, not the job ahead
abbrev pub two_wait : ChainExample
two_wait =
    record {
      requests = begins 3 ++ reads 3 9 ∷ writes 2 9 ∷ reads 1 9 ∷ [];
      questions = told 1 2 (1 ∷ 3 ∷ []) ∷ told 2 2 (2 ∷ 3 ∷ []) ∷ told 3 1 (3 ∷ []) ∷ [];
    }

-- each waits for the next: 1 for 2, 2 for 3, 3 for 4, and 4 runs
abbrev pub one_after_another : ChainExample
one_after_another =
    record {
      requests = begins 4 ++ writes 2 2 ∷ writes 3 3 ∷ writes 4 4 ∷ writes 3 4 ∷ writes 2 3 ∷ writes 1 2 ∷ [];
      questions = told 1 4 (1 ∷ 2 ∷ 3 ∷ 4 ∷ []) ∷ told 2 3 (2 ∷ 3 ∷ 4 ∷ []) ∷ told 3 2 (3 ∷ 4 ∷ []) ∷ told 4 1 (4 ∷ []) ∷ [];
    }

-- of several holders the youngest counts, and a waiting promotion's own hold is left out: 1, 2 and 3 read, and 1 asks to write
abbrev pub own_hold_left_out : ChainExample
own_hold_left_out =
    record {
      requests = begins 3 ++ reads 1 5 ∷ reads 3 5 ∷ reads 2 5 ∷ writes 1 5 ∷ [];
      questions = told 1 2 (1 ∷ 3 ∷ []) ∷ told 2 1 (2 ∷ []) ∷ [];
    }

-- beside a reader the holder of a U is not the youngest in the way: 4 reads, 3 has U, 2 asks to read and waits, and 1 waits behind it with its u
abbrev pub reader_beside_u : ChainExample
reader_beside_u =
    record {
      requests = begins 4 ++ reads 4 5 ∷ intends 3 5 ∷ reads 2 5 ∷ intends 1 5 ∷ [];
      questions = told 2 2 (2 ∷ 4 ∷ []) ∷ told 1 2 (1 ∷ 4 ∷ []) ∷ told 3 1 (3 ∷ []) ∷ told 4 1 (4 ∷ []) ∷ [];
    }

-- and if the holder of the U is the youngest, the chain goes on to it: 2 reads, 3 has U, and 1 asks to read
abbrev pub youngest_has_u : ChainExample
youngest_has_u = record { requests = begins 3 ++ reads 2 5 ∷ intends 3 5 ∷ reads 1 5 ∷ []; questions = told 1 2 (1 ∷ 3 ∷ []) ∷ told 3 1 (3 ∷ []) ∷ [] }

-- a U that waits to become X leaves its own hold out: 3 reads, 2 has U and asks to write, and 1 asks to read behind it
abbrev pub own_u_left_out : ChainExample
own_u_left_out =
    record {
      requests = begins 3 ++ reads 3 5 ∷ intends 2 5 ∷ writes 2 5 ∷ reads 1 5 ∷ [];
      questions = told 2 2 (2 ∷ 3 ∷ []) ∷ told 1 2 (1 ∷ 3 ∷ []) ∷ [];
    }

-- the refusals and their order: job 1 waits for 3, job 2 was sent back, 4 has committed, and 0 and 9 were never open
abbrev pub refusals : ChainExample
refusals =
    record {
      requests = begins 4 ++ writes 3 5 ∷ writes 1 6 ∷ writes 1 5 ∷ writes 2 6 ∷ request 99 4 0 ∷ [];
      questions =
          refused_with 0 32 3 ∷ refused_with 9 32 3 ∷ refused_with 4 32 3 ∷ refused_with 4 31 3 ∷ refused_with 2 32 5 ∷ refused_with 2 0 5
          ∷ refused_with 1 31 18 ∷ refused_with 3 31 18 ∷ refused_with 3 0 18 ∷ told 1 2 (1 ∷ 3 ∷ []) ∷ told 3 1 (3 ∷ []) ∷ [];
    }

-- all of these examples
abbrev pub chain_examples : List ChainExample
chain_examples = two_wait ∷ one_after_another ∷ own_hold_left_out ∷ reader_beside_u ∷ youngest_has_u ∷ own_u_left_out ∷ refusals ∷ []
