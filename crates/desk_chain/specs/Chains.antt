-- The chain over the desk's arrays. The youngest job in a waiter's way always holds its cell, and every other holder is younger than the waiter; so only holders with a larger number are looked at (02, No. 3).
use Rattle.std.specs.Prelude.{ℕ, zero, suc, Bool, not, ◌&&◌, List, [], ◌∷◌, eqb, ltb, length, get_or}
use Rattle.laws.specs.Choice.{pick}
use Rattle.laws.specs.Lists.{pos}
use Rattle.terms.specs.Limits.{places, cells, last_number}
use Rattle.conflict.specs.Modes.{is_free}
use Rattle.desk_rules.specs.Chain.{younger_than}
use Rattle.desk_rules.specs.AskedChain.{ChainTold, chain_due, chain_told}
use Rattle.desk_arrays.specs.declared.state.Desk.{Desk}
use Rattle.desk_arrays.specs.Codes.{waiting_code}
use Rattle.desk_arrays.specs.Places.{mode_at}
use Rattle.desk_arrays.specs.Stands.{status_by}

-- whether place q holds the cell and its number is above the one given
unfoldable pub holds_above : List ℕ → List ℕ → ℕ → ℕ → ℕ → Bool
holds_above number held c age q = not (is_free (mode_at held c q)) && ltb age (get_or number q 0)

-- the holder of the cell with the largest number above the job's, among the places below n, or 32
unfoldable pub holder_above : List ℕ → List ℕ → ℕ → ℕ → ℕ → ℕ
holder_above number held c job zero = places
holder_above number held c job (suc n) =
    let best = holder_above number held c job n in
    pick (holds_above number held c (get_or number best job) n) n best

module _ (number status cell held : List ℕ) where
  -- the place of the next job after the one at place p, or 32 if that one does not wait for a cell from 0 to 63
  unfoldable pub next_at : ℕ → ℕ
  next_at p =
      pick (eqb (get_or status p 0) waiting_code && ltb (get_or cell p 0) cells)
      (holder_above number held (get_or cell p 0) (get_or number p 0) places)
      places

  -- the chain of the job at place p, with at most n further looks
  unfoldable pub chain_from_by : ℕ → ℕ → List ℕ
  chain_from_by zero p = get_or number p 0 ∷ []
  chain_from_by (suc n) p = get_or number p 0 ∷ pick (ltb (next_at p) places) (chain_from_by n (next_at p)) []

  -- the chain of the job at place p: each further look has fewer younger jobs left, so there are no more looks than younger jobs
  unfoldable pub chain_from : ℕ → List ℕ
  chain_from p = chain_from_by (younger_than (get_or number p 0) number) p

-- what a request for the chain of a job is told, and what the lent list then holds
unfoldable pub asked_on : Desk → ℕ → List ℕ → ChainTold
asked_on d job list =
    chain_told (chain_from d.number d.status d.cell d.held (pos d.number job)) list (chain_due (status_by d job) (length list))

-- whether place q waits and its number is above `last` and below `least`
unfoldable pub waits_within : List ℕ → List ℕ → ℕ → ℕ → ℕ → Bool
waits_within number status last least q = eqb (get_or status q 0) waiting_code && (ltb last (get_or number q 0) && ltb (get_or number q 0) least)

-- the waiting place with the smallest number above `last`, among the places below n, or 32
unfoldable pub waiter_above : List ℕ → List ℕ → ℕ → ℕ → ℕ
waiter_above number status last zero = places
waiter_above number status last (suc n) =
    let best = waiter_above number status last n in
    pick (waits_within number status last (get_or number best (suc last_number)) n) n best

-- the chain of the first waiting job with a number above `last`; empty if there is none
unfoldable pub next_chain : Desk → ℕ → List ℕ
next_chain d last =
    let p = waiter_above d.number d.status last places in
    pick (ltb p places) (chain_from d.number d.status d.cell d.held p) []

-- the first job of a chain
unfoldable pub first_job : List ℕ → ℕ
first_job [] = 0
first_job (j ∷ js) = j

-- a chain, then the chains after it; an empty chain ends the list
unfoldable pub chain_and : List ℕ → List (List ℕ) → List (List ℕ)
chain_and [] rest = []
chain_and (j ∷ js) rest = (j ∷ js) ∷ rest

-- the chains of the waiting jobs with numbers above `last`, ascending, at most n
unfoldable pub chains_by : ℕ → Desk → ℕ → List (List ℕ)
chains_by zero d last = []
chains_by (suc n) d last = chain_and (next_chain d last) (chains_by n d (first_job (next_chain d last)))

-- the chains of all waiting jobs: at most one for each place
unfoldable pub chains_on : Desk → List (List ℕ)
chains_on d = chains_by places d 0
