-- Rule 4 over the arrays: locks are dropped, queues are searched from the front, and places are woken in order (01, rule 4).
use Rattle.std.specs.Prelude.{ℕ, zero, suc, ◌&&◌, List, [], ◌∷◌, ◌++◌, ltb, get_or, set}
use Rattle.laws.specs.Choice.{pick}
use Rattle.terms.specs.Limits.{places}
use Rattle.terms.specs.declared.letters.Ask.{Ask}
use Rattle.conflict.specs.Modes.{code_of}
use Rattle.desk_arrays.specs.Codes.{running_code, ask_of}
use Rattle.desk_arrays.specs.Places.{spot, agrees_at, youngest, wants_at}

-- the modes after place p has dropped its locks on the cells below n
unfoldable pub dropped_by : List ℕ → ℕ → ℕ → List ℕ
dropped_by held p zero = held
dropped_by held p (suc c) = set (dropped_by held p c) (spot c p) 0

-- the modes, what each job is doing, and the places woken so far, in order
pub record Settling : Type 0 where
  pub held : List ℕ
  pub status : List ℕ
  pub woken : List ℕ

-- a place is granted the mode that it asks for, and is woken
unfoldable pub granted : ℕ → ℕ → Ask → Settling → Settling
granted c p a s =
    record {
      held = set s.held (spot c p) (code_of (wants_at s.held c p a));
      status = set s.status p running_code;
      woken = s.woken ++ p ∷ [];
    }

-- the front of the cell's queue is granted if its mode agrees with the other holders; else nothing changes, and the search has stopped
unfoldable pub grant_front : List ℕ → List ℕ → List ℕ → ℕ → Settling → Settling
grant_front number cell ask c s =
    let p = youngest number s.status cell c places in
    let a = ask_of (get_or ask p 0) in
    pick (ltb p places && agrees_at s.held c p (wants_at s.held c p a)) (granted c p a s) s

-- the same, n times (at most 32 can wait)
unfoldable pub settle_cell : List ℕ → List ℕ → List ℕ → ℕ → ℕ → Settling → Settling
settle_cell number cell ask c zero s = s
settle_cell number cell ask c (suc n) s = grant_front number cell ask c (settle_cell number cell ask c n s)

-- the cells below n settled, one by one from 0
unfoldable pub settle_all : List ℕ → List ℕ → List ℕ → ℕ → Settling → Settling
settle_all number cell ask zero s = s
settle_all number cell ask (suc c) s = settle_cell number cell ask c places (settle_all number cell ask c s)
