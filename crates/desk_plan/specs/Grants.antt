-- What rule 4 has to find out: the cells with waiters, and the next grant on a cell (01, rule 4).
use Rattle.std.specs.Prelude.{ℕ, zero, suc, Bool, true, false, not, ◌&&◌, List, Option, Some, None, eqb, ltb, get_or, set, replicate}
use Rattle.laws.specs.Choice.{pick}
use Rattle.terms.specs.Limits.{places, cells}
use Rattle.conflict.specs.declared.modes.Mode.{Mode}
use Rattle.desk_arrays.specs.Codes.{waiting_code, ask_of}
use Rattle.desk_arrays.specs.Places.{spot, all_below, youngest, wants_at, agrees_at}

-- whether no place waits for any cell
unfoldable pub none_waits : List ℕ → Bool
none_waits status = all_below (λ q. not (eqb (get_or status q 0) waiting_code)) places

-- whether no place holds the cell: every mode in its row is "none"
unfoldable pub none_holds : List ℕ → ℕ → Bool
none_holds held c = all_below (λ q. eqb (get_or held (spot c q) 0) 0) places

-- the cells that a place below n waits for
unfoldable pub wanted : List ℕ → List ℕ → ℕ → List Bool
wanted status cell zero = replicate cells false
wanted status cell (suc q) =
    pick (eqb (get_or status q 0) waiting_code) (set (wanted status cell q) (get_or cell q 0) true) (wanted status cell q)

-- the front of the cell's queue, if its mode agrees with the other holders; none, if there is no such cell
unfoldable pub next_grant : List ℕ → List ℕ → List ℕ → List ℕ → List ℕ → ℕ → Option (ℕ × Mode)
next_grant number status cell ask held c =
    let p = youngest number status cell c places in
    let a = ask_of (get_or ask p 0) in
    let m = wants_at held c p a in
    pick (ltb c cells && (ltb p places && agrees_at held c p m)) (Some (p, m)) None
