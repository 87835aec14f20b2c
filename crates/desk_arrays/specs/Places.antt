-- The tests of rules 2 to 4 over the arrays: places stand for jobs, and each cell has a row of 32 modes.
use Rattle.std.specs.Prelude.{ℕ, zero, suc, ◌+◌, ◌*◌, Bool, true, not, ◌&&◌, ◌||◌, List, eqb, ltb, get_or}
use Rattle.laws.specs.Choice.{pick}
use Rattle.terms.specs.Limits.{places}
use Rattle.terms.specs.declared.letters.Ask.{Ask}
use Rattle.conflict.specs.declared.modes.Mode.{Mode}
use Rattle.conflict.specs.Modes.{needed, grants, asked, is_free, mode_of}
use Rattle.desk_arrays.specs.Codes.{waiting_code}

-- the index of the mode of place p on cell c
abbrev pub spot : ℕ → ℕ → ℕ
spot c p = c * places + p

-- the mode that place p holds on cell c
unfoldable pub mode_at : List ℕ → ℕ → ℕ → Mode
mode_at held c p = mode_of (get_or held (spot c p) 0)

-- whether the test holds of every place below n
unfoldable pub all_below : (ℕ → Bool) → ℕ → Bool
all_below f zero = true
all_below f (suc n) = f n && all_below f n

-- whether the mode agrees with what every other place holds (01, rules 2 to 4; 02, No. 1)
unfoldable pub agrees_at : List ℕ → ℕ → ℕ → Mode → Bool
agrees_at held c p m = all_below (λ q. eqb q p || grants (mode_at held c q) m) places

-- whether the job at place p is older than every other holder (01, rules 2 and 3)
unfoldable pub older_at : List ℕ → List ℕ → ℕ → ℕ → ℕ → Bool
older_at held number c p job = all_below (λ q. eqb q p || (is_free (mode_at held c q) || ltb job (get_or number q 0))) places

-- whether place q waits for cell c
unfoldable pub waits_at : List ℕ → List ℕ → ℕ → ℕ → Bool
waits_at status cell c q = eqb (get_or status q 0) waiting_code && eqb (get_or cell q 0) c

-- whether nobody waits for the cell (01, rule 3: the queue is empty)
unfoldable pub nobody_waits : List ℕ → List ℕ → ℕ → Bool
nobody_waits status cell c = all_below (λ q. not (waits_at status cell c q)) places

-- whether the job is older than every waiter of the cell (01, rule 3)
unfoldable pub oldest_of : List ℕ → List ℕ → List ℕ → ℕ → ℕ → Bool
oldest_of number status cell c job = all_below (λ q. not (waits_at status cell c q) || ltb job (get_or number q 0)) places

-- the youngest (largest number) of the places below n that wait for the cell, or 32; queues run from younger to older, so this is the front
unfoldable pub youngest : List ℕ → List ℕ → List ℕ → ℕ → ℕ → ℕ
youngest number status cell c zero = places
youngest number status cell c (suc n) =
    let best = youngest number status cell c n in
    pick (waits_at status cell c n && ltb (get_or number best 0) (get_or number n 0)) n best

-- how many of the places below n wait
unfoldable pub waiters : List ℕ → ℕ → ℕ
waiters status zero = 0
waiters status (suc n) = pick (eqb (get_or status n 0) waiting_code) 1 0 + waiters status n

-- the mode that place p asks for on cell c, given what it holds there (01, rules 2 and 3)
unfoldable pub wants_at : List ℕ → ℕ → ℕ → Ask → Mode
wants_at held c p a = asked (mode_at held c p) (needed a)
