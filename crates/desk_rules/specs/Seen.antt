-- The paper's desk as it is seen in a desk that is kept in another way. Such a desk keeps the next number, the places, what each job is doing and what each holds; a cell's queue is the jobs that wait for it, the youngest first.
use Rattle.std.specs.Prelude.{ℕ, zero, suc, List, [], ◌∷◌, eqb}
use Rattle.laws.specs.Choice.{pick}
use Rattle.conflict.specs.declared.modes.Mode.{Mode}
use Rattle.desk_rules.specs.Desk.{Status, closed, running, waiting, sentback, Waiter, Desk}

-- job j put in front of a cell's queue, if it waits for that cell
unfoldable pub in_front : ℕ → ℕ → Status → List Waiter → List Waiter
in_front c j closed q = q
in_front c j running q = q
in_front c j (waiting b a) q = pick (eqb b c) (record { job = j; ask = a } ∷ q) q
in_front c j sentback q = q

-- the jobs below n that wait for the cell, the youngest first
unfoldable pub waiters_below : (ℕ → Status) → ℕ → ℕ → List Waiter
waiters_below stat c zero = []
waiters_below stat c (suc n) = in_front c n (stat n) (waiters_below stat c n)

-- the paper's desk with this next number, these places, these statuses and these modes
abbrev pub seen_by : ℕ → List ℕ → (ℕ → Status) → (ℕ → ℕ → Mode) → Desk
seen_by next jobs stat held =
    record { next = next; jobs = jobs; stat = stat; row = λ c. record { held = held c; queue = waiters_below stat c next } }
