-- The locks of one cell: which modes agree, which job is older, and how waiters are granted from the front (01, rules 2 to 4).
use Rattle.std.specs.Prelude.{ℕ, Bool, true, false, ◌&&◌, ◌||◌, List, [], ◌∷◌, ltb, eqb}
use Rattle.laws.specs.Choice.{pick}
use Rattle.conflict.specs.declared.modes.Mode.{Mode}
use Rattle.conflict.specs.declared.modes.Mode.TheVariants.{Free}
use Rattle.conflict.specs.Modes.{needed, grants, asked, is_free}
use Rattle.laws.specs.Functions.{at}
use Rattle.desk_rules.specs.Desk.{Waiter, Row}

-- the test holds for every job of the list
unfoldable pub every : (ℕ → Bool) → List ℕ → Bool
every f [] = true
every f (i ∷ is) = f i && every f is

-- the test holds for every waiter of the queue
unfoldable pub every_waiter : (Waiter → Bool) → List Waiter → Bool
every_waiter f [] = true
every_waiter f (w ∷ q) = f w && every_waiter f q

-- whether the queue is empty
unfoldable pub is_empty : List Waiter → Bool
is_empty [] = true
is_empty (w ∷ q) = false

-- the mode agrees with every other holder (01, rules 2 to 4; 02, No. 1)
unfoldable pub agrees : List ℕ → (ℕ → Mode) → ℕ → Mode → Bool
agrees js held j m = every (λ i. eqb i j || grants (held i) m) js

-- older than every other holder: smaller is older (01, rules 2 and 3)
unfoldable pub older_than_holders : List ℕ → (ℕ → Mode) → ℕ → Bool
older_than_holders js held j = every (λ i. eqb i j || (is_free (held i) || ltb j i)) js

-- older than every waiter (01, rule 3)
unfoldable pub older_than_waiters : List Waiter → ℕ → Bool
older_than_waiters q j = every_waiter (λ w. ltb j w.job) q

-- the queue without a job's place in it (01, rule 4)
unfoldable pub without : ℕ → List Waiter → List Waiter
without j [] = []
without j (w ∷ q) = pick (eqb w.job j) (without j q) (w ∷ without j q)

-- a row after its waiters have been granted from the front, and those granted, in order
pub record Settled : Type 0 where
  pub row : Row
  pub woken : List Waiter

-- the mode a waiter asks for, given what it holds already (01, rules 2 and 3)
unfoldable pub wants : (ℕ → Mode) → Waiter → Mode
wants held w = asked (held w.job) (needed w.ask)

-- one more waiter in front of those granted
unfoldable pub woken_first : Waiter → Settled → Settled
woken_first w s = record { row = s.row; woken = w ∷ s.woken }

-- waiters are granted from the front while each agrees with the other holders; the search stops at the first that does not (01, rule 4)
unfoldable pub settle : List ℕ → (ℕ → Mode) → List Waiter → Settled
settle js held [] = record { row = record { held = held; queue = [] }; woken = [] }
settle js held (w ∷ q) =
    pick (agrees js held w.job (wants held w)) (woken_first w (settle js (at held w.job (wants held w)) q))
    (record { row = record { held = held; queue = w ∷ q }; woken = [] })

-- one row after a job has dropped its lock and its place in the queue, and the remaining waiters have been granted (01, rule 4)
unfoldable pub released : List ℕ → ℕ → Row → Settled
released js j r = settle js (at r.held j Free) (without j r.queue)
