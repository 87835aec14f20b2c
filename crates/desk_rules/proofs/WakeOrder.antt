-- What a search of cells wakes: exactly the jobs granted at some cell that is searched, those of a smaller cell first, and those of one cell in the order of its queue (01, rule 4).
-- Assumes nothing.
use Prim.Native.Nat.{ℕ, zero, suc, ◌<◌}
use mathlib.Core.Path.{◌≡◌, refl, ap, subst}
use mathlib.Core.List.{List, [], ◌∷◌, ◌++◌}
use native.Mathlib.Omega.{arith}
use borrow.Author.Tests.{eqb-true, eqb-false}
use lib.Dec.{eqb}
use Rattle.laws.specs.Choice.{by_test}
use Rattle.conflict.specs.declared.action.Action.{Action}
use Rattle.laws.specs.Standing.{In, first, later}
use Rattle.desk_rules.specs.Desk.{Waiter}
use Rattle.desk_rules.specs.Locks.{Settled}
use Rattle.desk_rules.specs.Rules.{wake, wakes_at, wakes_of}
use Rattle.desk_rules.specs.Waiting.{Ahead, in_front}
use Rattle.desk_rules.specs.Waiting as waiting
use Rattle.desk_rules.specs.WakeOrder.{Before, next, further}
use Rattle.laws.proofs.Standing.{in_none, in_split, is_first, in_left, in_right, in_either}

-- a wake was granted at one of the first n cells: where, and as which waiter
pub record GrantedAt (s : ℕ → Settled) (n : ℕ) (x : Action) : Type 0 where
  pub cell : ℕ
  pub below : cell < n
  pub waiter : Waiter
  pub granted : In waiter (s cell).woken
  pub is : x ≡ wake cell waiter

-- x comes before y in the search: its cell is smaller, or both were granted at one cell, x ahead of y
pub data Searched (s : ℕ → Settled) (x y : Action) : Type 0 where
  smaller_cell : x.cell < y.cell → Searched s x y
  granted_ahead : (c : ℕ) (v w : Waiter) → x ≡ wake c v → y ≡ wake c w → Ahead v w (s c).woken → Searched s x y

-- the wakes of the first n cells: each was granted at one of them, every job granted there is among them, and they are told in the order of the search
pub record Search (s : ℕ → Settled) (n : ℕ) : Type 0 where
  pub granted : {x : Action} → In x (wakes_of s n) → GrantedAt s n x
  pub reached : (c : ℕ) (w : Waiter) → c < n → In w (s c).woken → In (wake c w) (wakes_of s n)
  pub ordered : {x y : Action} → Before x y (wakes_of s n) → Searched s x y

-- in an empty list of wakes none is told before another
pub before_none : {P : Type 0} {x y : Action} → Before x y [] → P
before_none = elim [ ]

-- a wake told before another is the first, or is told before it among the rest
before_split : {P : Type 0} {x y z : Action} {rest : List Action} → Before x y (z ∷ rest) → (x ≡ z → In y rest → P) → (Before x y rest → P) → P
before_split (next h) f g = f refl h
before_split (further b) f g = g b

-- both are told
pub before_first : {x y : Action} {xs : List Action} → Before x y xs → In x xs
before_first (next h) = first
before_first (further b) = later (before_first b)

pub before_second : {x y : Action} {xs : List Action} → Before x y xs → In y xs
before_second (next h) = later h
before_second (further b) = later (before_second b)

-- in two lists of wakes joined: both wakes are in the first, or both in the second, or one in each, in that order
before_either : {P : Type 0} {x y : Action} (a b : List Action) → Before x y (a ++ b) → (Before x y a → P) → (In x a → In y b → P) → (Before x y b → P) → P
before_either [] b h f g k = k h
before_either {x = x} {y = y} (z ∷ a) b h f g k =
    before_split h
    (λ e i. in_either a b i (λ m. f (subst (λ t. Before x y (t ∷ a)) e (next m))) (λ m. g (is_first e) m))
    (λ l. before_either a b l (λ m. f (further m)) (λ m n. g (later m) n) k)

-- a wake of a cell was granted there
in_at : (c : ℕ) (q : List Waiter) {x : Action} → In x (wakes_at c q) → (w : Waiter) × In w q × (x ≡ wake c w)
unfolding wakes_at
in_at c [] h = in_none h
in_at c (v ∷ q) {x} h = in_split h (λ e. (v, first, e)) (λ k. more (in_at c q k))
  where
    more : (w : Waiter) × In w q × (x ≡ wake c w) → (w : Waiter) × In w (v ∷ q) × (x ≡ wake c w)
    more (w, i, e) = (w, later i, e)

-- and names that cell
cell_at : (c : ℕ) (q : List Waiter) {x : Action} → In x (wakes_at c q) → x.cell ≡ c
unfolding wake
cell_at c q h = let (w, i, e) = in_at c q h in ap (λ t. t.cell) e

-- a job that was granted at a cell is among its wakes
at_in : (c : ℕ) {w : Waiter} {q : List Waiter} → In w q → In (wake c w) (wakes_at c q)
unfolding wakes_at
at_in c first = first
at_in c (later h) = later (at_in c h)

-- of two wakes of one cell the one told first was granted ahead
at_ahead : (c : ℕ) (q : List Waiter) {x y : Action} → Before x y (wakes_at c q) → (v : Waiter) × (w : Waiter) × (x ≡ wake c v) × (y ≡ wake c w) × Ahead v w q
unfolding wakes_at
at_ahead c [] b = before_none b
at_ahead c (u ∷ q) {x} {y} b =
    before_split b (λ e i. let (w, m, k) = in_at c q i in (u, w, e, k, in_front m)) (λ l. more (at_ahead c q l))
  where
    more : (v : Waiter) × (w : Waiter) × (x ≡ wake c v) × (y ≡ wake c w) × Ahead v w q → (v : Waiter) × (w : Waiter) × (x ≡ wake c v) × (y ≡ wake c w) × Ahead v w (u ∷ q)
    more (v, w, e, k, a) = (v, w, e, k, waiting.further a)

-- a wake that was granted at one of some cells names one of them
cell_below : {s : ℕ → Settled} {n : ℕ} {x : Action} → GrantedAt s n x → x.cell < n
unfolding wake
cell_below g = let e = ap (λ t. t.cell) g.is in let l = g.below in omega arith

-- and was granted at one of a larger set of cells
one_more : {s : ℕ → Settled} {n : ℕ} {x : Action} → GrantedAt s n x → GrantedAt s (suc n) x
one_more g = record { cell = g.cell; below = omega (arith, g.below); waiter = g.waiter; granted = g.granted; is = g.is }

-- THE SEARCH: cell by cell from 0 on, each from the front (01, rule 4)
pub search_order : (s : ℕ → Settled) (n : ℕ) → Search s n
unfolding wakes_of
search_order s zero = record { granted = in_none; reached = λ c w l h. absurd (omega arith); ordered = before_none }
search_order s (suc n) =
    let k = search_order s n in
    record {
      granted = λ h. in_either (wakes_of s n) (wakes_at n (s n).woken) h (λ i. one_more (k.granted i))
          (λ i. let (w, m, e) = in_at n (s n).woken i in record { cell = n; below = omega arith; waiter = w; granted = m; is = e });
      reached = λ c w l h. by_test (eqb c n)
          (λ t. in_right (wakes_of s n) (subst (λ b. In (wake c w) (wakes_at b (s b).woken)) (eqb-true c n t) (at_in c h)))
          (λ f. in_left (wakes_at n (s n).woken) (k.reached c w (lower c l (eqb-false c n f)) h));
      ordered = λ b. before_either (wakes_of s n) (wakes_at n (s n).woken) b k.ordered
          (λ i m. let l = cell_below (k.granted i) in let e = cell_at n (s n).woken m in smaller_cell (omega arith))
          (λ l. let (v, w, e, m, a) = at_ahead n (s n).woken l in granted_ahead n v w e m a);
    }
  where
    lower : (c : ℕ) → c < suc n → (c ≡ n → ⊥) → c < n
    lower c l d = omega arith
