-- Which waiters stand ahead in a queue: in a queue that falls, the younger ones. So no law about places in a queue is needed elsewhere.
-- Assumes nothing.
use Prim.Native.Nat.{◌<◌}
use mathlib.Core.Path.{◌≡◌, refl, subst}
use mathlib.Core.Logic.{◌≢◌}
use mathlib.Core.List.{List, [], ◌∷◌, ◌++◌}
use native.Mathlib.Omega.{arith}
use Rattle.laws.specs.Standing.{In, first, later}
use Rattle.desk_rules.specs.Desk.{Waiter}
use Rattle.desk_rules.specs.Waiting.{Ahead, in_front, further}
use Rattle.desk_rules.specs.Invariant.{Falling}
use Rattle.laws.proofs.Standing.{in_none, in_split, is_first, in_right, in_either}

-- no waiter stands ahead in an empty queue
pub ahead_none : {P : Type 0} {v w : Waiter} → Ahead v w [] → P
ahead_none = elim [ ]

-- a waiter ahead is the first or stands ahead in the rest
pub ahead_split : {P : Type 0} {v w u : Waiter} {q : List Waiter} → Ahead v w (u ∷ q) → (v ≡ u → In w q → P) → (Ahead v w q → P) → P
ahead_split (in_front h) f g = f refl h
ahead_split (further a) f g = g a

-- a waiter that joins last stands ahead of none
pub ahead_last : {v w u : Waiter} (q : List Waiter) → w ≢ u → Ahead v w (q ++ u ∷ []) → Ahead v w q
ahead_last [] n a = ahead_split a (λ _ h. in_none h) ahead_none
ahead_last {v = v} {w = w} {u = u} (x ∷ q) n a =
    ahead_split a (λ e h. subst (λ y. Ahead v w (y ∷ q)) e (in_front (in_either q (u ∷ []) h (λ k. k) (λ k. in_split k (λ p. absurd (n p)) in_none))))
    (λ b. further (ahead_last q n b))

-- a waiter that stands ahead is in the queue
pub ahead_in : {v w : Waiter} {q : List Waiter} → Ahead v w q → In v q
ahead_in (in_front h) = first
ahead_in (further a) = later (ahead_in a)

-- and so does the one it stands ahead of
pub ahead_of_lem : {v w : Waiter} {q : List Waiter} → Ahead v w q → In w q
ahead_of_lem (in_front h) = later h
ahead_of_lem (further a) = later (ahead_of_lem a)

-- every waiter stands ahead of one that joins last
pub before_last : {v w : Waiter} {q : List Waiter} → In v q → Ahead v w (q ++ w ∷ [])
before_last (first {q = q}) = in_front (in_right q first)
before_last (later h) = further (before_last h)

-- and no other does
pub ahead_before_last : {v w : Waiter} (q : List Waiter) → Ahead v w (q ++ w ∷ []) → In v q
ahead_before_last [] a = ahead_split a (λ _ h. in_none h) ahead_none
ahead_before_last (x ∷ q) a = ahead_split a (λ e _. is_first e) (λ b. later (ahead_before_last q b))

-- a waiter ahead is younger, if the queue falls
pub ahead_younger : {v w : Waiter} {q : List Waiter} → Falling q → Ahead v w q → w.job < v.job
ahead_younger {w = w} f (in_front h) = f.0 w h
ahead_younger f (further a) = ahead_younger f.1 a

-- a younger waiter in the queue stands ahead
pub younger_ahead : (v w : Waiter) (q : List Waiter) → Falling q → In v q → In w q → w.job < v.job → Ahead v w q
younger_ahead v w [] f h k l = in_none h
younger_ahead v w (u ∷ q) f h k l =
    in_split k (λ e. absurd (in_split h (λ p. equal p e) (λ m. older (f.0 v m) e)))
    (λ n. in_split h (λ e. subst (λ x. Ahead v w (x ∷ q)) e (in_front n)) (λ m. further (younger_ahead v w q f.1 m n l)))
  where
    equal : v ≡ u → w ≡ u → ⊥
    equal p e = let g : u.job < u.job = subst (λ x. x.job < u.job) e (subst (λ x. w.job < x.job) p l) in omega arith

    older : v.job < u.job → w ≡ u → ⊥
    older h e = let g : u.job < v.job = subst (λ x. x.job < v.job) e l in omega arith
