-- Laws of queues: which jobs stand in one, when a queue falls (from younger to older), and the queue without a job's place.
-- Assumes nothing.
use Prim.Native.Nat.{ℕ, ◌<◌}
use mathlib.Core.Path.{◌≡◌, sym, ap, subst, ◌∙◌}
use mathlib.Core.Logic.{◌≢◌}
use mathlib.Core.Bool.{false}
use mathlib.Core.List.{List, [], ◌∷◌, ◌++◌}
use borrow.Author.Tests.{eqb-true, eqb-false, ne_eqb}
use lib.Dec.{eqb}
use Rattle.laws.specs.Choice.{by_test}
use Rattle.laws.specs.Standing.{In, first, later}
use Rattle.desk_rules.specs.Desk.{Waiter}
use Rattle.laws.proofs.Standing.{in_none, in_split, is_first, in_left, in_right, in_either}
use Rattle.desk_rules.specs.Locks.{without}
use Rattle.desk_rules.specs.Invariant.{Falling}

-- the first part of a queue that falls is one that falls
pub falling_left : (p q : List Waiter) → Falling (p ++ q) → Falling p
falling_left [] q f = tt
falling_left (v ∷ p) q f = (λ w h. f.0 w (in_left q h), falling_left p q f.1)

-- and so is the second part
pub falling_right : (p q : List Waiter) → Falling (p ++ q) → Falling q
falling_right [] q f = f
falling_right (v ∷ p) q f = falling_right p q f.1

-- and a waiter in the second is older than one in the first
pub falling_across : (p q : List Waiter) → Falling (p ++ q) → (v w : Waiter) → In v p → In w q → w.job < v.job
falling_across [] q f v w h k = in_none h
falling_across (u ∷ p) q f v w h k =
    in_split h (λ e. subst (λ x. w.job < x.job) (sym e) (f.0 w (in_right p k))) (λ l. falling_across p q f.1 v w l k)

-- two queues that fall, the second older than the first, fall when put together
pub falling_join : (p q : List Waiter) → Falling p → Falling q → ((v w : Waiter) → In v p → In w q → w.job < v.job) → Falling (p ++ q)
falling_join [] q f g h = g
falling_join (u ∷ p) q f g h =
    (λ w k. in_either p q k (f.0 w) (h u w first), falling_join p q f.1 g (λ v w k. h v w (later k)))

-- a waiter in the queue without a job's place is in the queue
pub without_in : (j : ℕ) (q : List Waiter) {w : Waiter} → In w (without j q) → In w q
unfolding without
without_in j [] h = h
without_in j (v ∷ q) {w} h = by_test (eqb v.job j) (λ t. later (without_in j q (rw t at h))) (λ f. in_split (kept f) is_first (λ l. later (without_in j q l)))
  where
    kept : eqb v.job j ≡ false → In w (v ∷ without j q)
    kept f = rw f at h

-- and is another job
pub without_other : (j : ℕ) (q : List Waiter) {w : Waiter} → In w (without j q) → w.job ≢ j
unfolding without
without_other j [] h e = in_none h
without_other j (v ∷ q) {w} h e =
    by_test (eqb v.job j) (λ t. without_other j q (rw t at h) e)
    (λ f. in_split (kept f) (λ p. eqb-false v.job j f (sym (ap (λ x. x.job) p) ∙ e)) (λ l. without_other j q l e))
  where
    kept : eqb v.job j ≡ false → In w (v ∷ without j q)
    kept f = rw f at h

-- every other job keeps its place
pub in_without : (j : ℕ) {w : Waiter} {q : List Waiter} → In w q → w.job ≢ j → In w (without j q)
unfolding without
in_without j {w = w} first n = rw (ne_eqb w.job j n) first
in_without j (later {v = v} h) n = by_test (eqb v.job j) (λ t. rw t (in_without j h n)) (λ f. rw f (later (in_without j h n)))

-- a queue that falls still falls without a job's place
pub without_falling : (j : ℕ) (q : List Waiter) → Falling q → Falling (without j q)
unfolding without
without_falling j [] f = tt
without_falling j (v ∷ q) f =
    by_test (eqb v.job j) (λ t. rw t (without_falling j q f.1))
    (λ n. rw n (λ w h. f.0 w (without_in j q h), without_falling j q f.1))

-- a job has a place in a queue or has none
pub by_place : {P : Type 0} (j : ℕ) (q : List Waiter) → ((w : Waiter) → In w q → w.job ≡ j → P) → (((w : Waiter) → In w q → w.job ≢ j) → P) → P
by_place j [] f g = g (λ w h. in_none h)
by_place j (v ∷ q) f g =
    by_test (eqb v.job j) (λ t. f v first (eqb-true v.job j t))
    (λ n. by_place j q (λ w h. f w (later h)) (λ k. g (λ w h. in_split h (λ e p. eqb-false v.job j n (sym (ap (λ x. x.job) e) ∙ p)) (k w))))
