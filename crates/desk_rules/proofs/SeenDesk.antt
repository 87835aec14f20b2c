-- A started desk is fixed by everything but its queues: each queue is the jobs that wait for the cell, the youngest first. So a desk that keeps the rest shows exactly one desk of the paper.
-- Assumes nothing.
use Prim.Native.Nat.{ℕ, zero, suc, ◌<◌}
use mathlib.Core.Path.{◌≡◌, refl, sym, ap, ap₂, subst, ◌∙◌}
use mathlib.Core.List.{List, [], ◌∷◌}
use native.Mathlib.Omega.{arith}
use borrow.Author.Tests.{eqb-true, eqb-false, eq-eqb}
use lib.Dec.{eqb}
use Rattle.laws.specs.Choice.{by_test}
use Rattle.terms.specs.declared.letters.Ask.{Ask}
use Rattle.laws.specs.Standing.{In, first, later}
use Rattle.desk_rules.specs.Desk.{Status, closed, running, waiting, sentback, Waiter, Desk}
use Rattle.desk_rules.specs.Invariant.{Falling, Inv}
use Rattle.desk_rules.specs.Seen.{in_front, waiters_below, seen_by}
use Rattle.laws.proofs.Standing.{in_none, in_split}
use Rattle.desk_rules.proofs.Statuses.{waiting_open}

-- two queues that fall and have the same waiters are equal
pub falling_one : (p q : List Waiter) → Falling p → Falling q → ((w : Waiter) → In w p → In w q) → ((w : Waiter) → In w q → In w p) → p ≡ q
falling_one [] [] f g to back = refl
falling_one [] (v ∷ q) f g to back = in_none (back v first)
falling_one (u ∷ p) [] f g to back = in_none (to u first)
falling_one (u ∷ p) (v ∷ q) f g to back = ap₂ (λ x l. x ∷ l) heads (falling_one p q f.1 g.1 rest_to rest_back)
  where
    heads : u ≡ v
    heads = in_split (to u first) (λ e. e) (λ h. in_split (back v first) (λ e. sym e) (λ k. absurd (let l : u.job < v.job = g.0 u h in let m : v.job < u.job = f.0 v k in omega arith)))

    rest_to : (w : Waiter) → In w p → In w q
    rest_to w h = in_split (to w (later h)) (λ e. absurd (let l : w.job < u.job = f.0 w h in let m : w.job ≡ u.job = ap (λ x. x.job) (e ∙ sym heads) in omega arith)) (λ k. k)

    rest_back : (w : Waiter) → In w q → In w p
    rest_back w h = in_split (back w (later h)) (λ e. absurd (let l : w.job < v.job = g.0 w h in let m : w.job ≡ v.job = ap (λ x. x.job) (e ∙ heads) in omega arith)) (λ k. k)

-- a waiter in a queue with a job perhaps put in front is that job, which waits for the cell, or was in the queue already
front_split : {P : Type 0} (c j : ℕ) (s : Status) (q : List Waiter) (w : Waiter) → In w (in_front c j s q) → (w.job ≡ j → s ≡ waiting c w.ask → P) → (In w q → P) → P
unfolding in_front
front_split c j closed q w h f g = g h
front_split c j running q w h f g = g h
front_split {P} c j (waiting b a) q w h f g =
    by_test (eqb b c) (λ t. in_split (rw t at h) (λ e. f (ap (λ x. x.job) e) (ap₂ waiting (eqb-true b c t) (sym (ap (λ x. x.ask) e)))) g) (λ n. g (rw n at h))
front_split c j sentback q w h f g = g h

-- a waiter that was in it still is
front_keeps : (c j : ℕ) (s : Status) (q : List Waiter) (w : Waiter) → In w q → In w (in_front c j s q)
unfolding in_front
front_keeps c j closed q w h = h
front_keeps c j running q w h = h
front_keeps c j (waiting b a) q w h = by_test (eqb b c) (λ t. rw t (later h)) (λ n. rw n h)
front_keeps c j sentback q w h = h

-- and a job that waits for the cell stands in front
front_stands : (c j : ℕ) (s : Status) (q : List Waiter) (a : Ask) → s ≡ waiting c a → In (record { job = j; ask = a }) (in_front c j s q)
unfolding in_front
front_stands c j s q a e = rw e (rw (eq-eqb c c refl) first)

-- a queue that falls, of jobs below j, falls with j in front
front_falls : (c j : ℕ) (s : Status) (q : List Waiter) → ((w : Waiter) → In w q → w.job < j) → Falling q → Falling (in_front c j s q)
unfolding in_front
front_falls c j closed q l f = f
front_falls c j running q l f = f
front_falls c j (waiting b a) q l f = by_test (eqb b c) (λ t. rw t (l, f)) (λ n. rw n f)
front_falls c j sentback q l f = f

module _ (stat : ℕ → Status) (c : ℕ) where
  -- a waiter in the queue is below n and waits for the cell
  waiters_are : (n : ℕ) (w : Waiter) → In w (waiters_below stat c n) → (w.job < n) × (stat w.job ≡ waiting c w.ask)
  unfolding waiters_below
  waiters_are zero w h = in_none h
  waiters_are (suc n) w h =
      front_split c n (stat n) (waiters_below stat c n) w h
      (λ e s. (omega arith, ap stat e ∙ s)) (λ k. let (l, s) = waiters_are n w k in (omega arith, s))

  -- and a job that is below n and waits for the cell is in it
  waiters_all : (n j : ℕ) (a : Ask) → j < n → stat j ≡ waiting c a → In (record { job = j; ask = a }) (waiters_below stat c n)
  unfolding waiters_below
  waiters_all zero j a l e = absurd (omega arith)
  waiters_all (suc n) j a l e =
      by_test (eqb j n)
      (λ t. subst (λ i. In (record { job = i; ask = a }) (in_front c n (stat n) (waiters_below stat c n))) (sym (eqb-true j n t)) (front_stands c n (stat n) (waiters_below stat c n) a (ap stat (sym (eqb-true j n t)) ∙ e)))
      (λ d. let k = eqb-false j n d in front_keeps c n (stat n) (waiters_below stat c n) (record { job = j; ask = a }) (waiters_all n j a (omega arith) e))

  -- the queue falls
  waiters_fall : (n : ℕ) → Falling (waiters_below stat c n)
  unfolding waiters_below
  waiters_fall zero = tt
  waiters_fall (suc n) = front_falls c n (stat n) (waiters_below stat c n) (λ w h. (waiters_are n w h).0) (waiters_fall n)

-- a started desk's queue is the jobs that wait for the cell, the youngest first
pub queue_seen : {d : Desk} → Inv d → (c : ℕ) → waiters_below d.stat c d.next ≡ (d.row c).queue
queue_seen {d} v c =
    falling_one (waiters_below d.stat c d.next) (d.row c).queue (waiters_fall d.stat c d.next) (v.rows c).down
    (λ w h. v.queues w.job c w.ask (waiters_are d.stat c d.next w h).1)
    (λ w h. let e = (v.rows c).stands w h in waiters_all d.stat c d.next w.job w.ask (v.below w.job (waiting_open e)) e)

-- so a started desk is the desk that is seen from the rest of it
pub seen_desk : {d : Desk} → Inv d → seen_by d.next d.jobs d.stat (λ c. (d.row c).held) ≡ d
seen_desk {d} v = λ i. record { next = d.next; jobs = d.jobs; stat = d.stat; row = λ c. record { held = (d.row c).held; queue = queue_seen v c i } }
