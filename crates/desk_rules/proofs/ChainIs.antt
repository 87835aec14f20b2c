-- THE CHAIN IS THE REQUEST'S: for every live job of a started desk, the computed chain is a chain in the request's words, and the only one; and what such a chain is like (02, No. 3).
-- Assumes nothing.
use Prim.Native.Nat.{ℕ, zero, suc, ◌<◌, ◌≤◌}
use mathlib.Core.Path.{◌≡◌, refl, ap, subst}
use mathlib.Core.Bool.{true}
use mathlib.Core.List.{List, ◌∷◌}
use native.Mathlib.Omega.{arith}
use Rattle.desk_rules.specs.Desk.{waiting, Waiter, Desk, is_live}
use Rattle.desk_rules.specs.Invariant.{Inv}
use Rattle.desk_rules.specs.Chain.{younger_than, onward, youngest_of, in_way_of, chain_by, chain_of, Next, IsChain, runs, waits}
use Rattle.desk_rules.proofs.Statuses.{live_open, running_live, waiting_live, running_not_waiting, one_cell, one_ask}
use Rattle.desk_rules.proofs.SomebodyRuns.{live_split}
use Rattle.desk_rules.proofs.InTheWay.{way_younger, way_live}
use Rattle.desk_rules.proofs.Younger.{younger_less}
use Rattle.desk_rules.proofs.InWayList.{next_is, next_only}

-- the next job is younger than the waiter, so it has fewer younger ones: each further look has fewer younger jobs left
pub fewer_younger : {d : Desk} → Inv d → (c : ℕ) (w : Waiter) → d.stat w.job ≡ waiting c w.ask → (i : ℕ) → Next d c w i → younger_than i d.jobs < younger_than w.job d.jobs
fewer_younger {d} v c w k i n =
    younger_less i w.job d.jobs (way_younger v c w k i n.way) (v.seats i (live_open (d.stat i) (way_live v c w k i n.way)))

-- as many looks as there are younger jobs are enough to reach the chain's end
is_chain_by : {d : Desk} → Inv d → (n j : ℕ) → younger_than j d.jobs ≤ n → is_live (d.stat j) ≡ true → IsChain d j (chain_by n d j)
unfolding chain_by onward
is_chain_by {d} v zero j l h =
    live_split (d.stat j) h (λ e. runs e)
    (λ c a e. let f = fewer_younger v c (record { job = j; ask = a }) e (youngest_of (in_way_of d j c)) (next_is v c (record { job = j; ask = a }) e) in absurd (omega arith))
is_chain_by {d} v (suc n) j l h =
    live_split (d.stat j) h (λ e. rw e (runs e))
    (λ c a e.
    let w : Waiter = record { job = j; ask = a } in
    let i = youngest_of (in_way_of d j c) in
    let x = next_is v c w e in
    let f = fewer_younger v c w e i x in
    rw e (waits c a e x (is_chain_by v n i (omega arith) (way_live v c w e i x.way))))

-- the chain of a live job is a chain in the request's words
pub is_chain : {d : Desk} → Inv d → (j : ℕ) → is_live (d.stat j) ≡ true → IsChain d j (chain_of d j)
unfolding chain_of
is_chain {d} v j h = is_chain_by v (younger_than j d.jobs) j (omega arith) h

-- a job that has a chain is live
pub chain_live : {d : Desk} {j : ℕ} {js : List ℕ} → IsChain d j js → is_live (d.stat j) ≡ true
chain_live (runs e) = running_live e
chain_live (waits c a e n k) = waiting_live e

-- there is only one chain
pub one_chain : {d : Desk} → Inv d → {j : ℕ} {js ks : List ℕ} → IsChain d j js → IsChain d j ks → js ≡ ks
one_chain v (runs e) (runs f) = refl
one_chain v (runs e) (waits c a f n k) = absurd (running_not_waiting e f)
one_chain v (waits c a e n k) (runs f) = absurd (running_not_waiting f e)
one_chain {d} v (waits {j} {i} {js} c a e n k) (waits {i = m} {js = ks} b z f x y) =
    ap (λ l. j ∷ l) (one_chain v k (subst (λ o. IsChain d o ks) (next_only v c (record { job = j; ask = a }) e m i (subst (λ o. Next d c o m) same there) n) y))
  where
    same : ◌≡◌ {A = Waiter} (record { job = j; ask = z }) (record { job = j; ask = a })
    same = ap (λ o. record { job = j; ask = o }) (one_ask f e)

    there : Next d c (record { job = j; ask = z }) m
    there = subst (λ o. Next d o (record { job = j; ask = z }) m) (one_cell f e) x
