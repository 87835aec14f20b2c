-- The jobs in a waiter's way: there is one, and each is live and younger than the waiter. So waits never run in a circle.
-- Assumes nothing.
use Prim.Native.Nat.{ℕ, ◌<◌}
use mathlib.Core.Path.{◌≡◌, refl, ap, subst, ◌∙◌}
use mathlib.Core.Bool.{true, false}
use mathlib.Core.List.{List, [], ◌∷◌}
use native.Mathlib.Omega.{arith}
use Rattle.laws.specs.Choice.{by_test, not_both}
use Rattle.conflict.specs.declared.modes.Mode.{Mode}
use Rattle.conflict.specs.Modes.{grants, is_free}
use Rattle.conflict.proofs.ModeLaws.{is_free_lem, grants_free}
use Rattle.laws.specs.Standing.{In}
use Rattle.desk_rules.specs.Desk.{Waiter, Desk, is_live}
use Rattle.desk_rules.specs.Waiting.{Ahead, InWay, holds_it, ahead, in_front, IsWaiting, Chain, link, links}
use Rattle.desk_rules.specs.Invariant.{FirstBlocked, Inv}
use Rattle.laws.proofs.Standing.{in_none, in_split}
use Rattle.desk_rules.proofs.Statuses.{waiting_live}
use Rattle.desk_rules.proofs.AheadLaws.{ahead_in, ahead_younger}

-- a mode beside which something is not granted is held
pub in_way_held : (m a : Mode) → grants m a ≡ false → is_free m ≡ false
in_way_held m a f = by_test (is_free m) (λ t. not_both (rw (is_free_lem m t) (grants_free a)) f) (λ g. g)

-- in a queue whose first waiter is blocked, every waiter has a job in its way: the first its blocker, and every other the first
blocked_way : (held : ℕ → Mode) (w : Waiter) (q : List Waiter) → FirstBlocked held q → In w q → (i : ℕ) × InWay (record { held = held; queue = q }) w i
blocked_way held w [] b h = in_none h
blocked_way held w (u ∷ q) (i, n, g) h =
    in_split h (λ e. (i, holds_it (λ p. n (p ∙ ap (λ x. x.job) e)) (in_way_held (held i) _ g))) (λ l. (u.job, ahead u refl (in_front l)))

module _ {d : Desk} (v : Inv d) (c : ℕ) (w : Waiter) (k : IsWaiting d c w) where
  -- a waiter stands in the queue of its cell
  pub waiter_in : In w (d.row c).queue
  waiter_in = v.queues w.job c w.ask k

  -- if it holds the cell, none stands ahead of it: a waiter ahead would be younger, being ahead, and older, since it waits for a cell that this one holds
  pub front_only : is_free ((d.row c).held w.job) ≡ false → (u : Waiter) → Ahead u w (d.row c).queue → ⊥
  front_only f u b =
      let l = ahead_younger (v.rows c).down b in
      let g = (v.rows c).elder u w.job (ahead_in b) (λ e. omega (arith, l, e)) f in
      omega (arith, l, g)

  -- some job is in its way
  pub way_some : (i : ℕ) × InWay (d.row c) w i
  way_some = blocked_way (d.row c).held w (d.row c).queue (v.rows c).blocked waiter_in

  -- a job in its way is younger
  pub way_younger : (i : ℕ) → InWay (d.row c) w i → w.job < i
  way_younger i (holds_it n f) = (v.rows c).elder w i waiter_in n f
  way_younger i (ahead u e a) = subst (λ x. w.job < x) e (ahead_younger (v.rows c).down a)

  -- and live
  pub way_live : (i : ℕ) → InWay (d.row c) w i → is_live (d.stat i) ≡ true
  way_live i (holds_it n f) = (v.rows c).holds i f
  way_live i (ahead u e a) = subst (λ x. is_live (d.stat x) ≡ true) e (waiting_live ((v.rows c).stands u (ahead_in a)))

-- along a chain of waits jobs grow younger
pub chain_rises : {d : Desk} → Inv d → {j i : ℕ} → Chain d j i → j < i
chain_rises v (link k) = way_younger v k.cell _ k.waits _ k.way
chain_rises v (links k l) =
    let g = way_younger v k.cell _ k.waits _ k.way in
    let m = chain_rises v l in
    omega arith
