-- What a step is to a waiter: the end of another job's run, its own give-up, or a step that leaves it waiting, its lock as it was and no new job in its way. Only this file follows the moves for it.
-- Assumes nothing.
use Prim.Native.Nat.{ℕ, ◌<◌}
use mathlib.Core.Path.{◌≡◌, refl, sym, ap, subst, ◌∙◌}
use mathlib.Core.Logic.{◌≢◌}
use mathlib.Core.Bool.{false}
use mathlib.Core.List.{List, [], ◌∷◌, ◌++◌}
use native.Mathlib.Omega.{arith}
use Rattle.conflict.specs.declared.modes.Mode.{Mode}
use Rattle.conflict.specs.Modes.{is_free}
use Rattle.desks.specs.declared.Answer.{Answer}
use Rattle.desks.specs.declared.Answer.TheVariants.{Go, Back}
use Rattle.desks.specs.Request.{Request}
use Rattle.laws.specs.Functions.{at}
use Rattle.desks.specs.Places.{vacated}
use Rattle.laws.specs.Standing.{In}
use Rattle.desk_rules.specs.Desk.{Status, closed, running, waiting, sentback, Waiter, Row, Desk}
use Rattle.desks.specs.Begin.{refused}
use Rattle.desk_rules.specs.Rules.{Outcome, with_row, with_status, rule4}
use Rattle.desk_rules.specs.Waiting.{InWay, holds_it, ahead, IsWaiting, GivesUp}
use Rattle.desk_rules.specs.Moves.{Moved, refuses, begins, commits, gives_up, retries, has_it, promotes, waits_in_front, enters, waits_last, goes_back}
use Rattle.desk_rules.specs.Invariant.{Inv}
use Rattle.desk_rules.proofs.Statuses.{waiting_open, running_not_waiting, sentback_not_waiting}
use Rattle.laws.proofs.Standing.{in_none}
use Rattle.laws.proofs.Functions.{at_other, at_each, at_all}
use Rattle.desk_rules.proofs.Tests.{empty_queue}
use Rattle.desk_rules.proofs.AheadLaws.{ahead_split, ahead_last}
use Rattle.desk_rules.proofs.InTheWay.{waiter_in}

-- from one row to another the waiter's lock stays, and no new job comes in its way
pub record Undisturbed (w : Waiter) (r s : Row) : Type 0 where
  pub hold : s.held w.job ≡ r.held w.job
  pub ways : (i : ℕ) → InWay s w i → InWay r w i

-- what a step is to a waiter
pub data Sees (d : Desk) (r : Request) (c : ℕ) (w : Waiter) : Outcome → Type 0 where
  calm : {o : Outcome} → IsWaiting o.desk c w → Undisturbed w (d.row c) (o.desk.row c) → Sees d r c w o
  run_ends : (s : Status) (js : List ℕ) (said : Answer) → (w.job ≡ r.job → GivesUp w.job r) → Sees d r c w (rule4 d r.job s js said)

-- a row that stays as it is
same_row : (w : Waiter) (r : Row) → Undisturbed w r r
same_row w r = record { hold = refl; ways = λ i k. k }

-- a holder other than the waiter gets another mode
holder_grows : (w : Waiter) (r : Row) (j : ℕ) (m : Mode) → w.job ≢ j → is_free (r.held j) ≡ false → Undisturbed w r (record { held = at r.held j m; queue = r.queue })
holder_grows w r j m n f = record { hold = at_other r.held j m w.job n; ways = λ i k. by_way i k }
  where
    by_way : (i : ℕ) → InWay (record { held = at r.held j m; queue = r.queue }) w i → InWay r w i
    by_way i (holds_it p g) = holds_it p (at_each (λ x. is_free x ≡ false → is_free (r.held i) ≡ false) r.held j m i (λ e _. subst (λ x. is_free (r.held x) ≡ false) (sym e) f) (λ _ g. g) g)
    by_way i (ahead u e a) = ahead u e a

-- another holder joins the queue in front
holder_joins : (w : Waiter) (r : Row) (u : Waiter) → w.job ≢ u.job → is_free (r.held u.job) ≡ false → Undisturbed w r (record { held = r.held; queue = u ∷ r.queue })
holder_joins w r u n f = record { hold = refl; ways = λ i k. by_way i k }
  where
    by_way : (i : ℕ) → InWay (record { held = r.held; queue = u ∷ r.queue }) w i → InWay r w i
    by_way i (holds_it p g) = holds_it p g
    by_way i (ahead v e a) =
        ahead_split a (λ p _. let q : u.job ≡ i = ap (λ x. x.job) (sym p) ∙ e in holds_it (λ z. n (sym z ∙ sym q)) (subst (λ x. is_free (r.held x) ≡ false) q f)) (ahead v e)

-- another job joins the queue last
last_joins : (w : Waiter) (r : Row) (u : Waiter) → w.job ≢ u.job → Undisturbed w r (record { held = r.held; queue = r.queue ++ u ∷ [] })
last_joins w r u n = record { hold = refl; ways = λ i k. by_way i k }
  where
    by_way : (i : ℕ) → InWay (record { held = r.held; queue = r.queue ++ u ∷ [] }) w i → InWay r w i
    by_way i (holds_it p g) = holds_it p g
    by_way i (ahead v e a) = ahead v e (ahead_last r.queue (λ p. n (ap (λ x. x.job) p)) a)

module _ {d : Desk} (v : Inv d) (r : Request) (c : ℕ) (w : Waiter) (k : IsWaiting d c w) where
  -- a job that runs is another job
  runs_other : (j : ℕ) → d.stat j ≡ running → w.job ≢ j
  runs_other j e p = running_not_waiting e (sym (ap d.stat p) ∙ k)

  -- a job that was sent back is another job
  back_other : (j : ℕ) → d.stat j ≡ sentback → w.job ≢ j
  back_other j e p = sentback_not_waiting e (sym (ap d.stat p) ∙ k)

  -- so is one that is not yet begun
  next_other : w.job ≢ d.next
  next_other = let l : w.job < d.next = v.below w.job (waiting_open k) in omega arith

  -- when one row changes, the waiter's row is undisturbed, provided that it is if the changed row is its own
  one_row : (b : ℕ) (new : Row) → (IsWaiting d b w → Undisturbed w (d.row b) new) → Undisturbed w (d.row c) (at d.row b new c)
  one_row b new h = at_all (λ x y. IsWaiting d x w → Undisturbed w (d.row x) y) d.row b new h (λ x _ _. same_row w (d.row x)) c k

  -- if another job's status changes, the waiter still waits
  waits_still : (j : ℕ) (s : Status) → w.job ≢ j → at d.stat j s w.job ≡ waiting c w.ask
  waits_still j s n = at_other d.stat j s w.job n ∙ k

  -- every move is one of these to a waiter
  pub moved_sees : {o : Outcome} → Moved d r o → Sees d r c w o
  unfolding refused with_row with_status
  moved_sees (refuses why _) = calm k (same_row w (d.row c))
  moved_sees (begins l n m) = calm (waits_still d.next running next_other) (same_row w (d.row c))
  moved_sees (commits l s) = run_ends closed (vacated r.job d.jobs) (Go r.job) (λ p. absurd (runs_other r.job s p))
  moved_sees (gives_up l s) = run_ends closed (vacated r.job d.jobs) (Go r.job) (λ p. (l, sym p))
  moved_sees (retries l s) = calm (waits_still r.job running (back_other r.job s)) (same_row w (d.row c))
  moved_sees (has_it a g h) = calm k (same_row w (d.row c))
  moved_sees (promotes a g h f z) = calm k (one_row r.cell _ (λ _. holder_grows w (d.row r.cell) r.job _ (runs_other r.job g.runs) f))
  moved_sees (waits_in_front a g h f z x) =
      calm (waits_still r.job (waiting r.cell a) (runs_other r.job g.runs)) (one_row r.cell _ (λ _. holder_joins w (d.row r.cell) (record { job = r.job; ask = a }) (runs_other r.job g.runs) f))
  moved_sees (enters a g f z x) =
      calm k (one_row r.cell _ (λ i. in_none (subst (In w) (empty_queue (d.row r.cell).queue z) (waiter_in v r.cell w i))))
  moved_sees (waits_last a g f z x y) =
      calm (waits_still r.job (waiting r.cell a) (runs_other r.job g.runs)) (one_row r.cell _ (λ _. last_joins w (d.row r.cell) (record { job = r.job; ask = a }) (runs_other r.job g.runs)))
  moved_sees (goes_back a g x) = run_ends sentback d.jobs (Back r.job) (λ p. absurd (runs_other r.job g.runs p))
