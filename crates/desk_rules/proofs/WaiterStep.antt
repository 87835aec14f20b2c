-- One step of a waiter: it goes on waiting or is granted its cell, unless it gives up. While it waits, its lock stays as it was, and every job in its way was there before and has not ended a run.
-- Assumes nothing.
use Prim.Native.Nat.{ℕ, ◌<◌}
use mathlib.Core.Path.{◌≡◌, refl, sym, ap, subst, ◌∙◌}
use mathlib.Core.Logic.{◌≢◌, ◌⊎◌, inl, inr}
use mathlib.Core.Bool.{true, false}
use mathlib.Core.List.{List, []}
use borrow.Author.Tests.{ne_eqb}
use Rattle.laws.specs.Choice.{by_test, not_both}
use Rattle.terms.specs.declared.letters.Ask.{Ask}
use Rattle.terms.specs.Limits.{cells}
use Rattle.conflict.specs.Modes.{is_free}
use Rattle.conflict.specs.History.{History}
use Rattle.conflict.specs.Runs.{is_end, ended}
use Rattle.conflict.proofs.ModeLaws.{free_is_free}
use Rattle.conflict.proofs.OneEvent.{marked_none, marked_does, marked_ends, ended_is}
use Rattle.desks.specs.declared.Answer.{Answer}
use Rattle.desks.specs.Request.{Request}
use Rattle.laws.specs.Standing.{In}
use Rattle.desk_rules.specs.Desk.{Status, waiting, Waiter, Desk}
use Rattle.desk_rules.specs.Locks.{wants}
use Rattle.desk_rules.specs.Rules.{Outcome, is_woken, rows_after, rule4}
use Rattle.desks.specs.Records.{wake_records}
use Rattle.desk_rules.specs.Step.{step, events}
use Rattle.desk_rules.specs.Waiting.{InWay, holds_it, ahead, IsWaiting, GivesUp, Granted}
use Rattle.desk_rules.proofs.Moved.{step_moved}
use Rattle.desk_rules.specs.Invariant.{Inv}
use Rattle.desk_rules.proofs.Kept.{step_inv}
use Rattle.desk_rules.proofs.Statuses.{one_cell, one_ask}
use Rattle.desk_rules.proofs.Settle.{wants_covers}
use Rattle.desk_rules.proofs.Release.{holder_was, left_kept}
use Rattle.desk_rules.proofs.WakeOrder.{search_order}
use Rattle.desk_rules.proofs.RunEnd.{wakes_after, row_releases, woken_waited, granted_woken, woken_after, others_after}
use Rattle.desk_rules.proofs.Written.{Wrote, nothing, action, mark, asking, step_wrote}
use Rattle.desk_rules.proofs.NoEventAfterEnd.{wakes_unmarked}
use Rattle.desk_rules.proofs.AheadLaws.{ahead_in, ahead_younger, younger_ahead}
use Rattle.desk_rules.proofs.InTheWay.{waiter_in}
use Rattle.desk_rules.proofs.WaiterSees.{Undisturbed, Sees, calm, run_ends, moved_sees}

module _ {d : Desk} (v : Inv d) (j c : ℕ) (w : Waiter) (k : IsWaiting d c w) where
  -- when another job's run ends, a waiter granted in its queue has its cell in the mode it asked for
  granted_there : (s : Status) (js : List ℕ) (said : Answer) → In w (rows_after d j c).woken → Granted (rule4 d j s js said) c w (wants (d.row c).held w)
  unfolding rule4
  granted_there s js said h = record {
    woken = (search_order (rows_after d j) cells).reached c w ((v.rows c).within w (waiter_in v c w k)) h;
    runs = woken_after v j s w.job (granted_woken v j c w h);
    holds = (row_releases v j c).takes w h;
    enough = wants_covers (d.row c).held w;
  }

  -- a waiter that is among the wakes is granted in its queue
  woken_there : is_woken w.job (wakes_after d j) ≡ true → In w (rows_after d j c).woken
  woken_there t = told (woken_waited v j w.job t)
    where
      told : (b : ℕ) × (a : Ask) × (d.stat w.job ≡ waiting b a) × In (record { job = w.job; ask = a }) (rows_after d j b).woken → In w (rows_after d j c).woken
      told (b, a, e, h) =
          subst (λ x. In (record { job = w.job; ask = x }) (rows_after d j c).woken) (one_ask e k)
          (subst (λ x. In (record { job = w.job; ask = a }) (rows_after d j x).woken) (one_cell e k) h)

  -- so when another job's run ends, it waits on or is granted its cell
  ended_on : (s : Status) (js : List ℕ) (said : Answer) → w.job ≢ j → IsWaiting (rule4 d j s js said).desk c w ⊎ Granted (rule4 d j s js said) c w (wants (d.row c).held w)
  unfolding rule4
  ended_on s js said n =
      by_test (is_woken w.job (wakes_after d j)) (λ t. inr (granted_there s js said (woken_there t))) (λ f. inl (others_after v j s w.job n f ∙ k))

  -- if it is left in its queue, its lock stays, and a job in its way was there before: a holder of the cell now held it before, or was woken and so stood ahead
  left_undisturbed : In w (rows_after d j c).row.queue → Undisturbed w (d.row c) (rows_after d j c).row
  left_undisturbed h = record { hold = left_kept (row_releases v j c) w h; ways = by_way }
    where
      was_ahead : (u : Waiter) → In u (d.row c).queue → w.job < u.job → InWay (d.row c) w u.job
      was_ahead u m l = ahead u refl (younger_ahead u w (d.row c).queue (v.rows c).down m (waiter_in v c w k) l)

      by_way : (i : ℕ) → InWay (rows_after d j c).row w i → InWay (d.row c) w i
      by_way i (holds_it n f) =
          holder_was (row_releases v j c) i f (λ _ g. holds_it n g)
          (λ u m e. subst (InWay (d.row c) w) e (was_ahead u ((row_releases v j c).woken_was u m) ((row_releases v j c).across u w m h)))
      by_way i (ahead u e a) =
          subst (InWay (d.row c) w) e (was_ahead u ((row_releases v j c).left_was u (ahead_in a)) (ahead_younger (row_releases v j c).down a))

  -- and the job whose run ended is not in its way
  pub ended_away : InWay (rows_after d j c).row w j → ⊥
  ended_away (holds_it n f) = not_both (ap is_free (row_releases v j c).dropped ∙ free_is_free) f
  ended_away (ahead u e a) = (row_releases v j c).left_other u (ahead_in a) e

module _ {d : Desk} (v : Inv d) (r : Request) (c : ℕ) (w : Waiter) (k : IsWaiting d c w) where
  -- after a step that is not its give-up a waiter waits on or is granted its cell in the mode it asked for
  sees_on : {o : Outcome} → Sees d r c w o → (GivesUp w.job r → ⊥) → IsWaiting o.desk c w ⊎ Granted o c w (wants (d.row c).held w)
  sees_on (calm h u) n = inl h
  sees_on (run_ends s js said g) n = ended_on v r.job c w k s js said (λ e. n (g e))

  pub step_on : (GivesUp w.job r → ⊥) → IsWaiting (step d r).desk c w ⊎ Granted (step d r) c w (wants (d.row c).held w)
  step_on = sees_on (moved_sees v r c w k (step_moved d r))

  -- if it waits after a step, its lock is as it was, and no new job is in its way
  sees_undisturbed : {o : Outcome} → Sees d r c w o → Inv o.desk → IsWaiting o.desk c w → Undisturbed w (d.row c) (o.desk.row c)
  sees_undisturbed (calm h u) x y = u
  sees_undisturbed (run_ends s js said g) x y = unfold rule4 in left_undisturbed v r.job c w k (waiter_in x c w y)

  pub step_undisturbed : IsWaiting (step d r).desk c w → Undisturbed w (d.row c) ((step d r).desk.row c)
  step_undisturbed = sees_undisturbed (moved_sees v r c w k (step_moved d r)) (step_inv v r)

  -- and a job in its way has not ended a run in that step
  wrote_not_ended : {o : Outcome} {h : History} → Wrote d r o h → (i : ℕ) → InWay (o.desk.row c) w i → ended i h ≡ false
  unfolding rule4
  wrote_not_ended (nothing g) i way = ended_is i [] ∙ marked_none is_end i
  wrote_not_ended (action a g m l) i way = ended_is i _ ∙ marked_does is_end i (asking r a) [] ∙ marked_none is_end i
  wrote_not_ended (mark m s js said o l _) i way =
      ended_is i _
      ∙ marked_ends is_end i m r.job (wake_records (wakes_after d r.job))
      ∙ rw (ne_eqb r.job i (λ e. ended_away v r.job c w k (subst (InWay (rows_after d r.job c).row w) (sym e) way))) (wakes_unmarked is_end i (wakes_after d r.job))

  pub step_not_ended : (i : ℕ) → InWay ((step d r).desk.row c) w i → ended i (events d r) ≡ false
  step_not_ended = wrote_not_ended (step_wrote d r v)
