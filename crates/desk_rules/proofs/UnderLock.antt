-- Each action that the desk writes is done under a mode that covers it and may stand beside every other holder's; and it stays under one until its run ends (01, The desk's rules).
-- Assumes nothing.
use Prim.Native.Nat.{ℕ}
use mathlib.Core.Path.{◌≡◌, refl, sym, ◌∙◌, subst}
use mathlib.Core.Logic.{◌≢◌}
use mathlib.Core.Bool.{false}
use Rattle.terms.specs.declared.letters.Ask.{Ask}
use Rattle.terms.specs.Limits.{cells}
use Rattle.conflict.proofs.OneEvent.{no_mark, same_action}
use Rattle.conflict.specs.declared.action.Kind.{Kind}
use Rattle.conflict.specs.declared.action.Action.{Action}
use Rattle.conflict.specs.declared.action.Event.TheVariants.{Does}
use Rattle.conflict.specs.Modes.{lets}
use Rattle.conflict.specs.Schedule.{agree}
use Rattle.conflict.specs.History.{History}
use Rattle.conflict.proofs.ModeLaws.{covers_lets, beside_sym, covering_keeps_out}
use Rattle.conflict.proofs.StillHeld.{machine_still}
use Rattle.desks.specs.Request.{Request}
use Rattle.laws.specs.Standing.{In}
use Rattle.desk_rules.specs.Desk.{Desk}
use Rattle.desk_rules.specs.Rules.{Outcome, wake, rows_after, rule4}
use Rattle.desks.specs.Records.{records_by}
use Rattle.desk_rules.specs.Step.{Started}
use Rattle.desk_rules.specs.Course.{from}
use Rattle.desk_rules.specs.Locking.{Locking}
use Rattle.desk_rules.specs.Histories.{AskedBy, request, waiter, UnderLock}
use Rattle.desk_rules.specs.Invariant.{Inv}
use Rattle.desk_rules.proofs.Release.{woken_covers}
use Rattle.desk_rules.proofs.RunEnd.{wakes_after, row_releases}
use Rattle.desk_rules.proofs.Kept.{started_inv}
use Rattle.desk_rules.proofs.Moved.{step_moved}
use Rattle.desk_rules.proofs.Holding.{moved_held}
use Rattle.desk_rules.proofs.Written.{asking, Wrote, nothing, action, mark, step_wrote}
use Rattle.desk_rules.proofs.Machine.{started_machine}
use Rattle.desk_rules.proofs.WakeOrder.{GrantedAt, search_order}
use Rattle.desk_rules.proofs.WakeRecords.{recorded_wake}
use Rattle.laws.proofs.Standing.{in_none, in_split}

-- the request that an action of a step was asked by, and the lock that it is under after the step
abbrev Locked : Desk → Request → Desk → Action → Type 0
Locked d r e x = (a : Ask) × AskedBy d r x a × UnderLock e x a

module _ {d : Desk} (v : Inv d) {r : Request} where
  -- an action of a job that is woken when a run ends
  woken_locked : (e : Desk) (x : Action) → ((c : ℕ) → e.row c ≡ (rows_after d r.job c).row) → GrantedAt (rows_after d r.job) cells x → Locked d r e x
  unfolding wake
  woken_locked e x q k =
      let c = k.cell in
      let w = k.waiter in
      let rows = row_releases v r.job c in
      subst (Locked d r e) (sym k.is) (
        w.ask,
        waiter ((v.rows c).stands w (rows.woken_was w k.granted)),
        record {
          kind = refl;
          covered = rw (q c) (woken_covers rows w k.granted);
          lawful = rw (q c) (covers_lets ((rows_after d r.job c).row.held w.job) w.ask (woken_covers rows w k.granted));
          besides = λ i n. rw (q c) (rows.pairs i w.job n);
        },
      )

  -- every action that a step writes
  wrote_locked : {o : Outcome} {g : History} → Wrote d r o g → (x : Action) → In (Does x) g → Locked d r o.desk x
  unfolding asking rule4
  wrote_locked (nothing w) x h = in_none h
  wrote_locked {o} (action a k w c) x h =
      in_split h
      (λ e. subst (Locked d r o.desk) (sym (same_action e)) (
        a,
        request k.letter refl refl,
        record {
          kind = refl;
          covered = c;
          lawful = covers_lets ((o.desk.row r.cell).held r.job) a c;
          besides = λ i n. w.pairs r.cell i r.job n;
        },
      ))
      in_none
  wrote_locked {o} (mark m s js said open' last' _) x h =
      in_split h no_mark (λ k. woken_locked o.desk x (λ c. refl) ((search_order (rows_after d r.job) cells).granted (recorded_wake (wakes_after d r.job) k)))

-- beside an action under a lock, no other job holds a mode that lets it do a disagreeing action
kept_out : (e : Desk) (x : Action) (a : Ask) → UnderLock e x a → (i : ℕ) → i ≢ x.job → (l : Kind) → agree x.kind l ≡ false → lets ((e.row x.cell).held i) l ≡ false
kept_out e x a u i n l f =
    covering_keeps_out ((e.row x.cell).held x.job) ((e.row x.cell).held i) a l u.covered (beside_sym ((e.row x.cell).held x.job) ((e.row x.cell).held i) ∙ u.besides i n)
    (subst (λ k. agree k l ≡ false) u.kind f)

-- what is promised of locks
pub locking : {d : Desk} {h : History} → Started d h → Locking (from d) h
unfolding records_by
locking {d} s =
    let v = started_inv s in
    record {
      besides = λ c. (v.rows c).pairs;
      holder_live = λ c. (v.rows c).holds;
      held_till_end = λ r i c. moved_held v r i c (step_moved d r) refl;
      under_lock = λ r x k. wrote_locked v (step_wrote d r v) x k;
      others_kept_out = λ r x k i n l f. let u = wrote_locked v (step_wrote d r v) x k in kept_out _ x u.0 u.2 i n l f;
      still_under_lock = λ g i x e f. machine_still g i x (started_machine (subst (Started d) e s)) f;
    }
