-- Waiting, and the second sentence of demand 3: a waiting job that does not give up gets its cell in the mode it asked for, at the latest in the step that ends the last run among the other jobs that held that cell or stood ahead when it asked, at most 31 runs.
-- Assumes nothing.
use Prim.Native.Nat.{ℕ, ◌<◌, ◌≤◌}
use mathlib.Core.Path.{◌≡◌, refl, ap, subst}
use mathlib.Core.Logic.{◌⊎◌, inl, inr}
use mathlib.Core.Bool.{false}
use mathlib.Core.List.{List, [], ◌∷◌}
use lib.ListN.{length}
use native.Mathlib.Omega.{arith}
use Rattle.laws.specs.Choice.{not_both}
use Rattle.conflict.specs.History.{History}
use Rattle.conflict.specs.Runs.{ended}
use Rattle.desks.specs.declared.Answer.TheVariants.{Wait}
use Rattle.desks.specs.Request.{Request}
use Rattle.desk_rules.specs.Desk.{Waiter, Desk}
use Rattle.desk_rules.specs.Locks.{wants}
use Rattle.desk_rules.specs.Asked.{asker}
use Rattle.desks.specs.Started.{after}
use Rattle.desk_rules.specs.Step.{step, events, Started}
use Rattle.desks.specs.Requests.{writes}
use Rattle.desk_rules.specs.Requests.{desk_after, history_of}
use Rattle.desk_rules.specs.Course.{from}
use Rattle.desk_rules.specs.Waiting.{InWay, IsWaiting, Waits, Patient, AllEnd, Granted, Served}
use Rattle.desk_rules.specs.Service.{Waiters, Service}
use Rattle.desk_rules.specs.Invariant.{Inv}
use Rattle.desk_rules.proofs.Kept.{step_inv, started_inv}
use Rattle.desk_rules.proofs.Settle.{wants_same}
use Rattle.desks.proofs.StartedThrough.{run_started}
use Rattle.desk_rules.proofs.InTheWay.{waiter_in, front_only, way_some, way_younger, way_live, chain_rises}
use Rattle.desk_rules.proofs.WaiterStep.{step_on, step_undisturbed, step_not_ended}
use Rattle.desk_rules.proofs.NotForgotten.{ended_none, ended_neither, waits_end, ways_through, waits_or_granted}
use Rattle.laws.proofs.Pigeonhole.{no_longer}
use Rattle.desk_rules.proofs.AtMost31.{with_self, all_seated}
use Rattle.desk_rules.proofs.SomebodyRuns.{runs_above}
use Rattle.desk_rules.proofs.AnswerTells.{ask_waited}
use Rattle.desk_rules.proofs.JustAsked.{just_asked, way_was, was_way}
use Rattle.desk_rules.proofs.GetsItsCell.{gets_its_cell}

module _ {d : Desk} (v : Inv d) (r : Request) (rs : List Request) (c : ℕ) (w : Waiter) (k : IsWaiting d c w) where
  -- it is served in the first of the requests
  served_now : Granted (step d r) c w (wants (d.row c).held w) → Served (from d) c w (r ∷ rs)
  unfolding writes
  served_now g = let (i, way) = way_some v c w k in record {
    before = [];
    request = r;
    rest = rs;
    split = refl;
    waited = k;
    in_time = (i, way, ended_none i);
    granted = g;
  }

  -- it still waits in the first, and is served in the rest
  served_later : IsWaiting (step d r).desk c w → Served (from (step d r).desk) c w rs → Served (from d) c w (r ∷ rs)
  unfolding writes
  served_later h s = record {
    before = r ∷ s.before;
    request = s.request;
    rest = s.rest;
    split = ap (λ l. r ∷ l) s.split;
    waited = (k, s.waited);
    in_time = in_time s.in_time;
    granted = subst (Granted (step (desk_after (step d r).desk s.before) s.request) c w)
        (wants_same ((step d r).desk.row c).held (d.row c).held w (step_undisturbed v r c w k h).hold) s.granted;
  }
    where
      in_time : (i : ℕ) × InWay ((step d r).desk.row c) w i × (ended i (history_of (step d r).desk s.before) ≡ false) → (i : ℕ) × InWay (d.row c) w i × (ended i (history_of d (r ∷ s.before)) ≡ false)
      in_time (i, way, e) =
          (i, (step_undisturbed v r c w k h).ways i way, ended_neither i (events d r) (history_of (step d r).desk s.before) (step_not_ended v r c w k i way) e)

  -- one more request, given the claim for the rest
  one_more : Patient (from d) c w (r ∷ rs) → (IsWaiting (step d r).desk c w → Patient (from (step d r).desk) c w rs → Waits (desk_after (step d r).desk) c w rs ⊎ Served (from (step d r).desk) c w rs) → Waits (desk_after d) c w (r ∷ rs) ⊎ Served (from d) c w (r ∷ rs)
  one_more p more = by_side (step_on v r c w k (p [] r rs refl k))
    where
      patient : Patient (from (step d r).desk) c w rs
      patient before x rest e l = p (r ∷ before) x rest (ap (λ l. r ∷ l) e) (k, l)

      in_rest : IsWaiting (step d r).desk c w → Waits (desk_after (step d r).desk) c w rs ⊎ Served (from (step d r).desk) c w rs → Waits (desk_after d) c w (r ∷ rs) ⊎ Served (from d) c w (r ∷ rs)
      in_rest h (inl l) = inl (k, l)
      in_rest h (inr s) = inr (served_later h s)

      by_side : IsWaiting (step d r).desk c w ⊎ Granted (step d r) c w (wants (d.row c).held w) → Waits (desk_after d) c w (r ∷ rs) ⊎ Served (from d) c w (r ∷ rs)
      by_side (inl h) = in_rest h (more h patient)
      by_side (inr g) = inr (served_now g)

-- after any requests in which it does not give up while it waits, it still waits or has been served
waits_on : {d : Desk} → Inv d → (c : ℕ) (w : Waiter) (rs : List Request) → IsWaiting d c w → Patient (from d) c w rs → Waits (desk_after d) c w rs ⊎ Served (from d) c w rs
waits_on v c w [] k p = inl k
waits_on {d} v c w (r ∷ rs) k p = one_more v r rs c w k p (waits_on {d = (step d r).desk} (step_inv v r) c w rs)

-- if one of two fails, the other holds
otherwise : {A B : Type 0} → A ⊎ B → (A → ⊥) → B
otherwise (inl a) n = absurd (n a)
otherwise (inr b) n = b

module _ {d : Desk} {h : History} (s : Started d h) where
  v : Inv d
  v = started_inv s

  -- some job is in a waiter's way after some requests
  blocker : (c : ℕ) (w : Waiter) (rs : List Request) → Waits (desk_after d) c w rs → (i : ℕ) × InWay ((desk_after d rs).row c) w i
  blocker c w rs x = way_some (started_inv (run_started s rs)) c w (waits_end c w d rs x)

  -- what is promised of a waiter
  pub waiters : (c : ℕ) (w : Waiter) → IsWaiting d c w → Waiters (from d) c w
  waiters c w k =
      let forgotten : (rs : List Request) → AllEnd (from d) c w rs → Waits (desk_after d) c w rs → ⊥ = λ rs all x.
      let (i, way) = blocker c w rs x in
      let (p, q) = ways_through c w v rs x i way in
      not_both (all i p) q in
      record {
        somebody_in_way = way_some v c w k;
        lacks_it = (v.rows c).lacks w (waiter_in v c w k);
        holder_in_front = front_only v c w k;
        is_older = way_younger v c w k;
        in_way_live = way_live v c w k;
        at_most_31 = λ is o ways.
            let l : length (w.job ∷ is) ≤ length d.jobs = no_longer (w.job ∷ is) d.jobs (with_self v c w k is ways o) (all_seated v c w k is ways) in
            omega (arith, v.size);
        waits_or_served = λ rs p. waits_on v c w rs k p;
        waiter_served = λ rs p all. otherwise (waits_on v c w rs k p) (forgotten rs all);
        still_in_way = λ rs x. let (i, way) = blocker c w rs x in let (p, q) = ways_through c w v rs x i way in (i, p, q, way);
        not_forgotten = forgotten;
        granted_at_last = λ rs x r n stops. otherwise (waits_or_granted s c w rs x r n) stops;
      }

-- what is promised of waiting
pub service : {d : Desk} {h : History} → Started d h → Service (from d)
service {d} s =
    let v = started_inv s in
    record {
      somebody_runs = λ j c a e. runs_above v d.next j c a (omega arith) e;
      no_circle = λ j l. let g : j < j = chain_rises v l in omega arith;
      waiting_is_standing = λ c w. (waiter_in v c w, (v.rows c).stands w);
      waiters = waiters s;
      asker_waits = λ r a l e. (just_asked s r a l e).status;
      in_way_when_asked = λ r a l e i. (way_was s r a l e i, was_way s r a l e i);
      served_in_time = λ r a l e.
          let w = waiters (after s r) r.cell (asker r a) (just_asked s r a l e).status in
          record { waits = (just_asked s r a l e).status; in_a_run = w.in_way_live; at_most = w.at_most_31; served = w.waiter_served };
      gets_its_cell = λ r j e.
          let t = ask_waited d r j e in
          let e' : (step d r).said ≡ Wait r.job = subst (λ i. (step d r).said ≡ Wait i) t.job e in
          let w = waiters (after s r) r.cell (asker r t.ask) (just_asked s r t.ask t.asking.letter e').status in
          (t.job, gets_its_cell s r t.ask t.asking.letter e' w);
    }
