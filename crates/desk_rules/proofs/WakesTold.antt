-- The wakes of a step exactly: which jobs are woken, cell by cell and from the front of each queue, each with exactly the mode that it waited for; and no other job's status, place or lock changes (01, rule 4).
-- Assumes nothing.
use Prim.Native.Nat.{ℕ, ◌<◌}
use mathlib.Core.Path.{◌≡◌, refl, sym, ap, ◌∙◌, subst}
use mathlib.Core.Logic.{◌≢◌}
use mathlib.Core.Bool.{false}
use native.Mathlib.Omega.{arith}
use Rattle.terms.specs.declared.letters.Ask.{Ask}
use Rattle.terms.specs.Limits.{cells}
use Rattle.conflict.specs.declared.modes.Mode.{Mode}
use Rattle.conflict.specs.declared.action.Action.{Action}
use Rattle.conflict.specs.Modes.{needed, covers, asked}
use Rattle.conflict.specs.History.{History}
use Rattle.conflict.proofs.ModeLaws.{asked_free}
use Rattle.conflict.proofs.ExactNeeds.{promotion_asks}
use mathlib.Core.List.{[]}
use Rattle.desks.specs.declared.Answer.TheVariants.{Go}
use Rattle.desks.specs.Request.{Request}
use Rattle.laws.specs.Standing.{In}
use Rattle.desk_rules.specs.Desk.{closed, waiting, Waiter, Desk}
use Rattle.desk_rules.specs.Locks.{wants}
use Rattle.desk_rules.specs.Rules.{wake, rows_after}
use Rattle.desks.specs.Records.{records_by}
use Rattle.desk_rules.specs.Step.{step, Started}
use Rattle.desk_rules.specs.Course.{from}
use Rattle.desk_rules.specs.Waiting.{Ahead}
use Rattle.desk_rules.specs.WakeOrder.{Before, Sooner, smaller_cell, stood_ahead}
use Rattle.desk_rules.specs.Effects.{WokenWith}
use Rattle.desk_rules.specs.Invariant.{Falling, Inv}
use Rattle.desk_rules.specs.Wakes.{Wakes}
use Rattle.desk_rules.proofs.Kept.{started_inv}
use Rattle.desk_rules.proofs.Moved.{step_moved}
use Rattle.desk_rules.proofs.Queue.{falling_left, without_falling}
use Rattle.desk_rules.proofs.Statuses.{one_ask, one_cell}
use Rattle.desk_rules.proofs.AheadLaws.{ahead_in, ahead_of_lem, ahead_younger, younger_ahead}
use Rattle.desk_rules.proofs.RunEnd.{wakes_after, row_releases}
use Rattle.desk_rules.proofs.Waking.{rule4_wakes, moved_wakes}
use Rattle.desk_rules.proofs.Written.{step_wrote}
use Rattle.desk_rules.proofs.OneRecordEach.{wrote_one, wrote_none}
use Rattle.desk_rules.proofs.Bystanders.{moved_status, moved_place}
use Rattle.desk_rules.proofs.OthersLocks.{moved_locks, granted_elsewhere}
use Rattle.desk_rules.proofs.WakeOrder.{Searched, granted_ahead, before_first, before_second, search_order}
use Rattle.desk_rules.proofs.WakeOrder as searching
use Rattle.desk_rules.proofs.WakesFew.{few_woken}
use Rattle.desk_rules.proofs.FewRecords.{records_size, own_size}
use Rattle.desk_rules.proofs.RunEnded.{Ran, ran, only_rule_4, wake_ran}

module _ {d : Desk} (v : Inv d) (j c : ℕ) where
  -- a job granted ahead of another stood ahead of it
  granted_stood : (u w : Waiter) → Ahead u w (rows_after d j c).woken → Ahead u w (d.row c).queue
  granted_stood u w a =
      let t = row_releases v j c in
      let down = falling_left (rows_after d j c).woken (rows_after d j c).row.queue (subst Falling t.parted (without_falling j (d.row c).queue (v.rows c).down)) in
      younger_ahead u w (d.row c).queue (v.rows c).down (t.woken_was u (ahead_in a)) (t.woken_was w (ahead_of_lem a)) (ahead_younger down a)

-- a wake that comes first in the search of rule 4 stood first
searched_sooner : {d : Desk} → Inv d → (j : ℕ) {x y : Action} → Searched (rows_after d j) x y → Sooner d x y
searched_sooner v j (searching.smaller_cell l) = smaller_cell l
searched_sooner v j (granted_ahead c u w e k a) = stood_ahead c u w e k (granted_stood v j c u w a)

-- the mode that a waiter wants is what its mode becomes if it holds the cell, else what it needs
wants_exactly : (held : ℕ → Mode) (w : Waiter) → covers (held w.job) (needed w.ask) ≡ false → WokenWith (held w.job) (wants held w) w.ask
unfolding wants
wants_exactly held w n = record {
  promoted = λ f. (promotion_asks (held w.job) (asked (held w.job) (needed w.ask)) w.ask).1 (f, n, refl);
  entered = asked_free (held w.job) (needed w.ask);
}

-- a waiter granted when job j's run ends holds the mode it wanted
granted_exactly : {d : Desk} → Inv d → (j c : ℕ) (w : Waiter) → In w (rows_after d j c).woken → (a : Ask) → d.stat w.job ≡ waiting c a → WokenWith ((d.row c).held w.job) ((rows_after d j c).row.held w.job) a
granted_exactly {d} v j c w i a k =
    let t = row_releases v j c in
    subst (WokenWith ((d.row c).held w.job) ((rows_after d j c).row.held w.job)) (one_ask ((v.rows c).stands w (t.woken_was w i)) k)
    (subst (λ m. WokenWith ((d.row c).held w.job) m w.ask) (sym (t.takes w i)) (wants_exactly (d.row c).held w ((v.rows c).lacks w (t.woken_was w i))))

module _ {d : Desk} (v : Inv d) where
  -- a job that comes first in the search is not the one that comes later
  not_twice : {x y : Action} → Sooner d x y → x.job ≡ y.job → (a b : Ask) → d.stat x.job ≡ waiting x.cell a → d.stat y.job ≡ waiting y.cell b → ⊥
  unfolding wake
  not_twice (smaller_cell l) e a b p q = let z = one_cell p (ap d.stat e ∙ q) in omega (arith, l, z)
  not_twice (stood_ahead c u w e f k) g a b p q =
      let l : w.job < u.job = ahead_younger (v.rows c).down k in
      let z : u.job ≡ w.job = sym (ap (λ t. t.job) e) ∙ g ∙ ap (λ t. t.job) f in
      omega (arith, l, z)

  -- so when a run ends no job is told twice
  apart : (j : ℕ) (x y : Action) → Before x y (wakes_after d j) → x.job ≢ y.job
  apart j x y b e =
      let p = rule4_wakes v j closed [] (Go 0) x (before_first b) in
      let q = rule4_wakes v j closed [] (Go 0) y (before_second b) in
      not_twice (searched_sooner v j ((search_order (rows_after d j) cells).ordered b)) e p.ask q.ask p.waited q.waited

module _ {d : Desk} {h : History} (s : Started d h) (r : Request) where
  v : Inv d
  v = started_inv s

  -- of two wakes the one told first comes first in the search of rule 4
  searched : {x y : Action} → Before x y (step d r).wakes → Searched (rows_after d r.job) x y
  searched {x} {y} b = (search_order (rows_after d r.job) cells).ordered (subst (Before x y) (wake_ran d r x (before_first b)).0.wakes b)

  -- what a woken job then holds on its cell
  left_with : (c : ℕ) (w : Waiter) → In w (rows_after d r.job c).woken → Ran d r → (y : Action) → y ≡ wake c w → (a : Ask) → d.stat y.job ≡ waiting y.cell a → WokenWith ((d.row y.cell).held y.job) (((step d r).desk.row y.cell).held y.job) a
  unfolding wake
  left_with c w i t y e a q = rw (e, t.row c) (granted_exactly v r.job c w i a (rw e at q))

  -- and on every other cell
  left_elsewhere : (b : ℕ) (u : Waiter) → In u (rows_after d r.job b).woken → Ran d r → (y : Action) → y ≡ wake b u → (c : ℕ) → c ≢ y.cell → ((step d r).desk.row c).held y.job ≡ (d.row c).held y.job
  unfolding wake
  left_elsewhere b u k t y e c q = rw (e, t.row c) (granted_elsewhere v r.job b c u k (rw e at q))

  -- what is promised of wakes and bystanders
  pub wakes : Wakes (from d) r
  unfolding records_by
  wakes = record {
    wakes_only_rule_4 = only_rule_4 (step_moved d r);
    rule_4 = λ e. let k = ran d r e in record { settled = rows_after d r.job; rows = k.row; wakes = k.wakes; releases = row_releases v r.job };
    wake_tells = λ x. moved_wakes v x (step_moved d r);
    wakes_exactly = λ x m a k. let (t, g) = wake_ran d r x m in left_with g.cell g.waiter g.granted t x g.is a k;
    wakes_in_order = λ x y b. searched_sooner v r.job (searched b);
    woken_once = λ x y b. apart v r.job x y (subst (Before x y) (wake_ran d r x (before_first b)).0.wakes b);
    at_most_31 = few_woken v r (apart v r.job) (only_rule_4 (step_moved d r));
    records_at_most_32 = omega (arith, records_size r (step d r).said (step d r).wakes, own_size r (step d r).said, few_woken v r (apart v r.job) (only_rule_4 (step_moved d r)));
    bystander = λ i n. moved_status d r i n (step_moved d r);
    bystander_place = λ i n z. moved_place d r i n z (step_moved d r);
    bystander_locks = λ i n f c. moved_locks v r i n c (step_moved d r) f;
    woken_locks = λ x m c n. let (t, g) = wake_ran d r x m in left_elsewhere g.cell g.waiter g.granted t x g.is c n;
    one_record_each = wrote_one v (step_wrote d r v) (apart v r.job);
    none_while_waiting = wrote_none v (step_wrote d r v);
  }
