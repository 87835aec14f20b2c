-- Rules 2 and 3 in the paper's words, over all jobs and not over places: when an asking job goes, when and where it waits, and when it is sent back. The answer tells the rest (01, rules 2 and 3).
-- Assumes nothing.
use Prim.Native.Nat.{ℕ, ◌<◌}
use mathlib.Core.Path.{◌≡◌, refl, ap, ◌∙◌}
use mathlib.Core.Bool.{Bool, true, false, ◌&&◌}
use mathlib.Core.List.{List, [], ◌∷◌, ◌++◌}
use native.Mathlib.Omega.{arith}
use Rattle.laws.specs.Choice.{pick, by_test}
use Rattle.terms.specs.declared.letters.Ask.{Ask}
use Rattle.conflict.specs.declared.modes.Mode.{Mode}
use Rattle.conflict.specs.Modes.{needed, grants, asked, is_free}
use Rattle.conflict.proofs.ModeLaws.{covers_free, is_free_lem, grants_free}
use Rattle.laws.proofs.Parts.{and_both}
use Rattle.conflict.specs.History.{History}
use Rattle.desks.specs.declared.Answer.TheVariants.{Go, Wait, Back}
use Rattle.desks.specs.Request.{Request}
use Rattle.laws.specs.Standing.{In, first, later}
use Rattle.desk_rules.specs.Desk.{Waiter, Desk}
use Rattle.desk_rules.specs.Locks.{agrees, older_than_holders, older_than_waiters, is_empty}
use Rattle.desk_rules.specs.Rules.{with_row, with_status, rule2, rule3, rule4, grant, queued, send_back, rule1, ask}
use Rattle.desk_rules.specs.Step.{step, Started}
use Rattle.desk_rules.specs.Asked.{held_there, asked_there, queue_there, OtherHolder, Opposed, Promotes, Enters, Hindered, waits_already, disagrees}
use Rattle.desk_rules.specs.Releasing.{Seated}
use Rattle.desk_rules.specs.Course.{from}
use Rattle.desk_rules.specs.Decides.{Decides}
use Rattle.desk_rules.proofs.Kept.{started_inv}
use Rattle.laws.proofs.Functions.{at_same}
use Rattle.desk_rules.proofs.Tests.{agrees_each, each_agrees, not_agrees, each_older, older_holders, each_older_waiters, older_waiters}
use Rattle.desk_rules.proofs.RunEnd.{row_ready}
use Rattle.desk_rules.proofs.Granting.{asking_step}
use Rattle.desk_rules.proofs.Moved.{step_moved}
use Rattle.desk_rules.proofs.WentAgreeing.{went_agrees}

-- rule 2 decides a promotion
by_rule2 : {d : Desk} {r : Request} {a : Ask} → Promotes d r a → step d r ≡ rule2 d r.job r.cell a
unfolding ask
by_rule2 {d} {r} {a} p = asking_step d r a p.asking ∙ rw (p.not_covered, p.holds)

-- rule 3 decides a request of a job new to the cell
by_rule3 : {d : Desk} {r : Request} {a : Ask} → Enters d r a → step d r ≡ rule3 d r.job r.cell a
unfolding ask
by_rule3 {d} {r} {a} p =
    asking_step d r a p.asking ∙ rw (covers_free _ a p.holds_nothing, p.holds_nothing)

-- the tests of rule 2 and its answers
rule2_said : (d : Desk) (j c : ℕ) (a : Ask) → (rule2 d j c a).said ≡ pick (agrees d.jobs (d.row c).held j (asked ((d.row c).held j) (needed a))) (Go j) (pick (older_than_holders d.jobs (d.row c).held j) (Wait j) (Back j))
unfolding rule2 grant queued send_back rule4
rule2_said d j c a =
    by_test (agrees d.jobs (d.row c).held j (asked ((d.row c).held j) (needed a))) (λ t. rw t)
    (λ f. by_test (older_than_holders d.jobs (d.row c).held j) (λ t. rw (f, t)) (λ g. rw (f, g)))

-- the tests of rule 3 and its answers
rule3_said : (d : Desk) (j c : ℕ) (a : Ask) → (rule3 d j c a).said ≡ pick (is_empty (d.row c).queue && agrees d.jobs (d.row c).held j (needed a)) (Go j) (pick (older_than_holders d.jobs (d.row c).held j && older_than_waiters (d.row c).queue j) (Wait j) (Back j))
unfolding rule3 grant queued send_back rule4
rule3_said d j c a =
    by_test (is_empty (d.row c).queue && agrees d.jobs (d.row c).held j (needed a)) (λ t. rw t)
    (λ f. by_test (older_than_holders d.jobs (d.row c).held j && older_than_waiters (d.row c).queue j) (λ t. rw (f, t)) (λ g. rw (f, g)))

-- a promotion that waits is at the front of the cell's queue, and every job holds what it held
rule2_front : (d : Desk) (j c : ℕ) (a : Ask) → agrees d.jobs (d.row c).held j (asked ((d.row c).held j) (needed a)) ≡ false → older_than_holders d.jobs (d.row c).held j ≡ true → (rule2 d j c a).desk.row c ≡ record { held = (d.row c).held; queue = record { job = j; ask = a } ∷ (d.row c).queue }
unfolding rule2 queued with_status with_row
rule2_front d j c a f t = rw (f, t) (at_same d.row c _)

-- a job new to the cell that waits is at the end of the cell's queue
rule3_end : (d : Desk) (j c : ℕ) (a : Ask) → (is_empty (d.row c).queue && agrees d.jobs (d.row c).held j (needed a)) ≡ false → (older_than_holders d.jobs (d.row c).held j && older_than_waiters (d.row c).queue j) ≡ true → (rule3 d j c a).desk.row c ≡ record { held = (d.row c).held; queue = (d.row c).queue ++ record { job = j; ask = a } ∷ [] }
unfolding rule3 queued with_status with_row
rule3_end d j c a f t = rw (f, t) (at_same d.row c _)

-- a queue with a waiter is not empty
not_empty : {w : Waiter} {q : List Waiter} → In w q → is_empty q ≡ false
unfolding is_empty
not_empty first = refl
not_empty (later h) = refl

-- two tests do not both hold if the first fails
not_first : (a b : Bool) → a ≡ false → (a && b) ≡ false
not_first a b e = rw e

-- nor if the second fails
not_second : (a b : Bool) → b ≡ false → (a && b) ≡ false
not_second true b e = e
not_second false b e = refl

module _ {d : Desk} {h : History} (started : Started d h) (r : Request) (a : Ask) where
  -- every holder has a place
  seats : Seated d.jobs (held_there d r)
  seats = (row_ready (started_inv started) r.cell).seats

  -- if another holder's mode does not grant the mode asked for, that mode does not agree with all holders
  disagreeing : (m : Mode) (i : ℕ) → Opposed d r m i → agrees d.jobs (held_there d r) r.job m ≡ false
  disagreeing m i o = not_agrees d.jobs (held_there d r) r.job m seats i o.holder.other o.disagrees

  -- if another holder is older, the job is not older than every holder
  not_older : (i : ℕ) → OtherHolder d r i → i < r.job → older_than_holders d.jobs (held_there d r) r.job ≡ false
  not_older i o l =
      by_test (older_than_holders d.jobs (held_there d r) r.job)
      (λ t. let g : r.job < i = older_holders d.jobs (held_there d r) r.job seats t i o.other o.holds in absurd (omega arith)) (λ f. f)

  -- if every other holder is younger, it is
  is_older : ((i : ℕ) → OtherHolder d r i → r.job < i) → older_than_holders d.jobs (held_there d r) r.job ≡ true
  is_older h = each_older d.jobs (held_there d r) r.job (λ i n f. h i (record { other = n; holds = f }))

  -- if every waiter is younger too, it is older than every holder and waiter
  oldest_there : ((i : ℕ) → OtherHolder d r i → r.job < i) → ((w : Waiter) → In w (queue_there d r) → r.job < w.job) → (older_than_holders d.jobs (held_there d r) r.job && older_than_waiters (queue_there d r) r.job) ≡ true
  oldest_there h w = and_both (older_than_holders d.jobs (held_there d r) r.job) (older_than_waiters (queue_there d r) r.job) (is_older h) (each_older_waiters (queue_there d r) r.job w)

  -- a hindered job cannot have the cell at once
  not_at_once : Hindered d r a → (is_empty (queue_there d r) && agrees d.jobs (held_there d r) r.job (needed a)) ≡ false
  not_at_once (waits_already w s) = not_first (is_empty (queue_there d r)) (agrees d.jobs (held_there d r) r.job (needed a)) (not_empty s)
  not_at_once (disagrees i o) = not_second (is_empty (queue_there d r)) (agrees d.jobs (held_there d r) r.job (needed a)) (disagreeing (needed a) i o)

  -- if every other holder's mode grants the mode asked for, that mode agrees with all of them
  agreeing : (m : Mode) → ((i : ℕ) → OtherHolder d r i → grants (held_there d r i) m ≡ true) → agrees d.jobs (held_there d r) r.job m ≡ true
  agreeing m h =
      each_agrees d.jobs (held_there d r) r.job m
      (λ i n. by_test (is_free (held_there d r i)) (λ t. rw (is_free_lem (held_there d r i) t) (grants_free m)) (λ f. h i (record { other = n; holds = f })))

  -- if a waiter is older, the job is not older than every waiter
  behind : (w : Waiter) → In w (queue_there d r) → w.job < r.job → older_than_waiters (queue_there d r) r.job ≡ false
  behind w s l =
      by_test (older_than_waiters (queue_there d r) r.job)
      (λ t. let g : r.job < w.job = older_waiters (queue_there d r) r.job t w s in absurd (omega arith)) (λ f. f)

  -- what is promised of rules 1 to 3
  pub decides : Decides (from d) r a
  unfolding ask rule1 is_empty
  decides =
      let held = held_there d r in
      let queue = queue_there d r in
      let said2 : Promotes d r a → (step d r).said ≡ (rule2 d r.job r.cell a).said = λ p. ap (λ o. o.said) (by_rule2 p) in
      let said3 : Enters d r a → (step d r).said ≡ (rule3 d r.job r.cell a).said = λ p. ap (λ o. o.said) (by_rule3 p) in
      record {
        goes_agreeing = λ k n g i o. agrees_each d.jobs held r.job (asked_there d r a) seats (went_agrees d r a k.letter n (step_moved d r) g) i o.other;
        has_it = λ k h.
            let e : step d r ≡ rule1 d r.job = asking_step d r a k ∙ rw h in
            (ap (λ o. o.said) e, ap (λ o. o.desk) e, ap (λ o. o.wakes) e);
        promotion_goes = λ p h. said2 p ∙ rule2_said d r.job r.cell a ∙ rw (agreeing (asked_there d r a) h);
        promotion_waits = λ p i o h. said2 p ∙ rule2_said d r.job r.cell a ∙ rw (disagreeing (asked_there d r a) i o, is_older h);
        promotion_in_front = λ p i o h. ap (λ o. o.desk.row r.cell) (by_rule2 p) ∙ rule2_front d r.job r.cell a (disagreeing (asked_there d r a) i o) (is_older h);
        promotion_back = λ p i o e x l. said2 p ∙ rule2_said d r.job r.cell a ∙ rw (disagreeing (asked_there d r a) i o, not_older e x l);
        entry_goes = λ p e h. said3 p ∙ rule3_said d r.job r.cell a ∙ rw (and_both (is_empty queue) (agrees d.jobs held r.job (needed a)) (rw e) (agreeing (needed a) h));
        entry_waits = λ p x h w. said3 p ∙ rule3_said d r.job r.cell a ∙ rw (not_at_once x, oldest_there h w);
        entry_at_end = λ p x h w. ap (λ o. o.desk.row r.cell) (by_rule3 p) ∙ rule3_end d r.job r.cell a (not_at_once x) (oldest_there h w);
        entry_back = λ p x i o l. said3 p ∙ rule3_said d r.job r.cell a ∙ rw (not_at_once x, not_first (older_than_holders d.jobs held r.job) (older_than_waiters queue r.job) (not_older i o l));
        entry_back_waiter = λ p w s l. said3 p ∙ rule3_said d r.job r.cell a ∙ rw (not_at_once (waits_already w s), not_second (older_than_holders d.jobs held r.job) (older_than_waiters queue r.job) (behind w s l));
      }
