-- What a step does to the locks, and what it writes: nothing, the action that was asked, or the mark of a run's end and then the wakes. Only this file follows the moves for it.
-- Assumes nothing.
use Prim.Native.Nat.{ℕ}
use mathlib.Core.Path.{◌≡◌, refl}
use mathlib.Core.Logic.{◌≢◌}
use mathlib.Core.Bool.{true, false}
use mathlib.Core.List.{List, [], ◌∷◌, ◌++◌}
use Rattle.laws.specs.Choice.{not_both}
use Rattle.terms.specs.declared.letters.Ask.{Ask}
use Rattle.terms.specs.Limits.{cells}
use Rattle.conflict.specs.declared.modes.Mode.{Mode}
use Rattle.conflict.specs.declared.action.Action.{Action}
use Rattle.conflict.specs.declared.action.Mark.{Mark}
use Rattle.conflict.specs.declared.action.Mark.TheVariants.{Commit, GiveUp, Back}
use Rattle.conflict.specs.declared.action.Event.TheVariants.{Does, Ends}
use Rattle.conflict.specs.Modes.{needed, recorded, covers, beside, grants, asked}
use Rattle.conflict.specs.History.{History}
use Rattle.conflict.proofs.OneEvent.{back_not_last, is_last}
use Rattle.conflict.proofs.ModeLaws.{covers_refl, covers_none, asked_covers, asked_grows}
use Rattle.desks.specs.declared.Answer.{Answer}
use Rattle.desks.specs.declared.Answer.TheVariants.{Go, Back as sent_back}
use Rattle.desks.specs.Request.{Request}
use Rattle.laws.specs.Functions.{at}
use Rattle.desks.specs.Places.{vacated}
use Rattle.desk_rules.specs.Desk.{Status, closed, sentback, is_open, Desk, Waiter, Row, is_live}
use Rattle.desks.specs.Begin.{refused}
use Rattle.desk_rules.specs.Rules.{Outcome, with_row, with_status, wakes_of, rows_after, rule4, grant}
use Rattle.desks.specs.Records.{records_by, went_by, own_records, wake_records, records_of}
use Rattle.desk_rules.specs.Step.{step, events}
use Rattle.desk_rules.specs.Asked.{Asking}
use Rattle.desk_rules.specs.Moves.{Moved}
use Rattle.desk_rules.specs.Moves.Moved.{refuses, begins, commits, gives_up, retries, has_it, promotes, waits_in_front, enters, waits_last, goes_back}
use Rattle.desk_rules.proofs.Moved.{step_moved}
use Rattle.desk_rules.specs.Invariant.{Inv}
use Rattle.desk_rules.proofs.Statuses.{running_open}
use Rattle.laws.proofs.Functions.{at_each}
use Rattle.desk_rules.proofs.Tests.{agrees_each}
use Rattle.desk_rules.proofs.Settle.{taking_pairs}
use Rattle.desk_rules.proofs.RunEnd.{row_ready}
use Rattle.desk_rules.proofs.ExactModes.{granted_mode}

-- the action that a request asks for
unfoldable pub asking : Request → Ask → Action
asking r a = record { kind = recorded a; job = r.job; cell = r.cell }

-- no job holds less than before on any cell, and the locks of different jobs may be held together
pub record Grew (before after : ℕ → Row) : Type 0 where
  pub grown : (j c : ℕ) → covers ((after c).held j) ((before c).held j) ≡ true
  pub pairs : (c i j : ℕ) → i ≢ j → beside ((after c).held i) ((after c).held j) ≡ true

-- what a step leaves and writes
pub data Wrote (d : Desk) (r : Request) : Outcome → History → Type 0 where
  nothing : {o : Outcome} → Grew d.row o.desk.row → Wrote d r o []
  action : {o : Outcome} (a : Ask) → Asking d r a → Grew d.row o.desk.row → covers ((o.desk.row r.cell).held r.job) (needed a) ≡ true → Wrote d r o (Does (asking r a) ∷ [])
  mark : (m : Mark) (s : Status) (js : List ℕ) (said : Answer) → is_open (d.stat r.job) ≡ true → (is_last m ≡ true → s ≡ closed) → is_live s ≡ false → Wrote d r (rule4 d r.job s js said) (Ends m r.job ∷ wake_records (wakes_of (rows_after d r.job) cells))

module _ (d : Desk) (v : Inv d) where
  -- a desk with the same rows
  same_rows : Grew d.row d.row
  same_rows = record { grown = λ j c. covers_refl ((d.row c).held j); pairs = λ c. (v.rows c).pairs }

  -- a row with the same locks for one cell
  same_locks : (c : ℕ) (q : List Waiter) → Grew d.row (at d.row c (record { held = (d.row c).held; queue = q }))
  same_locks c q = record {
    grown = λ j b. at_each (λ x. covers (x.held j) ((d.row b).held j) ≡ true) d.row c (record { held = (d.row c).held; queue = q }) b
        (λ e. rw e (covers_refl ((d.row c).held j))) (λ _. covers_refl ((d.row b).held j));
    pairs = λ b i j n. at_each (λ x. beside (x.held i) (x.held j) ≡ true) d.row c (record { held = (d.row c).held; queue = q }) b
        (λ _. (v.rows c).pairs i j n) (λ _. (v.rows b).pairs i j n);
  }

  -- a job takes a mode that covers what it holds and is granted beside every other job's
  one_more : (j c : ℕ) (m : Mode) → covers m ((d.row c).held j) ≡ true → ((i : ℕ) → i ≢ j → grants ((d.row c).held i) m ≡ true) → Grew d.row (grant d j c m).desk.row
  unfolding grant with_row
  one_more j c m g h = record {
    grown = λ i b. at_each (λ x. covers (x.held i) ((d.row b).held i) ≡ true) d.row c (record { held = at (d.row c).held j m; queue = (d.row c).queue }) b
        (λ e. rw e (at_each (λ y. covers y ((d.row c).held i) ≡ true) (d.row c).held j m i (λ p. rw p g) (λ _. covers_refl ((d.row c).held i))))
        (λ _. covers_refl ((d.row b).held i));
    pairs = λ b i k n. at_each (λ x. beside (x.held i) (x.held k) ≡ true) d.row c (record { held = at (d.row c).held j m; queue = (d.row c).queue }) b
        (λ _. taking_pairs (d.row c).held j m h (v.rows c).pairs i k n) (λ _. (v.rows b).pairs i k n);
  }

module _ (d : Desk) (r : Request) (v : Inv d) where
  -- the mode that was asked for is granted, and the action written
  granted_wrote : (a : Ask) (m : Mode) → Asking d r a → covers m ((d.row r.cell).held r.job) ≡ true → covers m (needed a) ≡ true → ((i : ℕ) → i ≢ r.job → grants ((d.row r.cell).held i) m ≡ true) → Wrote d r (grant d r.job r.cell m) (Does (asking r a) ∷ [])
  granted_wrote a m k g c h = action a k (one_more d v r.job r.cell m g h) (rw (granted_mode d r.job r.cell m) c)

  -- every move, by what it writes
  moved_wrote : {o : Outcome} → Moved d r o → Wrote d r o (records_of r o.said o.wakes)
  unfolding records_of own_records went_by wake_records refused rule4 grant with_row with_status asking is_live
  moved_wrote (refuses why _) = nothing (same_rows d v)
  moved_wrote (begins e n m) = rw e (nothing (same_rows d v))
  moved_wrote (commits e s) = rw e (mark Commit closed (vacated r.job d.jobs) (Go r.job) (running_open s) (λ _. refl) refl)
  moved_wrote (gives_up e s) = rw e (mark GiveUp closed (vacated r.job d.jobs) (Go r.job) s (λ _. refl) refl)
  moved_wrote (retries e s) = rw e (nothing (same_rows d v))
  moved_wrote (has_it a k c) = rw k.letter (action a k (same_rows d v) c)
  moved_wrote (promotes a k c f l) =
      let held = (d.row r.cell).held in
      let m = asked (held r.job) (needed a) in
      rw k.letter (granted_wrote a m k (asked_grows (held r.job) (needed a)) (asked_covers (held r.job) (needed a))
      (agrees_each d.jobs held r.job m (row_ready v r.cell).seats l))
  moved_wrote (waits_in_front a k c f l o) = nothing (same_locks d v r.cell (record { job = r.job; ask = a } ∷ (d.row r.cell).queue))
  moved_wrote (enters a k f e g) =
      let held = (d.row r.cell).held in
      rw k.letter (granted_wrote a (needed a) k (covers_none (needed a) (held r.job) f) (covers_refl (needed a))
      (agrees_each d.jobs held r.job (needed a) (row_ready v r.cell).seats g))
  moved_wrote (waits_last a k f e h w) = nothing (same_locks d v r.cell ((d.row r.cell).queue ++ record { job = r.job; ask = a } ∷ []))
  moved_wrote (goes_back a k e) = mark Back sentback d.jobs (sent_back r.job) (running_open k.runs) (λ l. not_both l back_not_last) refl

  -- every step, by what it writes
  pub step_wrote : Wrote d r (step d r) (events d r)
  unfolding records_by
  step_wrote = moved_wrote (step_moved d r)
