-- A run ends on a desk that keeps the invariant: each row is released, and exactly the jobs granted in the queues in which they waited are woken.
-- Assumes nothing.
use Prim.Native.Nat.{ℕ, ◌<◌}
use mathlib.Core.Path.{◌≡◌, refl, sym, ap, subst, ◌∙◌}
use mathlib.Core.Logic.{◌≢◌}
use mathlib.Core.Bool.{true, false}
use mathlib.Core.List.{List}
use native.Mathlib.Omega.{arith}
use Rattle.laws.specs.Choice.{by_test}
use Rattle.terms.specs.declared.letters.Ask.{Ask}
use Rattle.terms.specs.Limits.{cells}
use Rattle.conflict.specs.declared.action.Action.{Action}
use Rattle.laws.specs.Functions.{at}
use Rattle.laws.specs.Standing.{In}
use Rattle.desk_rules.specs.Desk.{Status, running, waiting, Waiter, Desk}
use Rattle.desk_rules.specs.Rules.{is_woken, wakes_of, run_again, rows_after}
use Rattle.desk_rules.specs.Releasing.{Releases}
use Rattle.desk_rules.specs.Invariant.{Inv}
use Rattle.desk_rules.proofs.Statuses.{live_open, waiting_open, one_cell}
use Rattle.desk_rules.proofs.Settle.{Ready}
use Rattle.desk_rules.proofs.Release.{released_releases}
use Rattle.laws.proofs.Functions.{at_same, at_other, at_each}
use Rattle.desk_rules.proofs.Wakes.{WokenAt, woken_at, at_woken, woken_runs, others_stay, wakened_each}

-- the wakes when job j's run ends
abbrev pub wakes_after : Desk → ℕ → List Action
wakes_after d j = wakes_of (rows_after d j) cells

-- the statuses then, with the one given for the job
abbrev pub status_after : Desk → ℕ → Status → ℕ → Status
status_after d j s = run_again (at d.stat j s) (wakes_after d j)

-- each row can be settled
pub row_ready : {d : Desk} → Inv d → (c : ℕ) → Ready d.jobs (d.row c).held (d.row c).queue
row_ready {d} v c = record {
  seats = λ i f. v.seats i (live_open (d.stat i) ((v.rows c).holds i f));
  waits = λ w h. v.seats w.job (waiting_open ((v.rows c).stands w h));
  pairs = (v.rows c).pairs;
  elder = (v.rows c).elder;
  down = (v.rows c).down;
}

module _ {d : Desk} (v : Inv d) (j : ℕ) where
  -- each row is released
  pub row_releases : (c : ℕ) → Releases d.jobs j (d.row c) (rows_after d j c)
  unfolding rows_after
  row_releases c = released_releases d.jobs j (d.row c) (row_ready v c)

  -- a job that is granted in a queue is among the wakes
  pub granted_woken : (c : ℕ) (w : Waiter) → In w (rows_after d j c).woken → is_woken w.job (wakes_after d j) ≡ true
  granted_woken c w h = at_woken (rows_after d j) cells c w ((v.rows c).within w ((row_releases c).woken_was w h)) h

  -- a woken job waited, and is granted in the queue in which it waited
  pub woken_waited : (i : ℕ) → is_woken i (wakes_after d j) ≡ true → (c : ℕ) × (a : Ask) × (d.stat i ≡ waiting c a) × In (record { job = i; ask = a }) (rows_after d j c).woken
  woken_waited i t = told (woken_at (rows_after d j) cells i t)
    where
      told : WokenAt (rows_after d j) cells i → (c : ℕ) × (a : Ask) × (d.stat i ≡ waiting c a) × In (record { job = i; ask = a }) (rows_after d j c).woken
      told k =
          let c = k.cell in
          let w = k.waiter in
          (c, w.ask, ap d.stat (sym k.is) ∙ (v.rows c).stands w ((row_releases c).woken_was w k.granted), subst (λ n. In (record { job = n; ask = w.ask }) (rows_after d j c).woken) k.is k.granted)

  -- the job itself is not among the wakes
  pub self_not_woken : is_woken j (wakes_after d j) ≡ false
  self_not_woken =
      by_test (is_woken j (wakes_after d j)) (λ t. let (c, a, e, h) = woken_waited j t in absurd ((row_releases c).woken_other (record { job = j; ask = a }) h refl)) (λ f. f)

  -- a job that did not wait is not among the wakes
  pub others_not_woken : (i : ℕ) → ((c : ℕ) (a : Ask) → d.stat i ≢ waiting c a) → is_woken i (wakes_after d j) ≡ false
  others_not_woken i n =
      by_test (is_woken i (wakes_after d j)) (λ t. let (c, a, e, h) = woken_waited i t in absurd (n c a e)) (λ f. f)

  -- nor is a job that is left in a queue
  pub left_not_woken : (c : ℕ) (w : Waiter) → In w (rows_after d j c).row.queue → is_woken w.job (wakes_after d j) ≡ false
  left_not_woken c w h =
      by_test (is_woken w.job (wakes_after d j)) (λ t. let (b, a, e, g) = woken_waited w.job t in absurd (twice b a e g)) (λ f. f)
    where
      twice : (b : ℕ) (a : Ask) → d.stat w.job ≡ waiting b a → In (record { job = w.job; ask = a }) (rows_after d j b).woken → ⊥
      twice b a e g =
          let p : b ≡ c = one_cell e ((v.rows c).stands w ((row_releases c).left_was w h)) in
          let l : w.job < w.job = (row_releases c).across (record { job = w.job; ask = a }) w (subst (λ x. In (record { job = w.job; ask = a }) (rows_after d j x).woken) p g) h in
          omega arith

  -- the woken jobs run
  pub woken_after : (s : Status) (i : ℕ) → is_woken i (wakes_after d j) ≡ true → status_after d j s i ≡ running
  woken_after s = woken_runs (at d.stat j s) (wakes_after d j)

  -- the job has the status given to it
  pub self_after : (s : Status) → status_after d j s j ≡ s
  self_after s = others_stay (at d.stat j s) (wakes_after d j) j self_not_woken ∙ at_same d.stat j s

  -- every other job is as before
  pub others_after : (s : Status) (i : ℕ) → i ≢ j → is_woken i (wakes_after d j) ≡ false → status_after d j s i ≡ d.stat i
  others_after s i n f = others_stay (at d.stat j s) (wakes_after d j) i f ∙ at_other d.stat j s i n

  -- so each status afterwards is one of three: running, for a job that waited and is woken; the one given; or as before
  pub after_each : (s : Status) (P : Status → Type 0) (i : ℕ) → ((c : ℕ) (a : Ask) → i ≢ j → d.stat i ≡ waiting c a → P running) → (i ≡ j → P s) → (i ≢ j → is_woken i (wakes_after d j) ≡ false → P (d.stat i)) → P (status_after d j s i)
  after_each s P i woken self else' =
      wakened_each P (at d.stat j s) (wakes_after d j) i
      (λ t. let (c, a, e, h) = woken_waited i t in woken c a ((row_releases c).woken_other (record { job = i; ask = a }) h) e)
      (λ f. at_each P d.stat j s i self (λ n. else' n f))
