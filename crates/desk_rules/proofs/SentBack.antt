-- A job is sent back only by its own request, answered back, and only while an older job is live.
-- Assumes nothing.
use Prim.Native.Nat.{ℕ, ◌<◌}
use mathlib.Core.Path.{◌≡◌, refl, sym, ap}
use mathlib.Core.Logic.{◌≢◌}
use mathlib.Core.Bool.{true}
use mathlib.Core.List.{List}
use native.Mathlib.Omega.{arith}
use Rattle.laws.specs.Choice.{not_both}
use Rattle.desks.specs.declared.Answer.{Answer}
use Rattle.desks.specs.declared.Answer.TheVariants.{Go, Back}
use Rattle.desks.specs.Request.{Request}
use Rattle.laws.specs.Functions.{at}
use Rattle.desks.specs.Places.{vacated}
use Rattle.desk_rules.specs.Desk.{Status, closed, running, waiting, sentback, Desk, is_live}
use Rattle.desks.specs.Begin.{refused}
use Rattle.desk_rules.specs.Rules.{Outcome, with_row, with_status, rule4}
use Rattle.desk_rules.specs.Step.{step}
use Rattle.desk_rules.specs.Asked.{Elder, holder, waiter}
use Rattle.desk_rules.specs.Moves.{Moved, refuses, begins, commits, gives_up, retries, has_it, promotes, waits_in_front, enters, waits_last, goes_back}
use Rattle.desk_rules.proofs.AnswerTells.{ask_back}
use Rattle.desk_rules.specs.Invariant.{Inv}
use Rattle.desk_rules.proofs.Statuses.{waiting_live, running_live, running_not_waiting}
use Rattle.laws.proofs.Functions.{at_each}
use Rattle.desk_rules.proofs.Tests.{not_older_holders, not_older_waiters}
use Rattle.desk_rules.proofs.RunEnd.{after_each}
use Rattle.desk_rules.proofs.KeptStatus.{no_place}

-- a job that stands in a running job's way by its age is live and older
elder_live : {d : Desk} → Inv d → (j c : ℕ) → d.stat j ≡ running → Elder d j c → (i : ℕ) × (i < j) × (is_live (d.stat i) ≡ true)
elder_live {d} v j c runs (holder h) = let (i, n, f, l) = not_older_holders d.jobs (d.row c).held j h in (i, l, (v.rows c).holds i f)
elder_live {d} v j c runs (waiter f h) =
    let (w, k, l) = not_older_waiters (d.row c).queue j h in
    let n : w.job ≢ j = no_place (v.rows c) j (λ a. running_not_waiting runs) w k in
    (w.job, omega arith, waiting_live ((v.rows c).stands w k))

-- if a step answers back, an older job is live
pub back_older : {d : Desk} → Inv d → (r : Request) (j : ℕ) → (step d r).said ≡ Back j → (i : ℕ) × (i < j) × (is_live (d.stat i) ≡ true)
back_older {d} v r j e = let c = ask_back d r j e in rw c.job (elder_live v r.job r.cell c.was.1.runs c.was.2)

-- a live job was not sent back
live_not_back : {s : Status} → is_live s ≡ true → s ≢ sentback
unfolding is_live
live_not_back h e = not_both h (rw e)

-- nor was a closed one
closed_not_back : closed ≢ sentback
closed_not_back e = let z : ◌≡◌ {A = ℕ} 0 1 = cc in omega arith

module _ {d : Desk} (v : Inv d) (j : ℕ) (live : is_live (d.stat j) ≡ true) where
  -- if a job gets a status other than sent back, no live job is sent back
  not_back_at : {P : Type 0} (i : ℕ) (s : Status) → s ≢ sentback → at d.stat i s j ≡ sentback → P
  not_back_at i s n e = absurd (at_each (λ x. x ≢ sentback) d.stat i s j (λ _. n) (λ _. live_not_back live) e)

  -- nor if a run ends with that status
  not_back_ended : {P : Type 0} (i : ℕ) (s : Status) (js : List ℕ) (said : Answer) → s ≢ sentback → (rule4 d i s js said).desk.stat j ≡ sentback → P
  unfolding rule4
  not_back_ended i s js said n e =
      absurd (after_each v i s (λ x. x ≢ sentback) j (λ _ _ _ _. live_not_back (running_live refl)) (λ _. n) (λ _ _. live_not_back live) e)

  -- a live job that a move sends back is told so
  pub moved_told : {r : Request} {o : Outcome} → Moved d r o → o.desk.stat j ≡ sentback → o.said ≡ Back j
  unfolding refused rule4 with_row with_status
  moved_told (refuses why _) e = absurd (live_not_back live e)
  moved_told (begins l n m) e = not_back_at d.next running (live_not_back (running_live refl)) e
  moved_told {r} (commits l s) e = not_back_ended r.job closed (vacated r.job d.jobs) (Go r.job) closed_not_back e
  moved_told {r} (gives_up l s) e = not_back_ended r.job closed (vacated r.job d.jobs) (Go r.job) closed_not_back e
  moved_told {r} (retries l s) e = not_back_at r.job running (live_not_back (running_live refl)) e
  moved_told (has_it a k c) e = absurd (live_not_back live e)
  moved_told (promotes a k c f z) e = absurd (live_not_back live e)
  moved_told {r} (waits_in_front a k c f z w) e = not_back_at r.job (waiting r.cell a) (live_not_back (waiting_live refl)) e
  moved_told (enters a k f z w) e = absurd (live_not_back live e)
  moved_told {r} (waits_last a k f z w x) e = not_back_at r.job (waiting r.cell a) (live_not_back (waiting_live refl)) e
  moved_told {r} (goes_back a k x) e =
      after_each v r.job sentback (λ x. x ≡ sentback → Back r.job ≡ Back j) j
      (λ _ _ _ _ p. absurd (live_not_back (running_live refl) p)) (λ p _. ap Back (sym p)) (λ _ _ p. absurd (live_not_back live p)) e
