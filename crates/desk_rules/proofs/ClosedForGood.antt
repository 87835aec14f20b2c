-- A job that is closed stays closed: its number is never given again (01, Jobs and their numbers).
-- Assumes nothing.
use Prim.Native.Nat.{ℕ, ◌<◌}
use mathlib.Core.Path.{◌≡◌, ap, ◌∙◌}
use mathlib.Core.Logic.{◌≢◌}
use mathlib.Core.Bool.{true}
use mathlib.Core.List.{List, [], ◌∷◌}
use native.Mathlib.Omega.{arith}
use Rattle.laws.specs.Choice.{not_both}
use Rattle.desks.specs.declared.Answer.{Answer}
use Rattle.desks.specs.declared.Answer.TheVariants.{Go, Back}
use Rattle.desks.specs.Request.{Request}
use Rattle.laws.specs.Functions.{at}
use Rattle.desks.specs.Places.{vacated}
use Rattle.desk_rules.specs.Desk.{Status, closed, running, waiting, sentback, is_open, Desk}
use Rattle.desks.specs.Begin.{refused}
use Rattle.desk_rules.specs.Rules.{Outcome, with_row, with_status, rule4}
use Rattle.desk_rules.specs.Step.{step}
use Rattle.desk_rules.specs.Requests.{desk_after}
use Rattle.desk_rules.specs.Moves.{Moved}
use Rattle.desk_rules.specs.Moves.Moved.{refuses, begins, commits, gives_up, retries, has_it, promotes, waits_in_front, enters, waits_last, goes_back}
use Rattle.desk_rules.proofs.Moved.{step_moved}
use Rattle.desk_rules.specs.Invariant.{Inv}
use Rattle.desk_rules.proofs.Statuses.{running_open, sentback_open, closed_not_open, not_open_not_waiting}
use Rattle.laws.proofs.Functions.{at_other}
use Rattle.desk_rules.proofs.RunEnd.{others_not_woken, others_after}
use Rattle.desk_rules.proofs.Kept.{step_inv}
use Rattle.desk_rules.proofs.Numbers.{next_rises}

module _ {d : Desk} (v : Inv d) (j : ℕ) (e : d.stat j ≡ closed) where
  -- a closed job is not an open one
  other_job : (i : ℕ) → is_open (d.stat i) ≡ true → j ≢ i
  other_job i o q = not_both (ap (λ k. is_open (d.stat k)) q ∙ o) (closed_not_open e)

  -- if an open job's status changes, a closed job stays closed
  stays_at : (i : ℕ) (s : Status) → is_open (d.stat i) ≡ true → at d.stat i s j ≡ closed
  stays_at i s o = at_other d.stat i s j (other_job i o) ∙ e

  -- and also if a run ends
  stays_ended : (i : ℕ) (s : Status) (js : List ℕ) (said : Answer) → is_open (d.stat i) ≡ true → (rule4 d i s js said).desk.stat j ≡ closed
  unfolding rule4
  stays_ended i s js said o =
      others_after v i s j (other_job i o) (others_not_woken v i j (λ c a. not_open_not_waiting (closed_not_open e))) ∙ e

  -- every move leaves it closed, since its number was given
  moved_closed : {r : Request} {o : Outcome} → j < d.next → Moved d r o → o.desk.stat j ≡ closed
  unfolding refused with_row with_status
  moved_closed l (refuses why _) = e
  moved_closed l (begins b n m) = at_other d.stat d.next running j (below l) ∙ e
    where
      below : {i k : ℕ} → i < k → i ≢ k
      below h = omega arith
  moved_closed {r} l (commits b s) = stays_ended r.job closed (vacated r.job d.jobs) (Go r.job) (running_open s)
  moved_closed {r} l (gives_up b s) = stays_ended r.job closed (vacated r.job d.jobs) (Go r.job) s
  moved_closed {r} l (retries b s) = stays_at r.job running (sentback_open s)
  moved_closed l (has_it a k c) = e
  moved_closed l (promotes a k c f h) = e
  moved_closed {r} l (waits_in_front a k c f h o) = stays_at r.job (waiting r.cell a) (running_open k.runs)
  moved_closed l (enters a k f q g) = e
  moved_closed {r} l (waits_last a k f q h w) = stays_at r.job (waiting r.cell a) (running_open k.runs)
  moved_closed {r} l (goes_back a k q) = stays_ended r.job sentback d.jobs (Back r.job) (running_open k.runs)

-- a closed job whose number was given stays closed
pub closed_stays : {d : Desk} → Inv d → (r : Request) (j : ℕ) → j < d.next → d.stat j ≡ closed → (step d r).desk.stat j ≡ closed
closed_stays {d} v r j l e = moved_closed v j e l (step_moved d r)

-- through any requests
pub closed_through : {d : Desk} → Inv d → (rs : List Request) (j : ℕ) → j < d.next → d.stat j ≡ closed → (desk_after d rs).stat j ≡ closed
closed_through v [] j l e = e
closed_through {d} v (r ∷ rs) j l e = closed_through {d = (step d r).desk} (step_inv v r) rs j (omega (arith, next_rises d r)) (closed_stays v r j l e)
