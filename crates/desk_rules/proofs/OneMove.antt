-- The rules leave no choice: the step is the only move, whatever the desk and the request (01, The desk's rules; 01, How much a contract says).
-- Assumes nothing.
use Prim.Native.Nat.{ℕ}
use mathlib.Core.Path.{◌≡◌, refl, ◌∙◌}
use mathlib.Core.Bool.{true}
use borrow.Author.Tests.{le-ltb}
use Rattle.laws.specs.Choice.{not_both}
use Rattle.terms.specs.declared.letters.Ask.{Ask}
use Rattle.terms.specs.Limits.{last_number}
use Rattle.conflict.proofs.ModeLaws.{covers_free}
use Rattle.desks.specs.Request.{Request}
use Rattle.desks.specs.Begin.{beginning}
use Rattle.desk_rules.specs.Desk.{Status, closed, running, waiting, sentback, Desk, is_open}
use Rattle.desk_rules.specs.Rules.{Outcome, close, send_back, grant, queued, rule1, rule2, rule3, ask, retry, begin}
use Rattle.desk_rules.specs.Step.{step_commit, step_give_up, step_retry, step_begin, step_by, step}
use Rattle.desk_rules.specs.Asked.{Asking, own_mode}
use Rattle.desk_rules.specs.Moves.{no_promotion, no_entry, Moved, refuses, begins, commits, gives_up, retries, has_it, promotes, waits_in_front, enters, waits_last, goes_back}
use Rattle.desk_rules.proofs.Granting.{asking_step}
use Rattle.desk_rules.proofs.Refusing.{due_refused}

-- the give-up of an open job closes it
gives_up_closes : (d : Desk) (j : ℕ) (s : Status) → is_open s ≡ true → step_give_up d j s ≡ close d j
unfolding step_give_up is_open
gives_up_closes d j closed e = not_both e refl
gives_up_closes d j running e = refl
gives_up_closes d j (waiting c a) e = refl
gives_up_closes d j sentback e = refl

module _ {d : Desk} {r : Request} where
  -- for a running job that asks, every move that its tests allow is what rules 1 to 3 decide
  asked_only : {o : Outcome} → (a : Ask) → Asking d r a → ask d r.job r.cell a ≡ o → step d r ≡ o
  asked_only a k e = asking_step d r a k ∙ e

  -- THERE IS ONE MOVE: every move that the rules allow is the step
  pub moved_only : {o : Outcome} → Moved d r o → step d r ≡ o
  moved_only (refuses why x) = due_refused d r why x
  moved_only (begins l n m) = unfold step step_by step_begin beginning begin in rw (l, le-ltb last_number d.next n, m)
  moved_only (commits l s) = unfold step step_by step_commit close in rw (l, s)
  moved_only (gives_up l s) = unfold step step_by in rw l (gives_up_closes d r.job (d.stat r.job) s ∙ unfold close in refl)
  moved_only (retries l s) = unfold step step_by step_retry retry in rw (l, s)
  moved_only (has_it a k x) = asked_only a k (unfold ask rule1 in rw x)
  moved_only (promotes a k x f z) = asked_only a k (unfold ask rule2 grant in rw (x, f, z))
  moved_only (waits_in_front a k x f z w) = asked_only a k (unfold ask rule2 queued in rw (x, f, z, w))
  moved_only (enters a k f z w) = asked_only a k (unfold ask rule3 grant in rw (covers_free (own_mode d r) a f, f, z, w))
  moved_only (waits_last a k f z w u) = asked_only a k (unfold ask rule3 queued in rw (covers_free (own_mode d r) a f, f, z, w, u))
  moved_only (goes_back a k (no_promotion x f z w)) = asked_only a k (unfold ask rule2 send_back in rw (x, f, z, w))
  moved_only (goes_back a k (no_entry f z w)) = asked_only a k (unfold ask rule3 send_back in rw (covers_free (own_mode d r) a f, f, z, w))
