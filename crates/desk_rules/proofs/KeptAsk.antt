-- Asking for a cell keeps the invariant of started desks: going and waiting, by rule 2 and by rule 3.
-- Assumes nothing.
use Prim.Native.Nat.{ℕ, ◌<◌}
use mathlib.Core.Path.{◌≡◌, refl, sym, subst}
use mathlib.Core.Logic.{◌≢◌}
use mathlib.Core.Bool.{Bool, true, false, ◌&&◌}
use mathlib.Core.List.{List, [], ◌∷◌, ◌++◌}
use Rattle.terms.specs.declared.letters.Ask.{Ask}
use Rattle.terms.specs.Limits.{cells}
use Rattle.conflict.specs.declared.modes.Mode.{Mode}
use Rattle.conflict.specs.Modes.{needed, covers, grants, asked, is_free}
use Rattle.conflict.proofs.ModeLaws.{covers_none, covers_free, asked_free, asked_grows}
use Rattle.laws.specs.Standing.{In}
use Rattle.desk_rules.specs.Desk.{running, Waiter, Desk}
use Rattle.desk_rules.specs.Locks.{is_empty, agrees, older_than_holders, older_than_waiters, wants}
use Rattle.desk_rules.specs.Rules.{grant, queued}
use Rattle.desk_rules.specs.Releasing.{Seated}
use Rattle.desk_rules.specs.Invariant.{FirstBlocked, Inv}
use Rattle.desk_rules.proofs.Statuses.{running_not_waiting}
use Rattle.laws.proofs.Standing.{in_none, in_split}
use Rattle.desk_rules.proofs.Queue.{falling_join}
use Rattle.desk_rules.proofs.Tests.{agrees_each, agrees_not, older_holders, older_waiters, empty_queue}
use Rattle.desk_rules.proofs.RunEnd.{row_ready}
use Rattle.desk_rules.proofs.KeptStatus.{no_place}
use Rattle.desk_rules.proofs.KeptGrant.{grant_inv}
use Rattle.desk_rules.proofs.KeptQueue.{joins_front, joins_last, queued_inv}

-- when a waiter joins at the end, the queue's first waiter is blocked if it was before, or if the queue was empty and the new waiter is blocked
last_blocked : (held : ℕ → Mode) (w : Waiter) (q : List Waiter) → FirstBlocked held q → (q ≡ [] → FirstBlocked held (w ∷ [])) → FirstBlocked held (q ++ w ∷ [])
last_blocked held w [] b f = f refl
last_blocked held w (v ∷ q) b f = b

-- if a queue is empty and a test that also asks for this fails, the rest of the test fails
empty_not : (q : List Waiter) (b : Bool) → q ≡ [] → (is_empty q && b) ≡ false → b ≡ false
unfolding is_empty
empty_not q b e h = rw e at h

module _ {d : Desk} (v : Inv d) (j c : ℕ) (a : Ask) (runs : d.stat j ≡ running) where
  -- every holder of the cell is among the open jobs
  holders_seated : Seated d.jobs (d.row c).held
  holders_seated = (row_ready v c).seats

  -- the job is not in the queue
  asker_no_place : (w : Waiter) → In w (d.row c).queue → w.job ≢ j
  asker_no_place = no_place (v.rows c) j (λ a. running_not_waiting runs)

  -- if it holds the cell, every waiter is older
  waiters_older : is_free ((d.row c).held j) ≡ false → (w : Waiter) → In w (d.row c).queue → w.job < j
  waiters_older f w h = (v.rows c).elder w j h (λ e. asker_no_place w h (sym e)) f

  -- rule 2, the new mode agrees with the other holders: go
  pub promotes_inv : is_free ((d.row c).held j) ≡ false → agrees d.jobs (d.row c).held j (asked ((d.row c).held j) (needed a)) ≡ true → Inv (grant d j c (asked ((d.row c).held j) (needed a))).desk
  promotes_inv f o =
      grant_inv v j c (asked ((d.row c).held j) (needed a)) runs (asked_grows ((d.row c).held j) (needed a))
      (agrees_each d.jobs (d.row c).held j (asked ((d.row c).held j) (needed a)) holders_seated o)
      (waiters_older f)

  -- rule 2, older than every other holder: it waits in front
  pub waits_in_front_inv : c < cells → covers ((d.row c).held j) (needed a) ≡ false → is_free ((d.row c).held j) ≡ false → agrees d.jobs (d.row c).held j (asked ((d.row c).held j) (needed a)) ≡ false → older_than_holders d.jobs (d.row c).held j ≡ true → Inv (queued d j c a (record { job = j; ask = a } ∷ (d.row c).queue)).desk
  waits_in_front_inv l x f o h =
      queued_inv v j c a (record { job = j; ask = a } ∷ (d.row c).queue) (joins_front (d.row c).queue (record { job = j; ask = a })) runs l
      (older_holders d.jobs (d.row c).held j holders_seated h) (waiters_older f, (v.rows c).down) (unfold wants in agrees_not d.jobs (d.row c).held j (asked ((d.row c).held j) (needed a)) o) x

  -- rule 3, the queue is empty and the mode agrees: go
  pub enters_inv : is_free ((d.row c).held j) ≡ true → is_empty (d.row c).queue ≡ true → agrees d.jobs (d.row c).held j (needed a) ≡ true → Inv (grant d j c (needed a)).desk
  enters_inv f e g =
      grant_inv v j c (needed a) runs (covers_none (needed a) ((d.row c).held j) f)
      (agrees_each d.jobs (d.row c).held j (needed a) holders_seated g) (λ w h. in_none (subst (In w) (empty_queue (d.row c).queue e) h))

  -- rule 3, older than every holder and every waiter: it waits last
  pub waits_last_inv : c < cells → is_free ((d.row c).held j) ≡ true → (is_empty (d.row c).queue && agrees d.jobs (d.row c).held j (needed a)) ≡ false → older_than_holders d.jobs (d.row c).held j ≡ true → older_than_waiters (d.row c).queue j ≡ true → Inv (queued d j c a ((d.row c).queue ++ record { job = j; ask = a } ∷ [])).desk
  waits_last_inv l f n h o =
      queued_inv v j c a ((d.row c).queue ++ record { job = j; ask = a } ∷ []) (joins_last (d.row c).queue (record { job = j; ask = a })) runs l
      (older_holders d.jobs (d.row c).held j holders_seated h)
      (falling_join (d.row c).queue (record { job = j; ask = a } ∷ []) (v.rows c).down (λ _ g. in_none g, tt)
      (λ u w g k. in_split k (λ e. subst (λ x. x.job < u.job) (sym e) (older_waiters (d.row c).queue j o u g)) in_none))
      (last_blocked (d.row c).held (record { job = j; ask = a }) (d.row c).queue (v.rows c).blocked in_way)
      (covers_free ((d.row c).held j) a f)
    where
      in_way : (d.row c).queue ≡ [] → FirstBlocked (d.row c).held (record { job = j; ask = a } ∷ [])
      in_way e = told (agrees_not d.jobs (d.row c).held j (needed a) (empty_not (d.row c).queue (agrees d.jobs (d.row c).held j (needed a)) e n))
        where
          told : (i : ℕ) × (i ≢ j) × (grants ((d.row c).held i) (needed a) ≡ false) → FirstBlocked (d.row c).held (record { job = j; ask = a } ∷ [])
          told (i, m, g) = (i, m, unfold wants in subst (λ x. grants ((d.row c).held i) x ≡ false) (sym (asked_free ((d.row c).held j) (needed a) f)) g)
