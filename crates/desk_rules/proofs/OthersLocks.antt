-- A step changes no locks but those of the job that the answer names and, for each wake, the lock on the cell that it waited for (01, rule 4).
-- Assumes nothing.
use Prim.Native.Nat.{ℕ}
use mathlib.Core.Path.{◌≡◌, refl, sym, ap, ◌∙◌}
use mathlib.Core.Logic.{◌≢◌}
use mathlib.Core.Bool.{false}
use mathlib.Core.List.{List}
use Rattle.laws.specs.Choice.{not_both}
use Rattle.conflict.specs.declared.modes.Mode.{Mode}
use Rattle.desks.specs.Request.{Request}
use Rattle.laws.specs.Functions.{at}
use Rattle.laws.specs.Standing.{In}
use Rattle.desk_rules.specs.Desk.{Waiter, Desk}
use Rattle.desks.specs.Begin.{refused}
use Rattle.desk_rules.specs.Rules.{Outcome, with_row, with_status, is_woken, rows_after, rule4}
use Rattle.desk_rules.specs.Table.{named}
use Rattle.desk_rules.specs.Moves.{Moved, refuses, begins, commits, gives_up, retries, has_it, promotes, waits_in_front, enters, waits_last, goes_back}
use Rattle.desk_rules.specs.Invariant.{Inv}
use Rattle.desk_rules.proofs.Statuses.{one_cell}
use Rattle.laws.proofs.Functions.{at_other, at_each}
use Rattle.desk_rules.proofs.RunEnd.{wakes_after, row_releases, granted_woken}
use Rattle.desk_rules.proofs.Bystanders.{not_job}

module _ (d : Desk) (j c i : ℕ) where
  -- when one job gets a mode, every other job holds on every cell what it held
  taken_others : (m : Mode) (b : ℕ) → i ≢ j → (at d.row c (record { held = at (d.row c).held j m; queue = (d.row c).queue }) b).held i ≡ (d.row b).held i
  taken_others m b n =
      at_each (λ x. x.held i ≡ (d.row b).held i) d.row c (record { held = at (d.row c).held j m; queue = (d.row c).queue }) b
      (λ e. at_other (d.row c).held j m i n ∙ ap (λ k. (d.row k).held i) (sym e)) (λ _. refl)

  -- when a queue changes, every job holds what it held
  queued_all : (q : List Waiter) (b : ℕ) → (at d.row c (record { held = (d.row c).held; queue = q }) b).held i ≡ (d.row b).held i
  queued_all q b = at_each (λ x. x.held i ≡ (d.row b).held i) d.row c (record { held = (d.row c).held; queue = q }) b (λ e. ap (λ k. (d.row k).held i) (sym e)) (λ _. refl)

module _ {d : Desk} (v : Inv d) (r : Request) (i : ℕ) (n : i ≢ named d r) (c : ℕ) where
  -- at the end of a run, another job that is not woken holds what it held
  ended : i ≢ r.job → is_woken i (wakes_after d r.job) ≡ false → (rows_after d r.job c).row.held i ≡ (d.row c).held i
  ended m g = (row_releases v r.job c).kept i m (λ w k e. not_both (ap (λ x. is_woken x (wakes_after d r.job)) (sym e) ∙ granted_woken v r.job c w k) g)

  -- in any move, a job that the answer does not name and that is not woken holds on every cell what it held
  pub moved_locks : {o : Outcome} → Moved d r o → is_woken i o.wakes ≡ false → (o.desk.row c).held i ≡ (d.row c).held i
  moved_locks (refuses why _) g = unfold refused in refl
  moved_locks (begins l m k) g = refl
  moved_locks (commits l q) g = unfold rule4 in ended (not_job d r i n l refl) g
  moved_locks (gives_up l q) g = unfold rule4 in ended (not_job d r i n l refl) g
  moved_locks (retries l q) g = unfold with_status in refl
  moved_locks (has_it b k x) g = refl
  moved_locks (promotes b k x y z) g = unfold with_row in taken_others d r.job r.cell i _ c (not_job d r i n k.letter refl)
  moved_locks (waits_in_front b k x y z w) g = unfold with_status with_row in queued_all d r.job r.cell i _ c
  moved_locks (enters b k x y z) g = unfold with_row in taken_others d r.job r.cell i _ c (not_job d r i n k.letter refl)
  moved_locks (waits_last b k x y z w) g = unfold with_status with_row in queued_all d r.job r.cell i _ c
  moved_locks (goes_back b k x) g = unfold rule4 in ended (not_job d r i n k.letter refl) g

-- a job that is granted one cell is granted no other, since it waited for that cell alone: on the others it holds what it held
pub granted_elsewhere : {d : Desk} (v : Inv d) (j b c : ℕ) (u : Waiter) → In u (rows_after d j b).woken → c ≢ b → (rows_after d j c).row.held u.job ≡ (d.row c).held u.job
granted_elsewhere {d} v j b c u k q =
    (row_releases v j c).kept u.job ((row_releases v j b).woken_other u k)
    (λ w i e. q (one_cell ((v.rows c).stands w ((row_releases v j c).woken_was w i)) (ap d.stat e ∙ (v.rows b).stands u ((row_releases v j b).woken_was u k))))
