-- One step beside a job that holds U or X: no other job gets a lock on that cell. When a job gets its U, every older holder of the cell held it before (02, No. 1).
-- Assumes nothing.
use Prim.Native.Nat.{ℕ, ◌<◌}
use mathlib.Core.Path.{◌≡◌, refl, sym, ap, subst, ◌∙◌}
use mathlib.Core.Logic.{◌≢◌}
use mathlib.Core.Bool.{true, false}
use mathlib.Core.List.{List}
use native.Mathlib.Omega.{arith}
use Rattle.laws.specs.Choice.{not_both}
use Rattle.conflict.specs.declared.modes.Mode.{Mode}
use Rattle.conflict.specs.declared.modes.Mode.TheVariants.{U}
use Rattle.conflict.specs.Modes.{needed, shuts_out, is_free}
use Rattle.conflict.proofs.ModeLaws.{free_is_free}
use Rattle.conflict.proofs.Shutting.{u_shuts, shut_free, shut_held, shut_promoted}
use Rattle.desks.specs.Request.{Request}
use Rattle.laws.specs.Functions.{at}
use Rattle.laws.specs.Standing.{In}
use Rattle.desk_rules.specs.Desk.{Waiter, Desk}
use Rattle.desk_rules.specs.Locks.{agrees, wants}
use Rattle.desks.specs.Begin.{refused}
use Rattle.desk_rules.specs.Rules.{Outcome, with_row, with_status, rows_after, rule4}
use Rattle.desk_rules.specs.Asked.{held_there, queue_there}
use Rattle.desk_rules.specs.Moves.{Moved, refuses, begins, commits, gives_up, retries, has_it, promotes, waits_in_front, enters, waits_last, goes_back}
use Rattle.desk_rules.specs.Invariant.{Falling, Inv}
use Rattle.desk_rules.proofs.Queue.{by_place, falling_left, without_falling}
use Rattle.desk_rules.proofs.AheadLaws.{younger_ahead}
use Rattle.laws.proofs.Functions.{at_other, at_each}
use Rattle.desk_rules.proofs.Tests.{agrees_each}
use Rattle.desk_rules.proofs.RunEnd.{row_ready, row_releases}

module _ {d : Desk} (v : Inv d) (x c : ℕ) where
  -- what a job holds on the cell once the run of job x has ended
  abbrev after : ℕ → Mode
  after = (rows_after d x c).row.held

  -- a job that still holds something is not the one whose run ended
  not_ended : (i : ℕ) → is_free (after i) ≡ false → i ≢ x
  not_ended i f e = not_both (rw (e, (row_releases v x c).dropped) free_is_free) f

  -- no job is granted the cell beside a job that shuts others out before and after
  none_granted : (w : Waiter) → In w (rows_after d x c).woken → (j : ℕ) → j ≢ w.job → shuts_out ((d.row c).held j) ≡ true → shuts_out (after j) ≡ true → is_free (after w.job) ≡ true
  none_granted w k j n h g =
      let t = row_releases v x c in
      by_place j (rows_after d x c).woken
      (λ u l e. shut_promoted ((d.row c).held u.job) (needed u.ask) (after w.job) (rw e h) ((v.rows c).lacks u (t.woken_was u l))
      (unfold wants in rw (← t.takes u l) (t.pairs w.job u.job (λ p. n (sym (p ∙ e))))))
      (λ none. rw (t.takes w k) (shut_free ((d.row c).held j) (wants (d.row c).held w) h (t.fits w k j n (not_ended j (shut_held (after j) g)) none)))

  -- so every other holder of the cell then held it before, in the same mode
  ended_beside : (i j : ℕ) → i ≢ j → shuts_out ((d.row c).held j) ≡ true → shuts_out (after j) ≡ true → is_free (after i) ≡ false → after i ≡ (d.row c).held i
  ended_beside i j n h g f =
      by_place i (rows_after d x c).woken
      (λ w k e. not_both (subst (λ y. is_free (after y) ≡ true) e (none_granted w k j (λ p. n (sym (p ∙ e))) h g)) f)
      (λ none. (row_releases v x c).kept i (not_ended i f) none)

  -- a waiter that is granted U is granted it ahead of every older waiter, and that one is then not granted
  older_not_granted : (u w : Waiter) → In u (rows_after d x c).woken → In w (rows_after d x c).woken → w.job < u.job → after u.job ≡ U → is_free (after w.job) ≡ true
  older_not_granted u w k l o e =
      let t = row_releases v x c in
      let down = falling_left (rows_after d x c).woken (rows_after d x c).row.queue (subst Falling t.parted (without_falling x (d.row c).queue (v.rows c).down)) in
      rw (t.takes w l) (shut_free (wants (d.row c).held u) (wants (d.row c).held w) (u_shuts _ (sym (t.takes u k) ∙ e))
      (t.in_turn u w (younger_ahead u w (rows_after d x c).woken down k l o)))

  -- so when a job gets its U, every older holder of the cell then held it before
  ended_got : (i j : ℕ) → i < j → shuts_out ((d.row c).held j) ≡ false → after j ≡ U → is_free (after i) ≡ false → after i ≡ (d.row c).held i
  ended_got i j o h e f =
      let t = row_releases v x c in
      by_place j (rows_after d x c).woken
      (λ u k p. by_place i (rows_after d x c).woken
      (λ w l q. not_both (subst (λ y. is_free (after y) ≡ true) q (older_not_granted u w k l (omega (arith, o, p, q)) (rw p e))) f)
      (λ none. t.kept i (not_ended i f) none))
      (λ none. not_both (u_shuts _ e) (rw (t.kept j (not_ended j (shut_held (after j) (u_shuts _ e))) none) h))

module _ {d : Desk} (v : Inv d) (r : Request) (c i j : ℕ) where
  -- a cell whose holders stay
  same_held : (q : List Waiter) → (at d.row r.cell (record { held = held_there d r; queue = q }) c).held i ≡ (d.row c).held i
  same_held q = at_each (λ x. x.held i ≡ (d.row c).held i) d.row r.cell (record { held = held_there d r; queue = q }) c (λ e. ap (λ b. (d.row b).held i) (sym e)) (λ _. refl)

  -- the request's job takes a mode that agrees with the other holders
  taken_beside : (m : Mode) → agrees d.jobs (held_there d r) r.job m ≡ true → i ≢ j → shuts_out ((d.row c).held j) ≡ true →
      let row = at d.row r.cell (record { held = at (held_there d r) r.job m; queue = queue_there d r }) c in
      is_free (row.held i) ≡ false → row.held i ≡ (d.row c).held i
  taken_beside m a n h =
      at_each (λ x. is_free (x.held i) ≡ false → x.held i ≡ (d.row c).held i) d.row r.cell (record { held = at (held_there d r) r.job m; queue = queue_there d r }) c
      (λ e. at_each (λ y. is_free y ≡ false → y ≡ (d.row c).held i) (held_there d r) r.job m i
      (λ p f. not_both (shut_free (held_there d r j) m (rw (← e) h) (agrees_each d.jobs (held_there d r) r.job m (row_ready v r.cell).seats a j (λ q. n (p ∙ sym q)))) f)
      (λ _ _. ap (λ b. (d.row b).held i) (sym e)))
      (λ _ _. refl)

  -- when a job gets its U this way, every other job holds what it held
  taken_got : (m : Mode) → i ≢ j → shuts_out ((d.row c).held j) ≡ false →
      let row = at d.row r.cell (record { held = at (held_there d r) r.job m; queue = queue_there d r }) c in
      row.held j ≡ U → row.held i ≡ (d.row c).held i
  taken_got m n h =
      at_each (λ x. x.held j ≡ U → x.held i ≡ (d.row c).held i) d.row r.cell (record { held = at (held_there d r) r.job m; queue = queue_there d r }) c
      (λ e g. at_each (λ y. y ≡ (d.row c).held i) (held_there d r) r.job m i
      (λ p. not_both (u_shuts ((d.row c).held j) (ap (λ b. (d.row b).held j) e ∙ sym (at_other (held_there d r) r.job m j (λ q. n (p ∙ sym q))) ∙ g)) h)
      (λ _. ap (λ b. (d.row b).held i) (sym e)))
      (λ _ _. refl)

  -- in every move, if a job shuts others out before and after, every other holder of the cell held it before, in the same mode
  pub moved_beside : {o : Outcome} → Moved d r o → i ≢ j → shuts_out ((d.row c).held j) ≡ true → shuts_out ((o.desk.row c).held j) ≡ true → is_free ((o.desk.row c).held i) ≡ false → (o.desk.row c).held i ≡ (d.row c).held i
  unfolding refused with_row with_status rule4
  moved_beside (refuses why _) n h g f = refl
  moved_beside (begins l e m) n h g f = refl
  moved_beside (commits l q) n h g f = ended_beside v r.job c i j n h g f
  moved_beside (gives_up l q) n h g f = ended_beside v r.job c i j n h g f
  moved_beside (retries l q) n h g f = refl
  moved_beside (has_it b k x) n h g f = refl
  moved_beside (promotes b k x e z) n h g f = taken_beside _ z n h f
  moved_beside (waits_in_front b k x e z w) n h g f = same_held _
  moved_beside (enters b k e z w) n h g f = taken_beside _ w n h f
  moved_beside (waits_last b k e z w u) n h g f = same_held _
  moved_beside (goes_back b k x) n h g f = ended_beside v r.job c i j n h g f

  -- and when a job gets its U, every older holder of the cell then held it before
  pub moved_got : {o : Outcome} → Moved d r o → i < j → shuts_out ((d.row c).held j) ≡ false → (o.desk.row c).held j ≡ U → is_free ((o.desk.row c).held i) ≡ false → (o.desk.row c).held i ≡ (d.row c).held i
  unfolding refused with_row with_status rule4
  moved_got (refuses why _) l h g f = refl
  moved_got (begins e m q) l h g f = refl
  moved_got (commits e q) l h g f = ended_got v r.job c i j l h g f
  moved_got (gives_up e q) l h g f = ended_got v r.job c i j l h g f
  moved_got (retries e q) l h g f = refl
  moved_got (has_it b k x) l h g f = refl
  moved_got (promotes b k x e z) l h g f = taken_got _ (λ q. omega (arith, l, q)) h g
  moved_got (waits_in_front b k x e z w) l h g f = same_held _
  moved_got (enters b k e z w) l h g f = taken_got _ (λ q. omega (arith, l, q)) h g
  moved_got (waits_last b k e z w u) l h g f = same_held _
  moved_got (goes_back b k x) l h g f = ended_got v r.job c i j l h g f
