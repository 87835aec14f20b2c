-- One row after a run has ended: the job drops its lock and its place in the queue, and the row is settled. Everything is told in terms of the row as it was before.
-- Assumes nothing.
use Prim.Native.Nat.{ℕ, ◌<◌}
use mathlib.Core.Path.{◌≡◌, sym, ap, subst, ◌∙◌}
use mathlib.Core.Logic.{◌≢◌}
use mathlib.Core.Bool.{true, false}
use mathlib.Core.List.{List}
use native.Mathlib.Omega.{arith}
use Rattle.laws.specs.Choice.{not_both}
use Rattle.conflict.specs.declared.modes.Mode.{Mode}
use Rattle.conflict.specs.declared.modes.Mode.TheVariants.{Free}
use Rattle.conflict.specs.Modes.{needed, covers, beside, grants, is_free}
use Rattle.laws.specs.Lists.{member}
use Rattle.conflict.proofs.ModeLaws.{free_beside, beside_free, free_is_free}
use Rattle.laws.specs.Functions.{at}
use Rattle.laws.specs.Standing.{In}
use Rattle.desk_rules.specs.Desk.{Waiter, Row}
use Rattle.desk_rules.specs.Locks.{without, wants, Settled, settle, released}
use Rattle.desk_rules.specs.Releasing.{Releases}
use Rattle.desk_rules.specs.Invariant.{Falling}
use Rattle.laws.proofs.Standing.{in_left, in_right, in_either}
use Rattle.desk_rules.proofs.Queue.{falling_across, without_in, without_other, in_without, without_falling, by_place}
use Rattle.desk_rules.proofs.AheadLaws.{ahead_in, ahead_of_lem}
use Rattle.laws.proofs.Functions.{at_same, at_other, at_each}
use Rattle.desk_rules.proofs.Settle.{Ready, Settles, settle_settles, wants_same, wants_covers}

module _ (js : List ℕ) (j : ℕ) (held : ℕ → Mode) (q : List Waiter) where
  -- a job that drops its lock and its place leaves a row that can be settled
  dropped_ready : Ready js held q → Ready js (at held j Free) (without j q)
  dropped_ready r = record {
    seats = λ i. at_each (λ x. is_free x ≡ false → member i js ≡ true) held j Free i (λ _ f. not_both free_is_free f) (λ _. r.seats i);
    waits = λ w h. r.waits w (without_in j q h);
    pairs = λ i k n. at_each (λ x. beside x (at held j Free k) ≡ true) held j Free i (λ _. free_beside (at held j Free k))
        (λ _. at_each (λ x. beside (held i) x ≡ true) held j Free k (λ _. beside_free (held i)) (λ _. r.pairs i k n));
    elder = λ w i h n. at_each (λ x. is_free x ≡ false → w.job < i) held j Free i (λ _ f. not_both free_is_free f) (λ _. r.elder w i (without_in j q h) n);
    down = without_falling j q r.down;
  }

  -- what holds for the settled row, told in terms of the row before
  settled_releases : Ready js held q → (s : Settled) → Settles js (at held j Free) (without j q) s → Releases js j (record { held = held; queue = q }) s
  settled_releases r s t = record {
    dropped = t.kept j (λ w h. woken_other w h) ∙ at_same held j Free;
    parted = t.parted;
    kept = λ i n k. t.kept i k ∙ at_other held j Free i n;
    takes = λ w h. t.takes w h ∙ wanted w h;
    fits = λ w h i n m k. subst (λ x. grants x (wants held w) ≡ true) (at_other held j Free i m) (rw (wanted w h) at (t.fits w h i n k));
    in_turn = λ u w b. rw (← wanted u (ahead_in b), ← wanted w (ahead_of_lem b)) (t.in_turn u w b);
    grown = λ i n. subst (λ m. covers (s.row.held i) m ≡ true) (at_other held j Free i n) (t.grown i);
    woken_was = λ w h. without_in j q (woken w h);
    woken_other = woken_other;
    left_was = λ w h. without_in j q (left w h);
    left_other = λ w h. without_other j q (left w h);
    across = falling_across s.woken s.row.queue (subst Falling t.parted (without_falling j q r.down));
    seats = t.seats;
    pairs = t.pairs;
    elder = t.elder;
    down = t.down;
    blocked = t.blocked;
  }
    where
      woken : (w : Waiter) → In w s.woken → In w (without j q)
      woken w h = subst (In w) (sym t.parted) (in_left s.row.queue h)

      left : (w : Waiter) → In w s.row.queue → In w (without j q)
      left w h = subst (In w) (sym t.parted) (in_right s.woken h)

      wanted : (w : Waiter) → In w s.woken → wants (at held j Free) w ≡ wants held w
      wanted w h = wants_same (at held j Free) held w (at_other held j Free w.job (without_other j q (woken w h)))

      woken_other : (w : Waiter) → In w s.woken → w.job ≢ j
      woken_other w h = without_other j q (woken w h)

-- a row after a run has ended
pub released_releases : (js : List ℕ) (j : ℕ) (r : Row) → Ready js r.held r.queue → Releases js j r (released js j r)
unfolding released
released_releases js j r h =
    settled_releases js j r.held r.queue h (settle js (at r.held j Free) (without j r.queue))
    (settle_settles js (at r.held j Free) (without j r.queue) (dropped_ready js j r.held r.queue h))

module _ {js : List ℕ} {j : ℕ} {r : Row} {s : Settled} (t : Releases js j r s) where
  -- another job that waited is woken or left
  pub woken_or_left : {P : Type 0} (w : Waiter) → In w r.queue → w.job ≢ j → (In w s.woken → P) → (In w s.row.queue → P) → P
  woken_or_left w h n = in_either s.woken s.row.queue (subst (In w) t.parted (in_without j h n))

  -- a holder of the cell is another job, and held it before or is woken
  pub holder_was : {P : Type 0} (i : ℕ) → is_free (s.row.held i) ≡ false → (i ≢ j → is_free (r.held i) ≡ false → P) → ((w : Waiter) → In w s.woken → w.job ≡ i → P) → P
  holder_was i f g h =
      by_place i s.woken h
      (λ n. let d : i ≢ j = λ e. not_both (ap is_free (ap s.row.held e ∙ t.dropped) ∙ free_is_free) f in g d (sym (ap is_free (t.kept i d n)) ∙ f))

  -- a woken job holds a mode that covers its need
  pub woken_covers : (w : Waiter) → In w s.woken → covers (s.row.held w.job) (needed w.ask) ≡ true
  woken_covers w h = rw (t.takes w h) (wants_covers r.held w)

  -- a waiter that is left holds what it held
  pub left_kept : (w : Waiter) → In w s.row.queue → s.row.held w.job ≡ r.held w.job
  left_kept w h = t.kept w.job (t.left_other w h) (λ v k e. let l : w.job < v.job = t.across v w k h in omega arith)
