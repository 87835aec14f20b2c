-- Settling one row: the woken stood ahead of those left, locks only grow, a woken job holds what it wanted, and the invariant of rows holds again. By one induction on the queue.
-- Assumes nothing.
use Prim.Native.Nat.{ℕ, ◌<◌}
use mathlib.Core.Path.{◌≡◌, refl, sym, ap, subst, ◌∙◌}
use mathlib.Core.Logic.{◌≢◌}
use mathlib.Core.Bool.{true, false}
use mathlib.Core.List.{List, [], ◌∷◌, ◌++◌}
use native.Mathlib.Omega.{arith}
use Rattle.laws.specs.Choice.{by_test}
use Rattle.conflict.specs.declared.modes.Mode.{Mode}
use Rattle.conflict.specs.Modes.{needed, covers, beside, grants, asked, is_free}
use Rattle.laws.specs.Lists.{member}
use Rattle.conflict.proofs.ModeLaws.{beside_sym, grants_beside, covers_refl, covers_trans, asked_grows, asked_covers}
use Rattle.laws.specs.Functions.{at}
use Rattle.laws.specs.Standing.{In, first, later}
use Rattle.desk_rules.specs.Desk.{Waiter}
use Rattle.desk_rules.specs.Locks.{agrees, wants, woken_first, Settled, settle}
use Rattle.desk_rules.specs.Releasing.{Seated}
use Rattle.desk_rules.specs.Waiting.{Ahead}
use Rattle.desk_rules.specs.Invariant.{Falling, FirstBlocked}
use Rattle.laws.proofs.Standing.{in_none, in_split, in_left}
use Rattle.desk_rules.proofs.AheadLaws.{ahead_none, ahead_split, ahead_in, ahead_of_lem}
use Rattle.laws.proofs.Functions.{at_same, at_other, at_each}
use Rattle.desk_rules.proofs.Tests.{agrees_each, agrees_not}

-- a row that can be settled: its holders and waiters are listed, and it keeps the invariant except for the blocker
pub record Ready (js : List ℕ) (held : ℕ → Mode) (q : List Waiter) : Type 0 where
  pub seats : Seated js held
  pub waits : (w : Waiter) → In w q → member w.job js ≡ true
  pub pairs : (i j : ℕ) → i ≢ j → beside (held i) (held j) ≡ true
  pub elder : (w : Waiter) (i : ℕ) → In w q → i ≢ w.job → is_free (held i) ≡ false → w.job < i
  pub down : Falling q

-- a row that was settled
pub record Settles (js : List ℕ) (held : ℕ → Mode) (q : List Waiter) (s : Settled) : Type 0 where
  -- the woken stood ahead of those left
  pub parted : q ≡ s.woken ++ s.row.queue
  -- a job that is not woken holds what it held
  pub kept : (i : ℕ) → ((w : Waiter) → In w s.woken → w.job ≢ i) → s.row.held i ≡ held i
  -- a woken job holds what it wanted
  pub takes : (w : Waiter) → In w s.woken → s.row.held w.job ≡ wants held w
  -- a woken job's mode was granted beside every other job that was not woken, and beside those woken ahead of it
  pub fits : (w : Waiter) → In w s.woken → (i : ℕ) → i ≢ w.job → ((v : Waiter) → In v s.woken → v.job ≢ i) → grants (held i) (wants held w) ≡ true
  pub in_turn : (v w : Waiter) → Ahead v w s.woken → grants (wants held v) (wants held w) ≡ true
  -- locks only grow
  pub grown : (i : ℕ) → covers (s.row.held i) (held i) ≡ true
  -- holders are listed, may hold together and are younger than the waiters left; the queue falls; and the first waiter left is blocked
  pub seats : Seated js s.row.held
  pub pairs : (i j : ℕ) → i ≢ j → beside (s.row.held i) (s.row.held j) ≡ true
  pub elder : (w : Waiter) (i : ℕ) → In w s.row.queue → i ≢ w.job → is_free (s.row.held i) ≡ false → w.job < i
  pub down : Falling s.row.queue
  pub blocked : FirstBlocked s.row.held s.row.queue

-- the mode that a waiter wants covers what it needs
pub wants_covers : (held : ℕ → Mode) (w : Waiter) → covers (wants held w) (needed w.ask) ≡ true
unfolding wants
wants_covers held w = asked_covers (held w.job) (needed w.ask)

-- and what it holds
pub wants_grows : (held : ℕ → Mode) (w : Waiter) → covers (wants held w) (held w.job) ≡ true
unfolding wants
wants_grows held w = asked_grows (held w.job) (needed w.ask)

-- what a waiter wants depends only on what it holds
pub wants_same : (f g : ℕ → Mode) (w : Waiter) → f w.job ≡ g w.job → wants f w ≡ wants g w
unfolding wants
wants_same f g w e = ap (λ m. asked m (needed w.ask)) e

-- if a job takes a mode granted beside every other job, the locks may still be held together
pub taking_pairs : (held : ℕ → Mode) (j : ℕ) (m : Mode) → ((i : ℕ) → i ≢ j → grants (held i) m ≡ true) → ((i k : ℕ) → i ≢ k → beside (held i) (held k) ≡ true) → (i k : ℕ) → i ≢ k → beside (at held j m i) (at held j m k) ≡ true
taking_pairs held j m g p i k n =
    at_each (λ x. beside x (at held j m k) ≡ true) held j m i
    (λ e. rw (at_other held j m k (λ f. n (e ∙ sym f))) (beside_sym m (held k) ∙ grants_beside (held k) m (g k (λ f. n (e ∙ sym f)))))
    (λ d. at_each (λ x. beside (held i) x ≡ true) held j m k (λ e. grants_beside (held i) m (g i d)) (λ _. p i k n))

module _ (js : List ℕ) (held : ℕ → Mode) (w : Waiter) (q : List Waiter) (r : Ready js held (w ∷ q)) where
  -- once the first waiter is granted, the rest of the row can be settled: that job is younger than the waiters left, because the queue falls
  granted_ready : agrees js held w.job (wants held w) ≡ true → Ready js (at held w.job (wants held w)) q
  granted_ready a = record {
    seats = λ i. at_each (λ x. is_free x ≡ false → member i js ≡ true) held w.job (wants held w) i
        (λ e _. ap (λ k. member k js) e ∙ r.waits w first) (λ _. r.seats i);
    waits = λ v h. r.waits v (later h);
    pairs = taking_pairs held w.job (wants held w) (agrees_each js held w.job (wants held w) r.seats a) r.pairs;
    elder = λ v i h n. at_each (λ x. is_free x ≡ false → v.job < i) held w.job (wants held w) i
        (λ e _. subst (λ k. v.job < k) (sym e) (r.down.0 v h)) (λ _. r.elder v i (later h) n);
    down = r.down.1;
  }

  -- a job woken later is another job
  woken_other : (s : Settled) → Settles js (at held w.job (wants held w)) q s → (v : Waiter) → In v s.woken → v.job ≢ w.job
  woken_other s t v h e =
      let l : v.job < w.job = r.down.0 v (subst (In v) (sym t.parted) (in_left s.row.queue h)) in
      omega arith

  -- a job woken later wants what it wanted
  wanted : (s : Settled) → Settles js (at held w.job (wants held w)) q s → (v : Waiter) → In v s.woken → wants (at held w.job (wants held w)) v ≡ wants held v
  wanted s t v l = wants_same (at held w.job (wants held w)) held v (at_other held w.job (wants held w) v.job (woken_other s t v l))

  -- what it was granted beside a job other than the first, it was granted beside what that job held
  after_first : (s : Settled) (t : Settles js (at held w.job (wants held w)) q s) (v : Waiter) → In v s.woken → (i : ℕ) → i ≢ w.job →
      grants (at held w.job (wants held w) i) (wants (at held w.job (wants held w)) v) ≡ true → grants (held i) (wants held v) ≡ true
  after_first s t v l i n g = rw (wanted s t v l, at_other held w.job (wants held w) i n) at g

  -- and the row settled from there, with the first waiter woken, is the row settled
  granted_settles : agrees js held w.job (wants held w) ≡ true → (s : Settled) → Settles js (at held w.job (wants held w)) q s → Settles js held (w ∷ q) (woken_first w s)
  unfolding woken_first
  granted_settles a s t = record {
    parted = ap (λ l. w ∷ l) t.parted;
    kept = λ i n. t.kept i (λ v h. n v (later h)) ∙ at_other held w.job (wants held w) i (λ e. n w first (sym e));
    takes = λ v h. in_split h (λ e. subst (λ x. s.row.held x.job ≡ wants held x) (sym e) (t.kept w.job (woken_other s t) ∙ at_same held w.job (wants held w)))
        (λ l. t.takes v l ∙ wants_same (at held w.job (wants held w)) held v (at_other held w.job (wants held w) v.job (woken_other s t v l)));
    fits = λ v h i n k. in_split h (λ e. rw e (agrees_each js held w.job (wants held w) r.seats a i (λ p. n (p ∙ ap (λ x. x.job) (sym e)))))
        (λ l. after_first s t v l i (λ p. k w first (sym p)) (t.fits v l i n (λ u g. k u (later g))));
    in_turn = λ u v b. ahead_split b
        (λ e l. rw e (subst (λ m. grants m (wants held v) ≡ true) (at_same held w.job (wants held w))
        (rw (wanted s t v l) at (t.fits v l w.job (λ p. woken_other s t v l (sym p)) (woken_other s t)))))
        (λ c. rw (← wanted s t u (ahead_in c), ← wanted s t v (ahead_of_lem c)) (t.in_turn u v c));
    grown = λ i. covers_trans (s.row.held i) (at held w.job (wants held w) i) (held i) (t.grown i)
        (at_each (λ x. covers x (held i) ≡ true) held w.job (wants held w) i (λ e. subst (λ k. covers (wants held w) (held k) ≡ true) (sym e) (wants_grows held w)) (λ _. covers_refl (held i)));
    seats = t.seats;
    pairs = t.pairs;
    elder = t.elder;
    down = t.down;
    blocked = t.blocked;
  }

-- if the first waiter is blocked, the search stops and nothing changes
stopped_settles : (js : List ℕ) (held : ℕ → Mode) (q : List Waiter) → Ready js held q → FirstBlocked held q → Settles js held q (record { row = record { held = held; queue = q }; woken = [] })
stopped_settles js held q r b = record {
  parted = refl;
  kept = λ i n. refl;
  takes = λ v h. in_none h;
  fits = λ v h. in_none h;
  in_turn = λ u v b. ahead_none b;
  grown = λ i. covers_refl (held i);
  seats = r.seats;
  pairs = r.pairs;
  elder = r.elder;
  down = r.down;
  blocked = b;
}

-- settling a row that can be settled: at a waiter that does not agree the search stops, since another job is in its way
pub settle_settles : (js : List ℕ) (held : ℕ → Mode) (q : List Waiter) → Ready js held q → Settles js held q (settle js held q)
unfolding settle
settle_settles js held [] r = stopped_settles js held [] r tt
settle_settles js held (w ∷ q) r =
    by_test (agrees js held w.job (wants held w))
    (λ t. rw t (granted_settles js held w q r t (settle js (at held w.job (wants held w)) q) (settle_settles js (at held w.job (wants held w)) q (granted_ready js held w q r t))))
    (λ f. rw f (stopped_settles js held (w ∷ q) r (agrees_not js held w.job (wants held w) f)))
