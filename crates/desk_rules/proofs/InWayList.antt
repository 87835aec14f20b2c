-- The list of jobs in a waiter's way names exactly the jobs in its way. So the youngest on the list is next after the waiter, and it holds the waiter's cell (02, No. 3).
-- Assumes nothing.
use Prim.Native.Nat.{ℕ, ◌<◌, ◌≤◌}
use mathlib.Core.Path.{◌≡◌, refl, sym, ap, subst, ◌∙◌}
use mathlib.Core.Logic.{◌≢◌}
use mathlib.Core.Bool.{true, false, not, ◌&&◌, ◌||◌}
use mathlib.Core.List.{List, [], ◌∷◌}
use native.Mathlib.Omega.{arith}
use lib.Dec.{eqb}
use borrow.Author.Tests.{eqb-true, eqb-false, ne_eqb, not-true}
use Rattle.laws.specs.Choice.{by_test}
use Rattle.laws.specs.Lists.{member}
use Rattle.laws.proofs.Parts.{and_first, and_second, or_either, or_first, or_second}
use Rattle.laws.proofs.Lists.{member_first, member_more, member_split, member_none, member_put}
use Rattle.laws.proofs.Joined.{member_append}
use Rattle.conflict.specs.declared.modes.Mode.{Mode}
use Rattle.conflict.specs.Modes.{is_free}
use Rattle.laws.specs.Standing.{In}
use Rattle.desk_rules.specs.Desk.{Waiter, Desk}
use Rattle.desk_rules.specs.Waiting.{Ahead, InWay, holds_it, ahead, in_front, further, IsWaiting}
use Rattle.desk_rules.specs.Invariant.{Falling, Inv}
use Rattle.desk_rules.specs.Chain.{other_holders, ahead_of, in_way_of, youngest_of, Next}
use Rattle.desk_rules.proofs.Statuses.{live_open}
use Rattle.laws.proofs.Standing.{in_none, in_split}
use Rattle.desk_rules.proofs.AheadLaws.{ahead_of_lem}
use Rattle.desk_rules.proofs.InTheWay.{waiter_in, way_some, way_younger, way_live}
use Rattle.desk_rules.proofs.Younger.{youngest_most, youngest_listed}

module _ (j : ℕ) (held : ℕ → Mode) where
  -- a job that is listed as another holder is one
  pub listed_holds : (is : List ℕ) (i : ℕ) → member i (other_holders j held is) ≡ true → (i ≢ j) × (is_free (held i) ≡ false)
  unfolding other_holders
  listed_holds [] i h = member_none i h
  listed_holds (k ∷ is) i h =
      or_either (eqb k i && (not (eqb k j) && not (is_free (held k)))) (member i (other_holders j held is)) (sym (member_put (not (eqb k j) && not (is_free (held k))) k i (other_holders j held is)) ∙ h)
      (λ t. subst (λ x. (x ≢ j) × (is_free (held x) ≡ false)) (eqb-true k i (and_first (eqb k i) _ t)) (this (and_second (eqb k i) _ t)))
      (listed_holds is i)
    where
      this : (not (eqb k j) && not (is_free (held k))) ≡ true → (k ≢ j) × (is_free (held k) ≡ false)
      this t = (eqb-false k j (not-true (eqb k j) (and_first (not (eqb k j)) (not (is_free (held k))) t)), not-true (is_free (held k)) (and_second (not (eqb k j)) (not (is_free (held k))) t))

  -- and every other holder is listed
  pub holder_listed : (is : List ℕ) (i : ℕ) → member i is ≡ true → i ≢ j → is_free (held i) ≡ false → member i (other_holders j held is) ≡ true
  unfolding other_holders
  holder_listed [] i h n f = member_none i h
  holder_listed (k ∷ is) i h n f =
      member_put (not (eqb k j) && not (is_free (held k))) k i (other_holders j held is)
      ∙ member_split k is i h
      (λ e. subst (λ x. ((eqb x i && (not (eqb x j) && not (is_free (held x)))) || member i (other_holders j held is)) ≡ true) (sym e) (rw (ne_eqb i j n, f) (or_first (eqb i i && true) (member i (other_holders j held is)) this)))
      (λ m. or_second (eqb k i && (not (eqb k j) && not (is_free (held k)))) (member i (other_holders j held is)) (holder_listed is i m n f))
    where
      this : (eqb i i && true) ≡ true
      this = by_test (eqb i i) (λ t. rw t) (λ g. absurd (eqb-false i i g refl))

-- a job that is listed as standing ahead stands ahead
pub listed_ahead : (w : Waiter) (q : List Waiter) (i : ℕ) → In w q → member i (ahead_of w.job q) ≡ true → (v : Waiter) × (v.job ≡ i) × Ahead v w q
unfolding ahead_of
listed_ahead w [] i k h = in_none k
listed_ahead w (u ∷ q) i k h =
    by_test (eqb u.job w.job) (λ t. member_none i (rw t at h))
    (λ f. in_split k (λ e. absurd (eqb-false u.job w.job f (sym (ap (λ x. x.job) e))))
    (λ l. member_split u.job (ahead_of w.job q) i (rw f at h) (λ e. (u, e, in_front l)) (λ m. later_one (listed_ahead w q i l m))))
  where
    later_one : (v : Waiter) × (v.job ≡ i) × Ahead v w q → (v : Waiter) × (v.job ≡ i) × Ahead v w (u ∷ q)
    later_one (v, e, a) = (v, e, further a)

-- and a job that stands ahead is listed, if the queue falls
pub ahead_listed : (v w : Waiter) (q : List Waiter) → Falling q → Ahead v w q → member v.job (ahead_of w.job q) ≡ true
unfolding ahead_of
ahead_listed v w q f a = go q f a
  where
    apart : (u : Waiter) → w.job < u.job → eqb u.job w.job ≡ false
    apart u l = ne_eqb u.job w.job (λ e. omega (arith, l, e))

    go : (q : List Waiter) → Falling q → Ahead v w q → member v.job (ahead_of w.job q) ≡ true
    go _ f (in_front {q = q} h) = rw (apart v (f.0 w h)) (member_first v.job (ahead_of w.job q))
    go _ f (further {u = u} {q = q} b) = rw (apart u (f.0 w (ahead_of_lem b))) (member_more u.job (ahead_of w.job q) v.job (go q f.1 b))

module _ {d : Desk} (v : Inv d) (c : ℕ) (w : Waiter) (k : IsWaiting d c w) where
  -- a job that is listed as in the waiter's way is in its way
  pub listed_way : (i : ℕ) → member i (in_way_of d w.job c) ≡ true → InWay (d.row c) w i
  unfolding in_way_of
  listed_way i h =
      or_either (member i (other_holders w.job (d.row c).held d.jobs)) (member i (ahead_of w.job (d.row c).queue)) (sym (member_append i (other_holders w.job (d.row c).held d.jobs) (ahead_of w.job (d.row c).queue)) ∙ h)
      (λ t. let (n, f) = listed_holds w.job (d.row c).held d.jobs i t in holds_it n f)
      (λ t. let (u, e, a) = listed_ahead w (d.row c).queue i (waiter_in v c w k) t in ahead u e a)

  -- and a job that is in its way is listed
  pub way_listed : (i : ℕ) → InWay (d.row c) w i → member i (in_way_of d w.job c) ≡ true
  unfolding in_way_of
  way_listed i y = member_append i (other_holders w.job (d.row c).held d.jobs) (ahead_of w.job (d.row c).queue) ∙ go y
    where
      go : InWay (d.row c) w i → (member i (other_holders w.job (d.row c).held d.jobs) || member i (ahead_of w.job (d.row c).queue)) ≡ true
      go (holds_it n f) = or_first _ _ (holder_listed w.job (d.row c).held d.jobs i (v.seats i (live_open (d.stat i) (way_live v c w k i (holds_it n f)))) n f)
      go (ahead u e a) = or_second (member i (other_holders w.job (d.row c).held d.jobs)) (member i (ahead_of w.job (d.row c).queue)) (subst (λ x. member x (ahead_of w.job (d.row c).queue) ≡ true) e (ahead_listed u w (d.row c).queue (v.rows c).down a))

  -- so the youngest on the list is next after the waiter
  pub next_is : Next d c w (youngest_of (in_way_of d w.job c))
  next_is =
      let (i, y) = way_some v c w k in
      let l = way_younger v c w k i y in
      record { way = listed_way _ (youngest_listed (in_way_of d w.job c) i (way_listed i y) (omega arith)); youngest = λ m z. youngest_most (in_way_of d w.job c) m (way_listed m z) }

  -- no other job is
  pub next_only : (i m : ℕ) → Next d c w i → Next d c w m → i ≡ m
  next_only i m x y = let l : i ≤ m = y.youngest i x.way in let g : m ≤ i = x.youngest m y.way in omega arith
