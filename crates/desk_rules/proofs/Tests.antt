-- What the tests of the rules say, in both directions: for every job of a list, for other holders and for waiters.
-- Assumes nothing.
use Prim.Native.Nat.{ℕ, ◌<◌, ◌≤◌}
use mathlib.Core.Path.{◌≡◌, refl, sym, ap, ◌∙◌}
use mathlib.Core.Logic.{◌≢◌}
use mathlib.Core.Bool.{Bool, true, false, ◌||◌}
use mathlib.Core.List.{List, [], ◌∷◌}
use lib.Dec.{ltb, eqb}
use native.Mathlib.Omega.{arith}
use borrow.Author.Tests.{eqb-true, eqb-false, ne_eqb, ltb-true, ltb-false}
use Rattle.laws.specs.Choice.{by_test, not_both}
use Rattle.conflict.specs.declared.modes.Mode.{Mode}
use Rattle.conflict.specs.Modes.{grants, is_free}
use Rattle.laws.specs.Lists.{member}
use Rattle.laws.proofs.Lists.{member_first, member_more}
use Rattle.conflict.proofs.ModeLaws.{is_free_lem, grants_free}
use Rattle.laws.proofs.Parts.{and_first, and_second, or_either, nor_first, nor_second}
use Rattle.laws.specs.Standing.{In, first, later}
use Rattle.desk_rules.specs.Desk.{Waiter}
use Rattle.desk_rules.specs.Locks.{every, every_waiter, is_empty, agrees, older_than_holders, older_than_waiters}
use Rattle.desk_rules.specs.Releasing.{Seated}
use Rattle.laws.proofs.Standing.{in_none, in_split}

-- a test that holds for every job of a list holds for each
pub every_each : (f : ℕ → Bool) (js : List ℕ) → every f js ≡ true → (i : ℕ) → member i js ≡ true → f i ≡ true
unfolding every member
every_each f [] h i m = not_both m refl
every_each f (j ∷ js) h i m =
    or_either (eqb j i) (member i js) m (λ t. ap f (sym (eqb-true j i t)) ∙ and_first (f j) (every f js) h)
    (λ k. every_each f js (and_second (f j) (every f js) h) i k)

-- a test that does not hold for every job of a list fails for one of them
pub every_not : (f : ℕ → Bool) (js : List ℕ) → every f js ≡ false → (i : ℕ) × (member i js ≡ true) × (f i ≡ false)
unfolding every
every_not f [] h = not_both refl h
every_not f (j ∷ js) h =
    by_test (f j) (λ t. more (every_not f js (rw t at h))) (λ n. (j, member_first j js, n))
  where
    more : (i : ℕ) × (member i js ≡ true) × (f i ≡ false) → (i : ℕ) × (member i (j ∷ js) ≡ true) × (f i ≡ false)
    more (i, m, n) = (i, member_more j js i m, n)

-- a test that holds for every waiter of a queue holds for each
pub waiters_each : (f : Waiter → Bool) (q : List Waiter) → every_waiter f q ≡ true → (w : Waiter) → In w q → f w ≡ true
unfolding every_waiter
waiters_each f [] h w k = in_none k
waiters_each f (v ∷ q) h w k =
    in_split k (λ e. ap f e ∙ and_first (f v) (every_waiter f q) h) (λ l. waiters_each f q (and_second (f v) (every_waiter f q) h) w l)

-- and one that does not fails for one of them
pub waiters_not : (f : Waiter → Bool) (q : List Waiter) → every_waiter f q ≡ false → (w : Waiter) × In w q × (f w ≡ false)
unfolding every_waiter
waiters_not f [] h = not_both refl h
waiters_not f (v ∷ q) h = by_test (f v) (λ t. more (waiters_not f q (rw t at h))) (λ n. (v, first, n))
  where
    more : (w : Waiter) × In w q × (f w ≡ false) → (w : Waiter) × In w (v ∷ q) × (f w ≡ false)
    more (w, k, n) = (w, later k, n)

-- an empty queue has no waiter
pub empty_queue : (q : List Waiter) → is_empty q ≡ true → q ≡ []
unfolding is_empty
empty_queue [] h = refl
empty_queue (w ∷ q) h = not_both h refl

-- and any other queue has one
pub some_waiter : (q : List Waiter) → is_empty q ≡ false → (w : Waiter) × (rest : List Waiter) × (q ≡ w ∷ rest)
unfolding is_empty
some_waiter [] h = not_both refl h
some_waiter (w ∷ q) h = (w, q, refl)

-- a job older than every waiter is older than each
pub older_waiters : (q : List Waiter) (j : ℕ) → older_than_waiters q j ≡ true → (w : Waiter) → In w q → j < w.job
unfolding older_than_waiters
older_waiters q j h w k = ltb-true j w.job (waiters_each (λ w. ltb j w.job) q h w k)

-- a job that is not older than every waiter: some waiter is not younger
pub not_older_waiters : (q : List Waiter) (j : ℕ) → older_than_waiters q j ≡ false → (w : Waiter) × In w q × (w.job ≤ j)
unfolding older_than_waiters
not_older_waiters q j h = told (waiters_not (λ w. ltb j w.job) q h)
  where
    told : (w : Waiter) × In w q × (ltb j w.job ≡ false) → (w : Waiter) × In w q × (w.job ≤ j)
    told (w, k, n) = (w, k, ltb-false j w.job n)

-- a job older than each waiter is older than every waiter
pub each_older_waiters : (q : List Waiter) (j : ℕ) → ((w : Waiter) → In w q → j < w.job) → older_than_waiters q j ≡ true
each_older_waiters q j h =
    by_test (older_than_waiters q j) (λ t. t)
    (λ n. let (w, k, l) = not_older_waiters q j n in let g : j < w.job = h w k in absurd (omega arith))

module _ (f : Mode → ℕ → Bool) (js : List ℕ) (held : ℕ → Mode) (j : ℕ) where
  -- a test over all other holders that passes for a job holding nothing holds for every other job
  others_each : ((i : ℕ) → is_free (held i) ≡ true → f (held i) i ≡ true) → Seated js held → every (λ i. eqb i j || f (held i) i) js ≡ true → (i : ℕ) → i ≢ j → f (held i) i ≡ true
  others_each free seats h i n =
      by_test (is_free (held i)) (free i)
      (λ k. rw (ne_eqb i j n) at (every_each (λ i. eqb i j || f (held i) i) js h i (seats i k)))

  -- if it fails, it fails for some other job
  others_not : every (λ i. eqb i j || f (held i) i) js ≡ false → (i : ℕ) × (i ≢ j) × (f (held i) i ≡ false)
  others_not h = told (every_not (λ i. eqb i j || f (held i) i) js h)
    where
      told : (i : ℕ) × (member i js ≡ true) × ((eqb i j || f (held i) i) ≡ false) → (i : ℕ) × (i ≢ j) × (f (held i) i ≡ false)
      told (i, m, n) = (i, eqb-false i j (nor_first (eqb i j) (f (held i) i) n), nor_second (eqb i j) (f (held i) i) n)

module _ (js : List ℕ) (held : ℕ → Mode) (j : ℕ) where
  -- a mode that agrees with every other holder is granted beside every other job
  pub agrees_each : (m : Mode) → Seated js held → agrees js held j m ≡ true → (i : ℕ) → i ≢ j → grants (held i) m ≡ true
  unfolding agrees
  agrees_each m seats h i n =
      others_each (λ x i. grants x m) js held j (λ i e. rw (is_free_lem (held i) e) (grants_free m)) seats h i n

  -- a mode that does not agree is not granted beside some other job
  pub agrees_not : (m : Mode) → agrees js held j m ≡ false → (i : ℕ) × (i ≢ j) × (grants (held i) m ≡ false)
  unfolding agrees
  agrees_not m h = others_not (λ x i. grants x m) js held j h

  -- a mode that is not granted beside some other job does not agree
  pub not_agrees : (m : Mode) → Seated js held → (i : ℕ) → i ≢ j → grants (held i) m ≡ false → agrees js held j m ≡ false
  not_agrees m seats i n f =
      by_test (agrees js held j m) (λ t. not_both (agrees_each m seats t i n) f) (λ e. e)

  -- a mode that is granted beside every other job agrees
  pub each_agrees : (m : Mode) → ((i : ℕ) → i ≢ j → grants (held i) m ≡ true) → agrees js held j m ≡ true
  each_agrees m h =
      by_test (agrees js held j m) (λ t. t) (λ n. let (i, d, f) = agrees_not m n in not_both (h i d) f)

  -- a job older than every other holder is older than each
  pub older_holders : Seated js held → older_than_holders js held j ≡ true → (i : ℕ) → i ≢ j → is_free (held i) ≡ false → j < i
  unfolding older_than_holders
  older_holders seats h i n f =
      ltb-true j i (rw f at (others_each (λ x i. is_free x || ltb j i) js held j (λ i e. rw e) seats h i n))

  -- a job that is not older than every other holder: some other holder is older
  pub not_older_holders : older_than_holders js held j ≡ false → (i : ℕ) × (i ≢ j) × (is_free (held i) ≡ false) × (i < j)
  unfolding older_than_holders
  not_older_holders h = told (others_not (λ x i. is_free x || ltb j i) js held j h)
    where
      told : (i : ℕ) × (i ≢ j) × ((is_free (held i) || ltb j i) ≡ false) → (i : ℕ) × (i ≢ j) × (is_free (held i) ≡ false) × (i < j)
      told (i, n, e) =
          let l : i ≤ j = ltb-false j i (nor_second (is_free (held i)) (ltb j i) e) in
          (i, n, nor_first (is_free (held i)) (ltb j i) e, omega arith)

  -- a job older than each other holder is older than every other holder
  pub each_older : ((i : ℕ) → i ≢ j → is_free (held i) ≡ false → j < i) → older_than_holders js held j ≡ true
  each_older h =
      by_test (older_than_holders js held j) (λ t. t)
      (λ n. let (i, d, f, l) = not_older_holders n in let k : j < i = h i d f in absurd (omega arith))
