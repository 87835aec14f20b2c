-- A test of every place is the test of every job at the places, if each place passes exactly when its job does.
-- Assumes nothing.
use Prim.Native.Nat.{ℕ, zero, suc, ◌<◌}
use mathlib.Core.Path.{◌≡◌, refl, sym, ap, subst, ◌∙◌}
use mathlib.Core.Bool.{Bool, true}
use mathlib.Core.List.{List, [], ◌∷◌}
use native.Mathlib.Omega.{arith}
use lib.ListN.{length, get_or}
use Rattle.laws.specs.Choice.{by_test, not_both}
use Rattle.laws.proofs.Parts.{and_first, and_second, and_both}
use Rattle.desk_rules.specs.Locks.{every}
use Rattle.desk_arrays.specs.Places.{all_below}
use Rattle.desk_arrays.proofs.Cases.{by_last}

-- two tests are the same where each holds if the other does
pub same_test : (a b : Bool) → (a ≡ true → b ≡ true) → (b ≡ true → a ≡ true) → a ≡ b
same_test a b f g = by_test a (λ t. t ∙ sym (f t)) (λ n. by_test b (λ t. not_both (g t) n) (λ m. n ∙ sym m))

-- a test of every place holds of each
pub all_each : (f : ℕ → Bool) (n : ℕ) → all_below f n ≡ true → (q : ℕ) → q < n → f q ≡ true
unfolding all_below
all_each f zero h q l = absurd (omega arith)
all_each f (suc n) h q l =
    by_last q n l (λ e. ap f e ∙ and_first (f n) (all_below f n) h) (all_each f n (and_second (f n) (all_below f n) h) q)

-- a test that holds of each place holds of every one
pub each_all : (f : ℕ → Bool) (n : ℕ) → ((q : ℕ) → q < n → f q ≡ true) → all_below f n ≡ true
unfolding all_below
each_all f zero h = refl
each_all f (suc n) h = and_both (f n) (all_below f n) (h n (omega arith)) (each_all f n (λ q l. h q (omega arith)))

-- a test of every job of a list holds of the job at each place
every_at : (f : ℕ → Bool) (ks : List ℕ) → every f ks ≡ true → (q : ℕ) → q < length ks → f (get_or ks q 0) ≡ true
unfolding every
every_at f [] h q l = absurd (omega arith)
every_at f (k ∷ ks) h zero l = and_first (f k) (every f ks) h
every_at f (k ∷ ks) h (suc q) l = every_at f ks (and_second (f k) (every f ks) h) q (omega arith)

-- and the other way round
at_every : (f : ℕ → Bool) (ks : List ℕ) → ((q : ℕ) → q < length ks → f (get_or ks q 0) ≡ true) → every f ks ≡ true
unfolding every
at_every f [] h = refl
at_every f (k ∷ ks) h = and_both (f k) (every f ks) (h 0 (omega arith)) (at_every f ks (λ q l. h (suc q) (omega arith)))

-- so the test of every place is the test of every job listed
pub all_every : (f g : ℕ → Bool) (ks : List ℕ) (n : ℕ) → length ks ≡ n → ((q : ℕ) → q < length ks → f q ≡ g (get_or ks q 0)) → all_below f n ≡ every g ks
all_every f g ks n e h =
    same_test (all_below f n) (every g ks) (λ t. at_every g ks (λ q l. sym (h q l) ∙ all_each f n t q (subst (λ m. q < m) e l)))
    (λ t. each_all f n (λ q l. let k : q < length ks = subst (λ m. q < m) (sym e) l in h q k ∙ every_at g ks t q k))
