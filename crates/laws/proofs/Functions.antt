-- The values of a function of numbers that is changed at one number.
-- Assumes nothing.
use Prim.Native.Nat.{ℕ}
use mathlib.Core.Path.{◌≡◌, refl, sym, subst}
use mathlib.Core.Logic.{◌≢◌}
use borrow.Author.Tests.{eqb-true, eqb-false, eq-eqb, ne_eqb}
use lib.Dec.{eqb}
use Rattle.laws.specs.Choice.{by_test}
use Rattle.laws.specs.Functions.{at}

-- a function changed at one number, where it is changed
pub at_same : {A : Type 0} (f : ℕ → A) (i : ℕ) (x : A) → at f i x i ≡ x
unfolding at
at_same f i x = rw (eq-eqb i i refl)

-- and everywhere else
pub at_other : {A : Type 0} (f : ℕ → A) (i : ℕ) (x : A) (j : ℕ) → j ≢ i → at f i x j ≡ f j
unfolding at
at_other f i x j n = rw (ne_eqb j i n)

-- so what holds of the new value and of every other old one holds of it
pub at_each : {A : Type 0} (P : A → Type 0) (f : ℕ → A) (i : ℕ) (x : A) (j : ℕ) → (j ≡ i → P x) → (j ≢ i → P (f j)) → P (at f i x j)
unfolding at
at_each P f i x j here' there =
    by_test (eqb j i) (λ t. rw t (here' (eqb-true j i t))) (λ n. rw n (there (eqb-false j i n)))

-- and what holds of the new value there, and of every old one elsewhere, holds everywhere
pub at_all : {A : Type 0} (P : ℕ → A → Type 0) (f : ℕ → A) (i : ℕ) (x : A) → P i x → ((j : ℕ) → j ≢ i → P j (f j)) → (j : ℕ) → P j (at f i x j)
at_all P f i x h g j = at_each (P j) f i x j (λ e. subst (λ k. P k x) (sym e) h) (g j)
