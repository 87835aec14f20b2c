-- A law of modes is proved by trying it: a test that passes for every mode, kind or request holds for all of them.
-- Assumes nothing.
use mathlib.Core.Path.{◌≡◌, refl}
use mathlib.Core.Bool.{Bool, true, false, not, ◌&&◌}
use Rattle.laws.specs.Choice.{pick, not_both}
use Rattle.laws.proofs.Parts.{and_first, and_second}
use Rattle.terms.specs.declared.letters.Ask.{Ask}
use Rattle.terms.specs.declared.letters.Ask.TheVariants.{Read as asks_read, Write as asks_write, Increment as asks-increment, Update as asks-update}
use Rattle.conflict.specs.declared.action.Kind.{Kind}
use Rattle.conflict.specs.declared.action.Kind.TheVariants.{Read, Write, Increment}
use Rattle.conflict.specs.declared.modes.Mode.{Mode}
use Rattle.conflict.specs.declared.modes.Mode.TheVariants.{Free, S, X, I, U}

-- the test passes for every mode
abbrev pub each_mode : (Mode → Bool) → Bool
each_mode f = f Free && (f S && (f X && (f I && f U)))

-- for every kind
abbrev pub each_kind : (Kind → Bool) → Bool
each_kind f = f Read && (f Write && f Increment)

-- for every request
abbrev pub each_ask : (Ask → Bool) → Bool
each_ask f = f asks_read && (f asks_write && (f asks-increment && f asks-update))

-- the second test holds wherever the first does
abbrev pub implies : Bool → Bool → Bool
implies a b = pick a b true

-- two tests come out alike
abbrev pub alike : Bool → Bool → Bool
alike a b = pick a b (not b)

-- so it holds for any mode
pub of_modes : (f : Mode → Bool) → each_mode f ≡ true → (m : Mode) → f m ≡ true
of_modes f h Free = and_first (f Free) _ h
of_modes f h S = and_first (f S) _ (and_second (f Free) _ h)
of_modes f h X = and_first (f X) _ (and_second (f S) _ (and_second (f Free) _ h))
of_modes f h I = and_first (f I) _ (and_second (f X) _ (and_second (f S) _ (and_second (f Free) _ h)))
of_modes f h U = and_second (f I) _ (and_second (f X) _ (and_second (f S) _ (and_second (f Free) _ h)))

-- for any kind
pub of_kinds : (f : Kind → Bool) → each_kind f ≡ true → (k : Kind) → f k ≡ true
of_kinds f h Read = and_first (f Read) _ h
of_kinds f h Write = and_first (f Write) _ (and_second (f Read) _ h)
of_kinds f h Increment = and_second (f Write) _ (and_second (f Read) _ h)

-- for any request
pub of_asks : (f : Ask → Bool) → each_ask f ≡ true → (a : Ask) → f a ≡ true
of_asks f h asks_read = and_first (f asks_read) _ h
of_asks f h asks_write = and_first (f asks_write) _ (and_second (f asks_read) _ h)
of_asks f h asks-increment = and_first (f asks-increment) _ (and_second (f asks_write) _ (and_second (f asks_read) _ h))
of_asks f h asks-update = and_second (f asks-increment) _ (and_second (f asks_write) _ (and_second (f asks_read) _ h))

-- for any two modes
pub of_two : (f : Mode → Mode → Bool) → each_mode (λ m. each_mode (f m)) ≡ true → (m n : Mode) → f m n ≡ true
of_two f h m = of_modes (f m) (of_modes (λ m. each_mode (f m)) h m)

-- for any three
pub of_three : (f : Mode → Mode → Mode → Bool) → each_mode (λ m. each_mode (λ n. each_mode (f m n))) ≡ true → (m n o : Mode) → f m n o ≡ true
of_three f h m = of_two (f m) (of_modes (λ m. each_mode (λ n. each_mode (f m n))) h m)

-- if one test implies another and the first holds, the second holds
pub follows : {a b : Bool} → implies a b ≡ true → a ≡ true → b ≡ true
follows h g = rw g at h

-- tests that come out alike are equal
pub equal : (a b : Bool) → alike a b ≡ true → a ≡ b
equal true true h = refl
equal true false h = not_both h refl
equal false true h = not_both h refl
equal false false h = refl
