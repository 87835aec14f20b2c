-- The laws of lock modes: what covers what, what may be held together, what is granted, what is asked for, and what a mode lets a job do.
-- Assumes nothing.
use mathlib.Core.Path.{◌≡◌, refl, ◌∙◌}
use mathlib.Core.Bool.{Bool, true, false, ◌&&◌}
use Rattle.laws.specs.Choice.{by_test, not_both}
use Rattle.laws.proofs.Parts.{and_both, or_first}
use Rattle.terms.specs.declared.letters.Ask.{Ask}
use Rattle.conflict.specs.declared.action.Kind.{Kind}
use Rattle.conflict.specs.declared.modes.Mode.{Mode}
use Rattle.conflict.specs.declared.modes.Mode.TheVariants.{Free, S, X, I, U}
use Rattle.conflict.specs.Schedule.{agree}
use Rattle.conflict.specs.Modes.{needed, recorded, covers, beside, grants, asked, lets, is_free}
use Rattle.conflict.proofs.EachMode.{implies, alike, each_kind, of_modes, of_asks, of_two, of_three, of_kinds, follows, equal}
pub use Rattle.conflict.proofs.Swaps.{agree_sym}

-- which of two jobs is named first does not matter
pub beside_sym : (m n : Mode) → beside m n ≡ beside n m
unfolding beside grants
beside_sym m n = equal (beside m n) (beside n m) (of_two (λ m n. alike (beside m n) (beside n m)) refl m n)

-- a job that holds nothing may stand beside every other
pub free_beside : (m : Mode) → beside Free m ≡ true
unfolding beside grants
free_beside m = refl

-- and every other beside it
pub beside_free : (m : Mode) → beside m Free ≡ true
beside_free m = beside_sym m Free ∙ free_beside m

-- a mode that is granted beside a held mode may be held with it
pub grants_beside : (held asks : Mode) → grants held asks ≡ true → beside held asks ≡ true
unfolding beside
grants_beside held asks h = or_first (grants held asks) (grants asks held) h

-- beside a job that holds nothing everything is granted
pub grants_free : (m : Mode) → grants Free m ≡ true
unfolding grants
grants_free m = refl

-- a job that holds nothing is free
pub free_is_free : is_free Free ≡ true
unfolding is_free
free_is_free = refl

-- and only such a job is
pub is_free_lem : (m : Mode) → is_free m ≡ true → m ≡ Free
unfolding is_free
is_free_lem Free h = refl
is_free_lem S h = not_both h refl
is_free_lem X h = not_both h refl
is_free_lem I h = not_both h refl
is_free_lem U h = not_both h refl

-- every mode covers itself
pub covers_refl : (m : Mode) → covers m m ≡ true
unfolding covers
covers_refl = of_modes (λ m. covers m m) refl

-- X covers every mode
pub covers_all : (m : Mode) → covers X m ≡ true
unfolding covers
covers_all = of_modes (covers X) refl

-- every mode covers that of a job that holds nothing
pub covers_none : (m n : Mode) → is_free n ≡ true → covers m n ≡ true
unfolding covers
covers_none m n f = rw (is_free_lem n f) (of_modes (λ m. covers m Free) refl m)

-- a mode that covers another covers all that the other covers
pub covers_trans : (m n o : Mode) → covers m n ≡ true → covers n o ≡ true → covers m o ≡ true
unfolding covers
covers_trans m n o h g =
    follows (of_three (λ m n o. implies (covers m n && covers n o) (covers m o)) refl m n o) (and_both (covers m n) (covers n o) h g)

-- a job in the way of a mode asked for stays in the way under a mode that covers the one it held
pub stays_in_way : (m n a : Mode) → covers m n ≡ true → grants n a ≡ false → grants m a ≡ false
unfolding covers grants
stays_in_way m n a h f =
    by_test (grants m a) (λ t. not_both (follows (of_three (λ m n a. implies (covers m n && grants m a) (grants n a)) refl m n a) (and_both (covers m n) (grants m a) h t)) f) (λ g. g)

-- holding nothing covers no need
pub covers_free : (m : Mode) (a : Ask) → is_free m ≡ true → covers m (needed a) ≡ false
unfolding covers needed
covers_free m a f = rw (is_free_lem m f) (equal (covers Free (needed a)) false (of_asks (λ a. alike (covers Free (needed a)) false) refl a))

-- a job that holds nothing asks for what it needs
pub asked_free : (held need : Mode) → is_free held ≡ true → asked held need ≡ need
unfolding asked covers
asked_free held need f = rw (is_free_lem held f) (cases need)
  where
    cases : (need : Mode) → asked Free need ≡ need
    cases Free = refl
    cases S = refl
    cases X = refl
    cases I = refl
    cases U = refl

-- what is asked for covers what is held
pub asked_grows : (held need : Mode) → covers (asked held need) held ≡ true
unfolding asked covers
asked_grows = of_two (λ held need. covers (asked held need) held) refl

-- and what is needed
pub asked_covers : (held need : Mode) → covers (asked held need) need ≡ true
unfolding asked covers
asked_covers = of_two (λ held need. covers (asked held need) need) refl

-- and it is the least mode that covers both
pub asked_least : (held need m : Mode) → covers m held ≡ true → covers m need ≡ true → covers m (asked held need) ≡ true
unfolding asked covers
asked_least held need m h g =
    follows (of_three (λ held need m. implies (covers m held && covers m need) (covers m (asked held need))) refl held need m) (and_both (covers m held) (covers m need) h g)

-- a mode that covers a need is held
pub covers_not_free : (m : Mode) (a : Ask) → covers m (needed a) ≡ true → is_free m ≡ false
covers_not_free m a h = by_test (is_free m) (λ t. not_both h (covers_free m a t)) (λ f. f)

-- what one mode lets a job do, a mode that covers it lets it do too
pub lets_grows : (m n : Mode) (k : Kind) → covers m n ≡ true → lets n k ≡ true → lets m k ≡ true
unfolding covers lets
lets_grows m n k h g =
    follows (of_kinds (λ k. implies (covers m n && lets n k) (lets m k)) (of_two (λ m n. each_kind (λ k. implies (covers m n && lets n k) (lets m k))) refl m n) k)
    (and_both (covers m n) (lets n k) h g)

-- the mode that a request needs lets the request be done
needed_lets : (a : Ask) → lets (needed a) (recorded a) ≡ true
unfolding lets needed recorded
needed_lets = of_asks (λ a. lets (needed a) (recorded a)) refl

-- and so does every mode that covers the need
pub covers_lets : (m : Mode) (a : Ask) → covers m (needed a) ≡ true → lets m (recorded a) ≡ true
covers_lets m a h = lets_grows m (needed a) (recorded a) h (needed_lets a)

-- actions of two jobs agree if the jobs may do them under modes that they hold together
pub keeps_out : (m n : Mode) (k l : Kind) → beside m n ≡ true → lets m k ≡ true → lets n l ≡ true → agree k l ≡ true
unfolding beside grants lets agree
keeps_out m n k l b h g =
    follows (of_kinds (test m n k) (of_kinds (λ k. each_kind (test m n k)) (of_two (λ m n. each_kind (λ k. each_kind (test m n k))) refl m n) k) l)
    (and_both (beside m n) (lets m k && lets n l) b (and_both (lets m k) (lets n l) h g))
  where
    test : Mode → Mode → Kind → Kind → Bool
    test m n k l = implies (beside m n && (lets m k && lets n l)) (agree k l)

-- a mode that covers a need keeps out every action of another job that does not agree
pub covering_keeps_out : (m n : Mode) (a : Ask) (k : Kind) → covers m (needed a) ≡ true → beside m n ≡ true → agree (recorded a) k ≡ false → lets n k ≡ false
covering_keeps_out m n a k c b f =
    by_test (lets n k) (λ t. not_both (keeps_out m n (recorded a) k b (covers_lets m a c) t) f) (λ g. g)
