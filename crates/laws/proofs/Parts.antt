-- What a test that joins others says of its parts.
-- Assumes nothing.
use mathlib.Core.Path.{◌≡◌, refl}
use mathlib.Core.Bool.{Bool, true, false, ◌&&◌, ◌||◌}
use Rattle.laws.specs.Choice.{not_both}

-- where both hold, the first does
pub and_first : (a b : Bool) → (a && b) ≡ true → a ≡ true
and_first true b e = refl
and_first false b e = e

-- where both hold, the second does
pub and_second : (a b : Bool) → (a && b) ≡ true → b ≡ true
and_second true b e = e
and_second false b e = not_both e refl

-- both hold where each does
pub and_both : (a b : Bool) → a ≡ true → b ≡ true → (a && b) ≡ true
and_both a b h g = rw (h, g)

-- where one of two holds, the first does or the second does
pub or_either : {P : Type 0} (a b : Bool) → (a || b) ≡ true → (a ≡ true → P) → (b ≡ true → P) → P
or_either true b e one' two' = one' refl
or_either false b e one' two' = two' e

-- one of two holds where the first does
pub or_first : (a b : Bool) → a ≡ true → (a || b) ≡ true
or_first a b h = rw h

-- one of two holds where the second does
pub or_second : (a b : Bool) → b ≡ true → (a || b) ≡ true
or_second true b h = refl
or_second false b h = h

-- where neither holds, the first does not
pub nor_first : (a b : Bool) → (a || b) ≡ false → a ≡ false
nor_first true b e = e
nor_first false b e = refl

-- where neither holds, the second does not
pub nor_second : (a b : Bool) → (a || b) ≡ false → b ≡ false
nor_second true b e = not_both refl e
nor_second false b e = e

-- the first two of three change places under "or"
pub or_swap : (a b c : Bool) → (a || (b || c)) ≡ (b || (a || c))
or_swap true true c = refl
or_swap true false c = refl
or_swap false true c = refl
or_swap false false c = refl

-- the first two of three change places under "and"
pub and_swap : (a b c : Bool) → (a && (b && c)) ≡ (b && (a && c))
and_swap true true c = refl
and_swap true false c = refl
and_swap false true c = refl
and_swap false false c = refl
