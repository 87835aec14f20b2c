-- The laws of `pick`: they prove a branch of code against it.
-- Assumes nothing.
use Rattle.std.specs.Prelude.{◌≡◌, Bool, true, false}
use Rattle.std.proofs.Common.{eq-eqb, ne_eqb, lt-ltb, le-ltb, le-leb}
use Rattle.std.proofs.lemmas.Bool.{lt-leb}
use Rattle.laws.specs.Choice.{pick, was_true, was_false}

-- if the test holds, a result equal to the first value is the choice
pub pick_then : {A : Type 0} (b : Bool) (r x y : A) → b ≡ true → r ≡ x → r ≡ pick b x y
pick_then b r x y e h = simp e h

-- if the test fails, a result equal to the second value is the choice
pub pick_else : {A : Type 0} (b : Bool) (r x y : A) → b ≡ false → r ≡ y → r ≡ pick b x y
pick_else b r x y e h = simp e h

-- the rules that prove a return of code that branches as its definition does
pub ruleset cases = (pick_then, pick_else, was_true, was_false, eq-eqb, ne_eqb, lt-ltb, le-ltb, le-leb, lt-leb)
