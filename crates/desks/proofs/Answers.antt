-- Answers with different words are not equal; and which answers are go or a refusal.
-- Assumes nothing.
use Prim.Native.Nat.{ℕ}
use mathlib.Core.Path.{◌≡◌}
use mathlib.Core.Bool.{Bool, true, false}
use lib.Dec.{eqb}
use Rattle.laws.specs.Choice.{not_both}
use Rattle.laws.proofs.Lists.{same_refl}
use Rattle.desks.specs.declared.Answer.{Answer}
use Rattle.desks.specs.declared.Answer.TheVariants.{Go, Wait, Back, No}

-- a number for the case of an answer
abbrev pub case_of : Answer → ℕ
case_of (Go j) = 0
case_of (Wait j) = 1
case_of (Back j) = 2
case_of (No why) = 3

-- an answer has one word
pub other-answer : {P : Type 0} {x y : Answer} → x ≡ y → eqb (case_of x) (case_of y) ≡ false → P
other-answer {y = y} e n = not_both (rw e (same_refl (case_of y))) n

-- the answer is go or a refusal: no job is held up
abbrev pub goes_or_refuses : Answer → Bool
goes_or_refuses (Go j) = true
goes_or_refuses (Wait j) = false
goes_or_refuses (Back j) = false
goes_or_refuses (No why) = true
