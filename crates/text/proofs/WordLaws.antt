-- No word is longer than seven bytes.
-- Assumes nothing.
use Prim.Native.Nat.{◌≤◌}
use native.Mathlib.Omega.{arith}
use lib.ListN.{length}
use Rattle.terms.specs.declared.words.Word.{Word}
use Rattle.terms.specs.declared.words.Word.TheVariants.{Go, Wait, Back, No, Wake, Orderly, Knot, Dirty}
use Rattle.terms.specs.Words.{spelt}

-- each word by itself
pub word_at_most_7 : (w : Word) → length (spelt w) ≤ 7
word_at_most_7 Go = omega arith
word_at_most_7 Wait = omega arith
word_at_most_7 Back = omega arith
word_at_most_7 No = omega arith
word_at_most_7 Wake = omega arith
word_at_most_7 Orderly = omega arith
word_at_most_7 Knot = omega arith
word_at_most_7 Dirty = omega arith
