-- A letter and its byte determine each other: no two letters share a byte, and no byte has two letters.
-- Assumes nothing.
use Rattle.std.specs.Prelude.{Option, None, Some}
use Prim.Native.Nat.{ℕ}
use mathlib.Core.Path.{◌≡◌, refl, sym}
use native.Mathlib.Omega.{arith}
use lib.Dec.{eqb}
use borrow.Author.Tests.{eqb-true}
use Rattle.laws.specs.Choice.{by_test}
use Rattle.terms.specs.declared.letters.Ask.TheVariants.{Read, Write, Increment, Update}
use Rattle.terms.specs.declared.letters.Letter.{Letter}
use Rattle.terms.specs.declared.letters.Letter.TheVariants.{Begin, Commit, GiveUp, Retry, Back, Asks}
use Rattle.terms.specs.Letters.{byte_of, or_else, letter_of}

-- a letter's byte is read as that letter
pub letter_of_byte : (l : Letter) → letter_of (byte_of l) ≡ Some l
letter_of_byte Begin = refl
letter_of_byte Commit = refl
letter_of_byte GiveUp = refl
letter_of_byte Retry = refl
letter_of_byte Back = refl
letter_of_byte (Asks Read) = refl
letter_of_byte (Asks Write) = refl
letter_of_byte (Asks Increment) = refl
letter_of_byte (Asks Update) = refl

-- what is read as a letter in one line of the lookup has that letter's byte, if the lines below it do
or_else_lem : (m l : Letter) (b : ℕ) (rest : Option Letter) → (rest ≡ Some l → byte_of l ≡ b) → or_else m b rest ≡ Some l → byte_of l ≡ b
or_else_lem m l b rest below e =
    by_test (eqb b (byte_of m)) (λ t. let s : m ≡ l = cc (rw t at e) in rw (← s) (sym (eqb-true _ _ t)))
    (λ f. below (rw f at e))

-- what is read as a letter is that letter's byte
pub byte_of_letter : (b : ℕ) (l : Letter) → letter_of b ≡ Some l → byte_of l ≡ b
byte_of_letter b l =
    or_else_lem Begin l b _
    (or_else_lem Commit l b _
    (or_else_lem GiveUp l b _
    (or_else_lem Retry l b _
    (or_else_lem Back l b _
    (or_else_lem (Asks Read) l b _
    (or_else_lem (Asks Write) l b _
    (or_else_lem (Asks Increment) l b _ (or_else_lem (Asks Update) l b None (λ e. let z : ◌≡◌ {A = ℕ} 0 1 = cc in absurd (omega arith))))))))))
