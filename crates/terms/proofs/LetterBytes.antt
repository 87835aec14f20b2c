-- Which bytes are letters, as bytes: a byte is no letter exactly where it is none of the nine that are listed, and no letter of a request exactly where it is none of the eight (01, Lines; 01, refusal 1; 02, No. 1).
-- The bytes are written out, since the list is the point. Assumes nothing.
use Rattle.std.specs.Prelude.{Option, None, Some}
use Prim.Native.Nat.{ℕ}
use mathlib.Core.Path.{◌≡◌, refl, sym, ap, ◌∙◌}
use mathlib.Core.Logic.{◌↔◌}
use mathlib.Core.Bool.{Bool, true, false}
use mathlib.Core.List.{List, [], ◌∷◌, map}
use Rattle.laws.specs.Choice.{by_test, not_both}
use Rattle.laws.specs.Lists.{member}
use Rattle.laws.proofs.SameOn.{same_on}
use Rattle.terms.specs.declared.letters.Ask.TheVariants.{Read, Write, Increment, Update}
use Rattle.terms.specs.declared.letters.Letter.{Letter}
use Rattle.terms.specs.declared.letters.Letter.TheVariants.{Begin, Commit, GiveUp, Retry, Back, Asks}
use Rattle.terms.specs.Letters.{byte_of, letter_of, of_requests}
use Rattle.terms.proofs.Alphabet.{byte_of_letter}

-- whether what was read is a letter, and one that the test takes
abbrev is_of : (Letter → Bool) → Option Letter → Bool
is_of f (Some l) = f l
is_of f None = false

-- every letter
abbrev any_letter : Letter → Bool
any_letter l = true

-- a list that has the bytes of the letters that a test takes, and bytes of letters alone, names exactly those
listed : (f : Letter → Bool) (bs : List ℕ) → ((l : Letter) → member (byte_of l) bs ≡ f l) → map (λ k. is_of any_letter (letter_of k)) bs ≡ map (λ k. true) bs → (b : ℕ) → member b bs ≡ is_of f (letter_of b)
listed f bs each known b = by_letter (letter_of b) refl
  where
    by_letter : (x : Option Letter) → letter_of b ≡ x → member b bs ≡ is_of f x
    by_letter (Some l) e = ap (λ k. member k bs) (sym (byte_of_letter b l e)) ∙ each l
    by_letter None e = by_test (member b bs) (λ t. not_both (same_on (λ k. is_of any_letter (letter_of k)) (λ k. true) bs known b t) (ap (is_of any_letter) e)) (λ g. g)

-- b, c, a, t, r, w, i and u: the letters of requests
abbrev eight : List ℕ
eight = 98 ∷ 99 ∷ 97 ∷ 116 ∷ 114 ∷ 119 ∷ 105 ∷ 117 ∷ []

-- their bytes are the eight
of_eight : (l : Letter) → member (byte_of l) eight ≡ of_requests l
unfolding member
of_eight Begin = refl
of_eight Commit = refl
of_eight GiveUp = refl
of_eight Retry = refl
of_eight Back = refl
of_eight (Asks Read) = refl
of_eight (Asks Write) = refl
of_eight (Asks Increment) = refl
of_eight (Asks Update) = refl

-- and with the byte of k, 107, they are all
of_nine : (l : Letter) → member (byte_of l) (107 ∷ eight) ≡ true
unfolding member
of_nine Begin = refl
of_nine Commit = refl
of_nine GiveUp = refl
of_nine Retry = refl
of_nine Back = refl
of_nine (Asks Read) = refl
of_nine (Asks Write) = refl
of_nine (Asks Increment) = refl
of_nine (Asks Update) = refl

-- A BYTE IS NO LETTER EXACTLY WHERE IT IS NONE OF THE NINE: b, c, a, t, k, r, w, i and u
pub no_letter_exactly : (b : ℕ) → (letter_of b ≡ None) ↔ (member b (107 ∷ 98 ∷ 99 ∷ 97 ∷ 116 ∷ 114 ∷ 119 ∷ 105 ∷ 117 ∷ []) ≡ false)
no_letter_exactly b = (λ e. listed any_letter (107 ∷ eight) of_nine refl b ∙ ap (is_of any_letter) e, λ f. none_known (letter_of b) (sym (listed any_letter (107 ∷ eight) of_nine refl b) ∙ f))
  where
    none_known : (x : Option Letter) → is_of any_letter x ≡ false → x ≡ None
    none_known (Some l) f = not_both refl f
    none_known None f = refl

-- AND NO LETTER OF A REQUEST EXACTLY WHERE IT IS NONE OF THE EIGHT: b, c, a, t, r, w, i and u
pub no_request_exactly : (b : ℕ) → ((l : Letter) → letter_of b ≡ Some l → of_requests l ≡ false) ↔ (member b (98 ∷ 99 ∷ 97 ∷ 116 ∷ 114 ∷ 119 ∷ 105 ∷ 117 ∷ []) ≡ false)
no_request_exactly b =
    (λ none_of. listed of_requests eight of_eight refl b ∙ not_asked (letter_of b) none_of, λ f l e. sym (ap (is_of of_requests) e) ∙ sym (listed of_requests eight of_eight refl b) ∙ f)
  where
    not_asked : (x : Option Letter) → ((l : Letter) → x ≡ Some l → of_requests l ≡ false) → is_of of_requests x ≡ false
    not_asked (Some l) g = g l refl
    not_asked None g = refl
