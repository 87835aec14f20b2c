-- What a table has due for a request, by the request's byte: byte by byte as the table says, and the same for every two asks of a cell (01, Refusals by number; 02, No. 1).
-- Assumes nothing.
use Rattle.std.specs.Prelude.{Option, Some}
use Prim.Native.Nat.{ℕ}
use mathlib.Core.Path.{◌≡◌, refl, sym, ap, ap₂, ◌∙◌, subst}
use mathlib.Core.Bool.{true}
use mathlib.Core.List.{List, [], ◌∷◌, map}
use Rattle.laws.specs.Lists.{member}
use Rattle.laws.proofs.Lists.{member_more}
use Rattle.laws.proofs.SameOn.{same_on}
use Rattle.terms.specs.declared.letters.Ask.{Ask}
use Rattle.terms.specs.declared.letters.Ask.TheVariants.{Read, Write, Increment, Update}
use Rattle.terms.specs.declared.letters.Letter.{Letter}
use Rattle.terms.specs.declared.letters.Letter.TheVariants.{Asks}
use Rattle.terms.specs.declared.refusals.Refusal.{Refusal}
use Rattle.terms.specs.Letters.{byte_of, ask_byte, letter_of}
use Rattle.terms.proofs.Alphabet.{byte_of_letter}
use Rattle.desks.specs.Request.{Request}
use Rattle.desks.specs.AsWorded.{IsOneOf, AsksForCell}

-- r, w, i and u; with c; with c and t; and with c, a and t
abbrev pub asks : List ℕ
asks = 114 ∷ 119 ∷ 105 ∷ 117 ∷ []

abbrev pub with_c : List ℕ
with_c = 99 ∷ asks

abbrev pub with_ct : List ℕ
with_ct = 99 ∷ 116 ∷ asks

abbrev pub with_cat : List ℕ
with_cat = 99 ∷ 97 ∷ 116 ∷ asks

-- a request's byte is in a list if its letter's byte is
pub listed : (r : Request) (l : Letter) (bytes : List ℕ) → letter_of r.kind ≡ Some l → member (byte_of l) bytes ≡ true → IsOneOf r bytes
listed r l bytes e m = subst (λ b. member b bytes ≡ true) (byte_of_letter r.kind l e) m

-- the first four are the bytes of the asks
ask_byte_lem : (a : Ask) → member (ask_byte a) asks ≡ true
unfolding member
ask_byte_lem Read = refl
ask_byte_lem Write = refl
ask_byte_lem Increment = refl
ask_byte_lem Update = refl

module _ (r : Request) (a : Ask) (e : letter_of r.kind ≡ Some (Asks a)) where
  -- so the byte of a request that asks is in that list, and in each of the longer ones
  pub ask_listed : AsksForCell r
  ask_listed = listed r (Asks a) asks e (ask_byte_lem a)

  pub ask_with_c : IsOneOf r with_c
  ask_with_c = member_more 99 asks r.kind ask_listed

  pub ask_with_ct : IsOneOf r with_ct
  ask_with_ct = member_more 99 (116 ∷ asks) r.kind (member_more 116 asks r.kind ask_listed)

  pub ask_with_cat : IsOneOf r with_cat
  ask_with_cat = member_more 99 (97 ∷ 116 ∷ asks) r.kind (member_more 97 (116 ∷ asks) r.kind (member_more 116 asks r.kind ask_listed))

module _ {S : Type 0} (due : Option Letter → S → ℕ → Option Refusal) where
  -- what is due for every byte of a list is due for a request with one of them
  pub by_bytes : (r : Request) {s t : S} → s ≡ t → (bytes : List ℕ) (why : Refusal) → map (λ b. due (letter_of b) t r.cell) bytes ≡ map (λ b. Some why) bytes → IsOneOf r bytes → due (letter_of r.kind) s r.cell ≡ Some why
  by_bytes r {t = t} q bytes why all m = ap (λ x. due (letter_of r.kind) x r.cell) q ∙ same_on (λ b. due (letter_of b) t r.cell) (λ b. Some why) bytes all r.kind m

  -- for two asks of a cell by one job the same is due, if the table does not tell their bytes apart
  pub same_asks : ((s : S) (c : ℕ) → map (λ b. due (letter_of b) s c) asks ≡ map (λ b. due (Some (Asks Read)) s c) asks) → (does : ℕ → S) (r t : Request) → AsksForCell r → AsksForCell t → r.job ≡ t.job → r.cell ≡ t.cell →
      due (letter_of r.kind) (does r.job) r.cell ≡ due (letter_of t.kind) (does t.job) t.cell
  same_asks all does r t m n j c = as_read r m ∙ ap₂ (λ x y. due (Some (Asks Read)) (does x) y) j c ∙ sym (as_read t n)
    where
      as_read : (q : Request) → AsksForCell q → due (letter_of q.kind) (does q.job) q.cell ≡ due (Some (Asks Read)) (does q.job) q.cell
      as_read q m = same_on (λ b. due (letter_of b) (does q.job) q.cell) (λ b. due (Some (Asks Read)) (does q.job) q.cell) asks (all (does q.job) q.cell) q.kind m
