-- A line cut off: a fixed number of its first bytes decides how it reads, whatever follows; sixteen for a line, counted field by field (01, Lines; 02, No. 5).
-- Assumes nothing.
use Rattle.std.specs.Prelude.{Option, None, Some}
use Prim.Native.Nat.{ℕ, suc, ◌+◌, ◌^◌, ◌≤◌, ◌<◌}
use mathlib.Core.Path.{◌≡◌, refl, sym, ap}
use mathlib.Core.Bool.{Bool, true, false}
use mathlib.Core.List.{List, [], ◌∷◌, ◌++◌}
use native.Mathlib.Omega.{arith}
use lib.Dec.{eqb}
use borrow.Author.Tests.{eqb-true}
use lib.ListN.{length, length-append}
use Rattle.laws.specs.Choice.{by_test, not_both}
use Rattle.terms.specs.declared.letters.Letter.{Letter}
use Rattle.terms.specs.declared.refusals.Field.{Field}
use Rattle.terms.specs.declared.refusals.Field.TheVariants.{Second, Third}
use Rattle.terms.specs.Letters.{has_job, has_cell}
use Rattle.terms.specs.Limits.{last_number}
use Rattle.terms.specs.Words.{tab, newline}
use Rattle.text_rules.specs.Lines.{last_cell, parts, field_ahead, after_field, value_from, is_number, number_then, ending, cell_part, job_part, letter_in, letter_part, read_line, Reading}
use Rattle.text_rules.specs.Split.{no_newline}
use Rattle.text_rules.proofs.DigitLaws.{digits_at_most}
use Rattle.text_rules.proofs.FieldParts.{field_then}
use Rattle.text_rules.proofs.WrittenFields.{is_number_lem}

-- a list with a byte in front is not empty
not_nil : {P : Type 0} {b : ℕ} {t : List ℕ} → b ∷ t ≡ [] → P
not_nil e = absurd (omega (arith, ap length e))

-- a field that goes on to the end of a text goes on into what follows
field_goes_on : (t q : List ℕ) → after_field t ≡ [] → (field_ahead t ≡ t) × (field_ahead (t ++ q) ≡ t ++ field_ahead q)
unfolding field_ahead after_field
field_goes_on [] q e = (refl, refl)
field_goes_on (b ∷ t) q e =
    by_test (parts b) (λ p. not_nil (rw p at e))
    (λ p. let g = field_goes_on t q (rw p at e) in (rw p (ap (λ u. b ∷ u) g.0), rw p (ap (λ u. b ∷ u) g.1)))

-- a field that ends within a text is the same whatever follows
field_same : (t q : List ℕ) (x : ℕ) (v : List ℕ) → after_field t ≡ x ∷ v → (field_ahead (t ++ q) ≡ field_ahead t) × (after_field (t ++ q) ≡ (x ∷ v) ++ q)
unfolding field_ahead after_field
field_same [] q x v e = not_nil (sym e)
field_same (b ∷ t) q x v e =
    by_test (parts b) (λ p. (rw p, rw p (ap (λ u. u ++ q) (rw p at e))))
    (λ p. let g = field_same t q x v (rw p at e) in (rw p (ap (λ u. b ∷ u) g.0), rw p g.1))

-- what follows a field has no newline if the text has none
plain_after : (t : List ℕ) → no_newline t ≡ true → no_newline (after_field t) ≡ true
unfolding no_newline after_field
plain_after [] h = refl
plain_after (b ∷ t) h =
    by_test (parts b) (λ p. rw p h)
    (λ p. by_test (eqb b newline) (λ e. not_both (rw e at h) refl) (λ e. rw p (plain_after t (rw e at h))))

-- a field and what follows it are as long as the text
parts_length : (t : List ℕ) → length (field_ahead t) + length (after_field t) ≡ length t
parts_length t = omega (arith, length-append (field_ahead t) (after_field t), ap length (field_then t))

-- a field of too many digits is not a number that is small enough
long_no_number : (d most : ℕ) (f : List ℕ) → most < 10 ^ suc d → suc d < length f → is_number most f ≡ false
long_no_number d most f h g =
    by_test (is_number most f)
    (λ n. let i = is_number_lem most f n in let v = i.1 in absurd (omega (arith, ap length i.0, digits_at_most d (value_from 0 f) (omega arith))))
    (λ n. n)

-- a reading of a text is decided by this many of its bytes, if none is a newline, whatever follows
abbrev Decided : ℕ → (List ℕ → Reading) → Type 0
Decided n f = (t q : List ℕ) → no_newline t ≡ true → n ≤ length t → f (t ++ q) ≡ f t

-- the end of a line
ending_decided : (good : Reading) → Decided 1 (λ t. ending t good)
unfolding ending no_newline
ending_decided good [] q h l = absurd (omega arith)
ending_decided good (b ∷ []) [] h l = refl
ending_decided good (b ∷ []) (c ∷ q) h l = by_test (eqb b newline) (λ e. not_both (rw e at h) refl) (λ e. rw e)
ending_decided good (b ∷ c ∷ t) q h l = refl

-- the number field of a text, whether its field ends within the text or goes on to its end
module _ (d most n : ℕ) (at : Field) (few : most < 10 ^ suc d) (rest : ℕ → List ℕ → Reading) (goes_on : (v : ℕ) → Decided (suc n) (rest v)) (t q : List ℕ) (plain : no_newline t ≡ true) (long : n + d + 2 ≤ length t) where
  -- the field goes on: it is too long
  number_long : after_field t ≡ [] → number_then most at (tab ∷ t ++ q) rest ≡ number_then most at (tab ∷ t) rest
  unfolding number_then
  number_long e =
      let g = field_goes_on t q e in
      let a : is_number most (t ++ field_ahead q) ≡ false = long_no_number d most _ few (omega (arith, length-append t (field_ahead q))) in
      let b : is_number most t ≡ false = long_no_number d most t few (omega arith) in
      rw (g.0, g.1, a, b)

  -- the field ends: it is the same, and what follows is long enough if it is a number
  number_same : (x : ℕ) (v : List ℕ) → after_field t ≡ x ∷ v → number_then most at (tab ∷ t ++ q) rest ≡ number_then most at (tab ∷ t) rest
  unfolding number_then
  number_same x v e =
      let g = field_same t q x v e in
      by_test (is_number most (field_ahead t))
      (λ k.
      let i = is_number_lem most (field_ahead t) k in
      let small = i.1 in
      let most-digits = digits_at_most d (value_from 0 (field_ahead t)) (omega arith) in
      let left : suc n ≤ length (x ∷ v) = omega (arith, parts_length t, ap length i.0, ap length e) in
      rw (g.0, g.1, e, k) (goes_on (value_from 0 (field_ahead t)) (x ∷ v) q (rw e at (plain_after t plain)) left))
      (λ k. rw (g.0, k))

  -- in both cases
  number_tabbed : (u : List ℕ) → after_field t ≡ u → number_then most at (tab ∷ t ++ q) rest ≡ number_then most at (tab ∷ t) rest
  number_tabbed [] e = number_long e
  number_tabbed (x ∷ v) e = number_same x v e

-- a number field of at most this many digits, its tab, and what the rest needs
number_decided : (d most n : ℕ) (at : Field) → most < 10 ^ suc d → (rest : ℕ → List ℕ → Reading) → ((v : ℕ) → Decided (suc n) (rest v)) → Decided (n + d + 3) (λ t. number_then most at t rest)
unfolding number_then no_newline
number_decided d most n at few rest goes_on [] q h l = absurd (omega arith)
number_decided d most n at few rest goes_on (b ∷ t) q h l =
    by_test (eqb b tab)
    (λ e. rw (eqb-true b tab e) (number_tabbed d most n at few rest goes_on t q (rw (eqb-true b tab e) at h) (omega arith) (after_field t) refl))
    (λ e. rw e)

-- a cell and the end: four bytes
cell_decided : (l : Letter) (job : ℕ) → Decided 4 (cell_part l job)
unfolding cell_part
cell_decided l job t q h g =
    by_test (has_cell l)
    (λ e. rw e (number_decided 1 last_cell 0 Third (omega arith) _ (λ cell. ending_decided _) t q h g))
    (λ e. rw e (ending_decided _ t q h (omega arith)))

-- a job and what follows it: fifteen
job_decided : (l : Letter) → Decided 15 (job_part l)
unfolding job_part
job_decided l t q h g =
    by_test (has_job l)
    (λ e. rw e (number_decided 9 last_number 3 Second (omega arith) (cell_part l) (cell_decided l) t q h g))
    (λ e. rw e (cell_decided l 0 t q h (omega arith)))

-- a field of two bytes is not a letter
long_no_letter : (f : List ℕ) → 2 ≤ length f → letter_in f ≡ None
unfolding letter_in
long_no_letter [] h = refl
long_no_letter (b ∷ []) h = absurd (omega arith)
long_no_letter (b ∷ c ∷ f) h = refl

-- a letter has one byte
letter_one : (f : List ℕ) (l : Letter) → letter_in f ≡ Some l → length f ≤ 1
unfolding letter_in
letter_one [] l e = omega arith
letter_one (b ∷ []) l e = omega arith
letter_one (b ∷ c ∷ f) l e = let z : ◌≡◌ {A = ℕ} 0 1 = cc in absurd (omega arith)

-- a line is decided by sixteen bytes
pub line_decided : (which : Letter → Bool) → Decided 16 (read_line which)
unfolding read_line letter_part
line_decided which t q h g = go (after_field t) refl
  where
    by_letter : (n : Option Letter) (x : ℕ) (v : List ℕ) → after_field t ≡ x ∷ v → letter_in (field_ahead t) ≡ n → letter_part which n ((x ∷ v) ++ q) ≡ letter_part which n (x ∷ v)
    by_letter None x v e k = refl
    by_letter (Some l) x v e k =
        let long : 15 ≤ length (x ∷ v) = omega (arith, parts_length t, ap length e, letter_one (field_ahead t) l k) in
        by_test (which l) (λ w. rw w (job_decided l (x ∷ v) q (rw e at (plain_after t h)) long)) (λ w. rw w)

    go : (u : List ℕ) → after_field t ≡ u → letter_part which (letter_in (field_ahead (t ++ q))) (after_field (t ++ q)) ≡ letter_part which (letter_in (field_ahead t)) (after_field t)
    go [] e =
        let f = field_goes_on t q e in
        let a = long_no_letter (t ++ field_ahead q) (omega (arith, length-append t (field_ahead q))) in
        rw (f.0, f.1, a, long_no_letter t (omega arith))
    go (x ∷ v) e =
        let f = field_same t q x v e in
        rw (f.0, f.1, e) (by_letter (letter_in (field_ahead t)) x v e refl)
