-- A line is faultless by the table exactly if none of the rows holds for it (01, Refusals by number).
-- Assumes nothing.
use Rattle.std.specs.Prelude.{Option, None, Some}
use Prim.Native.Nat.{ℕ}
use mathlib.Core.Path.{◌≡◌, refl, sym, ◌∙◌}
use mathlib.Core.Bool.{Bool, true, false}
use mathlib.Core.List.{List}
use native.Mathlib.Omega.{arith}
use borrow.Author.Tests.{eqb-true}
use Rattle.std.specs.Prelude.{Err, Ok}
use Rattle.laws.specs.Choice.{pick, not_both}
use Rattle.laws.specs.Lists.{first_of}
use Rattle.terms.specs.declared.refusals.Field.{Field}
use Rattle.terms.specs.declared.refusals.Field.TheVariants.{First, Second, Third, Fourth}
use Rattle.terms.specs.declared.refusals.Refusal.{Refusal}
use Rattle.terms.specs.declared.refusals.Refusal.TheVariants.{BadLine, CellAbove, TooManyLines, JobOutside, Ended}
use Rattle.terms.specs.Refusals.{field_number}
use Rattle.terms.proofs.Numbers.{same_number}
use Rattle.judge_rules.specs.LineTable.{too_many, is_bad, outside, above, over_already, holds, order, table_says}
use Rattle.text_rules.specs.Lines.{Reading}

-- if no row from here on holds, this row does not, and no later one does
pick_none : (b : Bool) (x : Refusal) (rest : Option Refusal) → pick b (Some x) rest ≡ None → (b ≡ false) × (rest ≡ None)
pick_none true x rest e = let z : ◌≡◌ {A = ℕ} 0 1 = cc in absurd (omega arith)
pick_none false x rest e = (refl, e)

-- a line that is bad at none of the four fields is not bad
bad_nowhere : (r : Reading) → is_bad First r ≡ false → is_bad Second r ≡ false → is_bad Third r ≡ false → is_bad Fourth r ≡ false → (at : Field) → is_bad at r ≡ false
bad_nowhere r a b c d First = a
bad_nowhere r a b c d Second = b
bad_nowhere r a b c d Third = c
bad_nowhere r a b c d Fourth = d

-- AT ONE FIELD: at most one of the four rows of 9 holds for a line (02, No. 5)
pub bad_at_one : (f g : Field) (r : Reading) → is_bad f r ≡ true → is_bad g r ≡ true → f ≡ g
bad_at_one f g (Ok line) a b = not_both a refl
bad_at_one f g (Err at) a b =
    let q : field_number f ≡ field_number g = eqb-true (field_number f) (field_number at) a ∙ sym (eqb-true (field_number g) (field_number at) b) in
    let e : BadLine f ≡ BadLine g = same_number (BadLine f) (BadLine g) refl q in
    cc

-- no row holds for a faultless line
pub record Clean (n : ℕ) (before : List Reading) (r : Reading) : Type 0 where
  pub few : too_many n ≡ false
  pub good : (at : Field) → is_bad at r ≡ false
  pub inside : outside r ≡ false
  pub below : above r ≡ false
  pub open' : over_already before r ≡ false

-- if the table says nothing, no row holds
pub clean_line : (n : ℕ) (before : List Reading) (r : Reading) → table_says n before r ≡ None → Clean n before r
unfolding table_says first_of holds order
clean_line n before r e =
    let p = pick_none (too_many n) TooManyLines _ e in
    let q = pick_none (is_bad First r) (BadLine First) _ p.1 in
    let v = pick_none (is_bad Second r) (BadLine Second) _ q.1 in
    let w = pick_none (is_bad Third r) (BadLine Third) _ v.1 in
    let x = pick_none (is_bad Fourth r) (BadLine Fourth) _ w.1 in
    let s = pick_none (outside r) JobOutside _ x.1 in
    let t = pick_none (above r) CellAbove _ s.1 in
    let u = pick_none (over_already before r) Ended _ t.1 in
    record { few = p.0; good = bad_nowhere r q.0 v.0 w.0 x.0; inside = s.0; below = t.0; open' = u.0 }

-- if no row holds, the table says nothing
pub no_row : (f : Refusal → Bool) → f TooManyLines ≡ false → ((at : Field) → f (BadLine at) ≡ false) → f JobOutside ≡ false → f CellAbove ≡ false → f Ended ≡ false → first_of f order ≡ None
unfolding first_of order
no_row f a b c d e = rw (a, b First, b Second, b Third, b Fourth, c, d, e)

-- and so for a line for which no row holds
pub line_clean : (n : ℕ) (before : List Reading) (r : Reading) → Clean n before r → table_says n before r ≡ None
unfolding table_says holds
line_clean n before r c = no_row (holds n before r) c.few c.good c.inside c.below c.open'
