-- A bad line by the table and in the paper's words: it is refused with 9, at the field at fault, exactly if it is not a good line (01, Lines: all else is refusal 9; 02, No. 5).
-- Assumes nothing.
use Rattle.std.specs.Prelude.{Some, Err, Ok}
use Prim.Native.Nat.{ℕ, ◌≤◌}
use mathlib.Core.Path.{◌≡◌, refl, sym, ◌∙◌}
use mathlib.Core.Logic.{◌↔◌}
use mathlib.Core.List.{List}
use native.Mathlib.Omega.{arith}
use borrow.Author.Tests.{ne_eqb}
use Rattle.laws.specs.Lists.{first_of}
use Rattle.terms.specs.declared.letters.Letter.{Letter}
use Rattle.terms.specs.declared.refusals.Field.{Field}
use Rattle.terms.specs.declared.refusals.Field.TheVariants.{First, Second, Third, Fourth}
use Rattle.terms.specs.declared.refusals.Refusal.TheVariants.{BadLine}
use Rattle.terms.specs.Letters.{of_histories}
use Rattle.terms.specs.Refusals.{field_number}
use Rattle.text_rules.specs.FieldFaults.{AtFault}
use Rattle.text_rules.specs.Split.{lines_of}
use Rattle.text_rules.proofs.FieldFaults.{field_exactly}
use Rattle.judge_rules.specs.HistoryText.{readings_of, line_at}
use Rattle.judge_rules.specs.LineTable.{reading_at, holds, order, table_says}
use Rattle.judge_rules.specs.AsWorded.{LineIs, RefusedAs}
use Rattle.judge_rules.specs.AsWorded.RefusedAs.{too_many, bad, outside, above, over}
use Rattle.judge_rules.proofs.Readings.{reading_at_lem}
use Rattle.judge_rules.proofs.OverBefore.{good_at, at_good}
use Rattle.text_rules.specs.Lines.{Reading, good}

-- for a line up to 4,096 that reads as bad, the table says 9, at the field that the reader tells
pub bad_says : (n : ℕ) (before : List Reading) (at : Field) → n ≤ 4_096 → table_says n before (Err at) ≡ Some (BadLine at)
unfolding table_says first_of holds order
bad_says n before First h = rw (ne_eqb n 4_097 (omega arith))
bad_says n before Second h = rw (ne_eqb n 4_097 (omega arith))
bad_says n before Third h = rw (ne_eqb n 4_097 (omega arith))
bad_says n before Fourth h = rw (ne_eqb n 4_097 (omega arith))

module _ (text : List ℕ) (n : ℕ) where
  -- the field at fault of a line that reads as bad is the paper's
  pub bad_at_lem : (at : Field) → reading_at (readings_of text) n ≡ Err at → AtFault of_histories (line_at (lines_of text) n) at
  bad_at_lem at e = (field_exactly of_histories (line_at (lines_of text) n) at).0 (sym (reading_at_lem text n) ∙ e)

  -- and a line with a field at fault reads as bad there
  pub at_bad : (at : Field) → AtFault of_histories (line_at (lines_of text) n) at → reading_at (readings_of text) n ≡ Err at
  at_bad at f = reading_at_lem text n ∙ (field_exactly of_histories (line_at (lines_of text) n) at).1 f

  -- a line that is refused with 9 is one of the first 4,096, and the field told is at fault
  pub nine_fault : {k m : ℕ} → RefusedAs (lines_of text) n k m → k ≡ 9 → (n ≤ 4_096) × (at : Field) × (m ≡ field_number at) × AtFault of_histories (line_at (lines_of text) n) at
  nine_fault (too_many e) q = absurd (omega arith)
  nine_fault (bad h at b) q = (h, at, refl, b)
  nine_fault (outside l job cell h g o) q = absurd (omega arith)
  nine_fault (above l job cell h g a b c) q = absurd (omega arith)
  nine_fault (over l job cell h g a b c o) q = absurd (omega arith)

  -- a line that is not a good line has a field at fault
  some_field : ((l : Letter) (job cell : ℕ) → LineIs (lines_of text) n l job cell → ⊥) → (r : Reading) → reading_at (readings_of text) n ≡ r → (at : Field) × AtFault of_histories (line_at (lines_of text) n) at
  some_field other (Err at) e = (at, bad_at_lem at e)
  some_field other (Ok line) e = absurd (other line.letter line.job line.cell (good_at text n line.letter line.job line.cell e))

  -- NINE: a line is refused with 9, at one of its fields, exactly if it is one of the first 4,096 and not a good line (01, Lines: all else is refusal 9)
  pub nine_exactly : ((field : ℕ) × RefusedAs (lines_of text) n 9 field) ↔ ((n ≤ 4_096) × ((l : Letter) (job cell : ℕ) → LineIs (lines_of text) n l job cell → ⊥))
  nine_exactly = (
    λ r.
        let f = nine_fault r.1 refl in
        (f.0, λ l job cell g. let z : Err f.1 ≡ good l job cell = sym (at_bad f.1 f.3) ∙ at_good text n l job cell g in let y : ◌≡◌ {A = ℕ} 0 1 = cc in omega arith),
    λ p. let f = some_field p.1 (reading_at (readings_of text) n) refl in (field_number f.0, bad p.0 f.0 f.1),
  )
