-- `text::writer::put_field` meets its contract: a tab, then the number into the lent later part.
-- Assumes nothing.
use Rattle.std.proofs.Common.{◌≡◌, ◌≤◌, ℕ, Bool, true, List, [], ◌∷◌, length, set, arith, length-set, rules}
use Rattle.terms.specs.Words.{tab}
use Rattle.text_rules.specs.Records.{field}
use Rattle.text_rules.specs.Wrote.{Wrote}
use Rattle.text_rules.proofs.FieldLaws.{field_length, field_there}
use Rattle.text_rules.proofs.WroteLaws.{wrote_none, wrote_byte, wrote_more, lent_fits}
use Rattle.text.proofs.writer.put_field.Goals as goal

-- the tab stands at the first place
tabbed : (l : List ℕ) (there : Bool) (n : ℕ) → there ≡ true → length (field there n) ≤ length l → Wrote 0 1 (tab ∷ []) l (set l 0 tab)
tabbed l there n e g = let h = field_length there n e in wrote_byte tab (wrote_none (search rules)) (omega arith)

pub slice_bounds-put_number-count : goal.slice_bounds-put_number-count
slice_bounds-put_number-count c = rw length-set (omega (arith, field_length _ c.args.n c.if-there.true))

pub slice_bounds-put_number-start : goal.slice_bounds-put_number-start
slice_bounds-put_number-start c = rw length-set (omega (arith, field_length _ c.args.n c.if-there.true))

pub put_number-requires : goal.put_number-requires
put_number-requires c =
    let f = field_length _ c.args.n c.if-there.true in
    lent_fits {b = c.args.part.now} (tabbed _ _ _ c.if-there.true c.requires) (omega arith)

pub returns-then-there : goal.returns-then-there
returns-then-there c = rw (field_there _ _ c.if-there.true) (wrote_more (tabbed _ _ _ c.if-there.true c.requires) c.put_number.ensures)
