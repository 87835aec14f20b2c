-- The place that the record writer tells lies within the buffer.
-- Assumes nothing.
use Rattle.std.proofs.Common.{◌≡◌, ℕ, ◌≤◌, List, length, Result, Ok, sym, ◌∙◌}
use Rattle.terms.specs.declared.refusals.Refusal.{Refusal}
use Rattle.text_rules.specs.Records.{told}
use Rattle.text_rules.proofs.WriterLaws.{next_told}

-- a place that is told is no further than the buffer's end
pub placed : (b : List ℕ) (at n : ℕ) (bs : List ℕ) (w : Result ℕ Refusal) → w ≡ told b at bs → w ≡ Ok n → n ≤ length b
placed b at n bs w e h = (next_told b at bs n (sym e ∙ h)).1
