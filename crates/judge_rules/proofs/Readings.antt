-- How the lines of a text read: one reading for each line, in order, as the reader reads that line's bytes (01, Lines).
-- Assumes nothing.
use Prim.Native.Nat.{ℕ, ◌-◌, ◌+◌, ◌<◌}
use mathlib.Core.Path.{◌≡◌, ap}
use mathlib.Core.List.{List, [], ◌∷◌, map}
use lib.ListN.{length, drop, length-map, get_or-map}
use Rattle.terms.specs.Letters.{of_histories}
use Rattle.text_rules.specs.Lines.{field_ahead, letter_in, letter_part, read_line}
use Rattle.text_rules.specs.Split.{lines_of, part, used}
use Rattle.text_rules.proofs.TextLines.{next_line}
use Rattle.judge_rules.specs.HistoryText.{readings_of, line_at}
use Rattle.judge_rules.specs.LineTable.{reading_at}

-- there are as many readings as lines
pub readings_length : (text : List ℕ) → length (readings_of text) ≡ length (lines_of text)
unfolding readings_of
readings_length text = length-map (lines_of text) (read_line of_histories)

-- each is what the reader makes of its line
pub reading_at_lem : (text : List ℕ) (n : ℕ) → reading_at (readings_of text) n ≡ read_line of_histories (line_at (lines_of text) n)
unfolding readings_of read_line letter_part letter_in field_ahead
reading_at_lem text n = get_or-map (read_line of_histories) (lines_of text) (n - 1) []

-- the readings from a place of a text, for a caller that goes from line end to line end
pub readings_next : (text : List ℕ) (from to : ℕ) → from < length text → to ≡ from + used (drop from text) →
    readings_of (drop from text) ≡ read_line of_histories (part text from to) ∷ readings_of (drop to text)
unfolding readings_of
readings_next text from to h e = ap (map (read_line of_histories)) (next_line text from to h e)
