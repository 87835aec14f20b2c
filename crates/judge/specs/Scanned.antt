-- What scanning a history text tells: the history as three arrays keep it, or the first faulty line (01, Refusals by number).
use Rattle.std.specs.Prelude.{ℕ, ◌-◌, ◌≤◌, ◌<◌, ◌≡◌, List, [], eqb, length, get_or, None, Some, Result, Ok, Err}
use Rattle.std.proofs.Math.ListN.{set}
use Rattle.laws.specs.Choice.{pick}
use Rattle.terms.specs.declared.refusals.Refusal.{Refusal}
use Rattle.terms.specs.Words.{newline}
use Rattle.terms.specs.Limits.{judged_lines}
use Rattle.text_rules.specs.Split.{lines_of, part, joined}
use Rattle.judge_rules.specs.HistoryText.{readings_of, line_at, first_faulty, events_in, bare}
use Rattle.judge_rules.specs.LineTable.{lines_before}
use Rattle.judge_rules.specs.Arrays.{history_by}
use Rattle.judge.specs.declared.lines.KeptLine.{KeptLine}
use Rattle.judge.specs.declared.lines.KeptLines.{KeptLines}
use Rattle.judge.specs.declared.scan.Faulty.{Faulty}

-- where a line that ends before this place ends without its newline
unfoldable pub bare_end : List ℕ → ℕ → ℕ
bare_end text to = pick (eqb (get_or text (to - 1) 0) newline) (to - 1) to

-- a line is kept behind the first n
abbrev pub WithLine : KeptLines → ℕ → KeptLine → KeptLines → Type 0
WithLine before n line after = (after.codes ≡ set before.codes n line.code) × (after.jobs ≡ set before.jobs n line.job) × (after.cells ≡ set before.cells n line.cell)

-- no line is faulty, and the arrays keep what the lines say
pub record Clean (text codes jobs cells : List ℕ) (n : ℕ) : Type 0 where
  pub faultless : first_faulty 1 [] (readings_of text) ≡ None
  pub within : n ≤ judged_lines
  pub says : history_by codes jobs cells n ≡ events_in (readings_of text)
  pub named : (p : ℕ) → p < n → get_or jobs p 0 ≡ 0 → ⊥

-- the first faulty line, with its place in the text
pub record Spoilt (text : List ℕ) (number : ℕ) (why : Refusal) (from to : ℕ) : Type 0 where
  pub first : first_faulty 1 [] (readings_of text) ≡ Some (record { number = number; why = why })
  pub ordered : from ≤ to
  pub within : to ≤ length text
  pub place : part text from to ≡ bare (line_at (lines_of text) number)
  pub behind : from ≡ length (joined (lines_before (lines_of text) number))

-- what is told of a text, with the lines kept
abbrev pub ScannedAs : List ℕ → KeptLines → Result ℕ Faulty → Type 0
ScannedAs text lines (Ok n) = Clean text lines.codes lines.jobs lines.cells n
ScannedAs text lines (Err f) = Spoilt text f.line f.why f.place.start f.place.end
