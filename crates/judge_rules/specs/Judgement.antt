-- The whole judge: what it says of a text and an order buffer, and what it leaves in the buffer (01, The judge's rules; 01, Refusals by number).
use Rattle.std.specs.Prelude.{ℕ, List, [], ◌∷◌, ltb, length, Option, None, Some}
use Rattle.laws.specs.Choice.{pick}
use Rattle.laws.specs.Lists.{filled}
use Rattle.terms.specs.declared.refusals.Refusal.TheVariants.{ShortOrder}
use Rattle.terms.specs.Refusals.{number_of, field_of}
use Rattle.terms.specs.Limits.{judged_jobs}
use Rattle.conflict.specs.History.{History}
use Rattle.conflict.specs.Dirty.{ReadOf, dirty_of}
use Rattle.text_rules.specs.Split.{lines_of, joined}
use Rattle.judge_rules.specs.declared.verdict.Verdict.{Verdict}
use Rattle.judge_rules.specs.declared.verdict.Verdict.TheVariants.{Orderly, Knot, Dirty, No}
use Rattle.judge_rules.specs.Judged.{Finding, orderly, knotted, finding_of}
use Rattle.judge_rules.specs.HistoryText.{readings_of, line_at, Faulty, first_faulty, events_in, bare}
use Rattle.judge_rules.specs.LineTable.{lines_before}

-- what is said, what the buffer then holds, and the line handed back
pub record Judgement : Type 0 where
  pub said : Verdict
  pub order : List ℕ
  pub line : List ℕ

-- the verdict for the order or the knot that is found: its length is told, its jobs fill the first places of the buffer and the rest stay, and no line is handed back (01, The judge's rules)
unfoldable pub say_finding : List ℕ → Finding → Judgement
say_finding buffer (orderly order) = record { said = Orderly (length order); order = filled order buffer; line = [] }
say_finding buffer (knotted js) = record { said = Knot (length js); order = filled js buffer; line = [] }

-- the verdict on a faultless history: a dirty read, if there is one, is told before orderly or knot, and reader and writer fill the first two places (02, No. 2)
unfoldable pub say_history : List ℕ → History → Option ReadOf → Judgement
say_history buffer h None = say_finding buffer (finding_of h)
say_history buffer h (Some d) = record { said = Dirty d.reader d.writer; order = filled (d.reader ∷ d.writer ∷ []) buffer; line = [] }

-- a faulty line is handed back without its newline, with its number and refusal, and the buffer stays; otherwise the verdict on the history that the lines say
unfoldable pub say_lines : List ℕ → List ℕ → Option Faulty → Judgement
say_lines buffer text None = say_history buffer (events_in (readings_of text)) (dirty_of (events_in (readings_of text)))
say_lines buffer text (Some f) = record { said = No f.number f.why; order = buffer; line = bare (line_at (lines_of text) f.number) }

-- the judge: 14 first, with line number 0; then the lines in order (01, Refusals by number)
unfoldable pub judgement_of : List ℕ → List ℕ → Judgement
judgement_of text buffer =
    pick (ltb (length buffer) judged_jobs) (record { said = No 0 ShortOrder; order = buffer; line = [] })
    (say_lines buffer text (first_faulty 1 [] (readings_of text)))

-- where the part handed back starts in the text: with a refusal of a line, after all lines before it; in all other answers, and for 14, whose line number is 0,
-- at the text's start (01, Lines: as it stands in the caller's text)
unfoldable pub line_from : List ℕ → Verdict → ℕ
line_from text (Orderly n) = 0
line_from text (Knot n) = 0
line_from text (Dirty reader writer) = 0
line_from text (No line why) = length (joined (lines_before (lines_of text) line))

-- the answer in four numbers: 0 orderly and 1 knot with the length, 2 a refusal with its number, its line number and the field at fault, 3 dirty with reader and writer;
-- the fourth is 0 except for refusal 9 (02, No. 5)
unfoldable pub in_numbers : Verdict → List ℕ
in_numbers (Orderly n) = 0 ∷ n ∷ 0 ∷ 0 ∷ []
in_numbers (Knot n) = 1 ∷ n ∷ 0 ∷ 0 ∷ []
in_numbers (Dirty reader writer) = 3 ∷ reader ∷ writer ∷ 0 ∷ []
in_numbers (No line why) = 2 ∷ number_of why ∷ line ∷ field_of why ∷ []
