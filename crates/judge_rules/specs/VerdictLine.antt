-- The verdict as a line of text; the program `verdict` from text to text; and that its line is one line, of known length (01, The judge's rules).
use Rattle.std.specs.Prelude.{ℕ, ◌+◌, ◌*◌, ◌≡◌, true, List, [], ◌∷◌, ◌++◌, ltb, length, take, replicate}
use Rattle.laws.specs.Choice.{pick}
use Rattle.terms.specs.declared.words.Word.TheVariants.{No, Orderly, Knot, Dirty}
use Rattle.terms.specs.declared.refusals.Refusal.TheVariants.{TooLong}
use Rattle.terms.specs.Refusals.{number_of, field_of}
use Rattle.terms.specs.Limits.{judged_bytes, judged_jobs}
use Rattle.terms.specs.Words.{newline}
use Rattle.text_rules.specs.Records.{word_line, given}
use Rattle.text_rules.specs.Split.{no_newline}
use Rattle.judge_rules.specs.declared.verdict.Verdict.{Verdict}
use Rattle.judge_rules.specs.declared.verdict.Verdict.TheVariants.{Orderly as is_orderly, Knot as is_knot, Dirty as is_dirty, No as is_refused}
use Rattle.judge_rules.specs.Judgement.{judgement_of}

-- the verdict as a line: the word and the jobs; dirty, reader, writer (02, No. 2); or no, line number, refusal, and for refusal 9 the field at fault (01, The judge's rules; 02, No. 5)
unfoldable pub say_line : Verdict → List ℕ → List ℕ
say_line (is_orderly n) order = word_line Orderly (take n order)
say_line (is_knot n) order = word_line Knot (take n order)
say_line (is_dirty reader writer) order = word_line Dirty (reader ∷ writer ∷ [])
say_line (is_refused line why) order = word_line No (line ∷ number_of why ∷ given (field_of why))

-- the verdict on a text with an order buffer of 255 places
unfoldable pub judged_line : List ℕ → List ℕ
judged_line text = let j = judgement_of text (replicate judged_jobs 0) in say_line j.said j.order

-- the program `verdict`: a text longer than 65,536 bytes is refused before anything else is looked at (01, The judge's rules)
unfoldable pub verdict_of : List ℕ → List ℕ
verdict_of text = let line = judged_line text in pick (ltb judged_bytes (length text)) (word_line No (0 ∷ number_of TooLong ∷ [])) line

-- the bytes are one line: they have one newline, and it stands at their end
pub record OneLine (bytes : List ℕ) : Type 0 where
  pub line : List ℕ
  pub ends : bytes ≡ line ++ newline ∷ []
  pub plain : no_newline line ≡ true

-- 1,028 bytes: seven of the longest word, four for each of 255 jobs (a tab and at most three digits), and the newline
abbrev pub line_limit : ℕ
line_limit = 7 + 4 * judged_jobs + 1
