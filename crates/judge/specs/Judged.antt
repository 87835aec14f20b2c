-- What the judge finds before it is handed out: the judgement, and the place in the text of the line handed back (01, Lines).
use Rattle.std.specs.Prelude.{ℕ, ◌+◌, ◌^◌, ◌≤◌, ◌<◌, ◌≡◌, List, length}
use Rattle.text_rules.specs.Split.{part}
use Rattle.judge_rules.specs.declared.verdict.Verdict.{Verdict}
use Rattle.judge_rules.specs.declared.verdict.Verdict.TheVariants.{Orderly, Knot, Dirty, No}
use Rattle.judge_rules.specs.Judgement.{judgement_of, line_from}
use Rattle.judge.specs.declared.entry.Judged.{Judged}

-- the numbers of a verdict fit 32 bits each; reader, writer, a refusal's number and its field are bytes already
abbrev pub Small : Verdict → Type 0
Small (Orderly n) = n < 2 ^ 32
Small (Knot n) = n < 2 ^ 32
Small (Dirty reader writer) = Unit {0}
Small (No line why) = line < 2 ^ 32

-- the result for a text and a buffer is the judgement, and the line handed back stands in the text
pub record JudgedAs (text before after : List ℕ) (r : Judged) : Type 0 where
  pub said_is : r.said ≡ (judgement_of text before).said
  pub order_is : after ≡ (judgement_of text before).order
  pub ordered : r.place.start ≤ r.place.end
  pub within : r.place.end ≤ length text
  pub starts : r.place.start ≡ line_from text r.said
  pub place : part text r.place.start r.place.end ≡ (judgement_of text before).line

-- where in memory the part handed back starts: in the lent text's block, as far from its first byte as the line stands in the text (01, Lines)
abbrev pub line_place : ℕ × ℕ → List ℕ → List ℕ → ℕ × ℕ
line_place place text buffer = (place.0, place.1 + line_from text (judgement_of text buffer).said)
