-- From the scan and the decision to the judgement: a short buffer, a faultless text, a faulty line.
-- Assumes nothing.
use Rattle.std.specs.Prelude.{Option, None, Some, Result, Ok, Err}
use Prim.Native.Nat.{ℕ, ◌+◌, ◌-◌, ◌≤◌, ◌<◌}
use mathlib.Core.Path.{◌≡◌, refl, sym, ap, ◌∙◌, subst}
use mathlib.Core.List.{List, []}
use native.Mathlib.Omega.{arith}
use borrow.Author.Tests.{lt-ltb, le-ltb}
use lib.ListN.{length, drop, length-drop}
use lib.Seq.{length-take-le}
use Rattle.terms.specs.declared.refusals.Refusal.{Refusal}
use Rattle.terms.specs.declared.refusals.Refusal.TheVariants.{ShortOrder}
use Rattle.terms.specs.Limits.{judged_jobs}
use Rattle.text_rules.specs.Split.{part, joined}
use Rattle.conflict.specs.History.{History}
use Rattle.conflict.specs.Dirty.{ReadOf, dirty_of}
use Rattle.judge_rules.specs.declared.verdict.Verdict.{Verdict}
use Rattle.judge_rules.specs.declared.verdict.Verdict.TheVariants.{No}
use Rattle.judge_rules.specs.Judged.{Finding, orderly, knotted, finding_of}
use Rattle.judge_rules.specs.Arrays.{history_by}
use Rattle.judge_rules.specs.HistoryText.{readings_of, first_faulty}
use Rattle.judge_rules.specs.Judgement.{Judgement, say_finding, say_history, say_lines, judgement_of, line_from}
use Rattle.judge.specs.declared.lines.KeptLines.{KeptLines}
use Rattle.judge.specs.declared.scan.Faulty.{Faulty}
use Rattle.judge.specs.declared.entry.Judged.{Judged}
use Rattle.judge.specs.Scanned.{Clean, Spoilt, ScannedAs}
use Rattle.judge.specs.Judged.{Small, JudgedAs, line_place}
use Rattle.judge.proofs.SmallNumbers.{judgement_small}

-- a buffer that is too short is refused first
short_judgement : (text buffer : List ℕ) → length buffer < judged_jobs → judgement_of text buffer ≡ record { said = No 0 ShortOrder; order = buffer; line = [] }
unfolding judgement_of
short_judgement text buffer h = rw (lt-ltb (length buffer) judged_jobs h)

-- for any other the lines decide
lines_judgement : (text buffer : List ℕ) → judged_jobs ≤ length buffer → judgement_of text buffer ≡ say_lines buffer text (first_faulty 1 [] (readings_of text))
unfolding judgement_of
lines_judgement text buffer h = rw (le-ltb (length buffer) judged_jobs h)

-- an order or a knot hands back no line, and its part is at the text's start
finding_no_line : (text buffer : List ℕ) (v : Finding) → ((say_finding buffer v).line ≡ []) × (0 ≡ line_from text (say_finding buffer v).said)
unfolding say_finding line_from
finding_no_line text buffer (orderly order) = (refl, refl)
finding_no_line text buffer (knotted js) = (refl, refl)

-- and so with every verdict
no_line : (text buffer : List ℕ) (h : History) (o : Option ReadOf) → ((say_history buffer h o).line ≡ []) × (0 ≡ line_from text (say_history buffer h o).said)
unfolding say_history line_from
no_line text buffer h None = finding_no_line text buffer (finding_of h)
no_line text buffer h (Some d) = (refl, refl)

-- the verdict on the history that arrays keep
abbrev pub said_of : List ℕ → List ℕ → List ℕ → List ℕ → ℕ → Judgement
said_of codes jobs cells buffer n = say_history buffer (history_by codes jobs cells n) (dirty_of (history_by codes jobs cells n))

-- a faultless text is judged by the history that is kept of it
clean_judgement : (text codes jobs cells buffer : List ℕ) (n : ℕ) → judged_jobs ≤ length buffer → Clean text codes jobs cells n →
    judgement_of text buffer ≡ said_of codes jobs cells buffer n
unfolding say_lines
clean_judgement text codes jobs cells buffer n h c =
    lines_judgement text buffer h ∙ rw (c.faultless, c.says)

-- a faulty line is told with its number and refusal
spoilt_judgement : (text buffer : List ℕ) (number : ℕ) (why : Refusal) (from to : ℕ) → judged_jobs ≤ length buffer → Spoilt text number why from to →
    judgement_of text buffer ≡ record { said = No number why; order = buffer; line = part text from to }
unfolding say_lines
spoilt_judgement text buffer number why from to h s =
    lines_judgement text buffer h ∙ rw (s.first, s.place)

-- the judge finds a short buffer
pub judged_short : (text buffer : List ℕ) → length buffer < judged_jobs → JudgedAs text buffer buffer (record { said = No 0 ShortOrder; place = record { start = 0; end = 0 } })
unfolding line_from joined
judged_short text buffer h =
    let e = short_judgement text buffer h in
    record {
      said_is = rw e;
      order_is = rw e;
      ordered = omega arith;
      within = omega arith;
      starts = refl;
      place = rw e;
    }

module _ (text : List ℕ) (lines : KeptLines) (buffer : List ℕ) (x : Result ℕ Faulty) (h : judged_jobs ≤ length buffer) (s : ScannedAs text lines x) where
  -- the judge decides a faultless text
  pub judged_clean : (n : ℕ) (said : Verdict) (after : List ℕ) → x ≡ Ok n →
      said ≡ (said_of lines.codes lines.jobs lines.cells buffer n).said → after ≡ (said_of lines.codes lines.jobs lines.cells buffer n).order →
      JudgedAs text buffer after (record { said = said; place = record { start = 0; end = 0 } })
  judged_clean n said after e p q =
      let j = clean_judgement text lines.codes lines.jobs lines.cells buffer n h (subst (ScannedAs text lines) e s) in
      let k = no_line text buffer (history_by lines.codes lines.jobs lines.cells n) (dirty_of (history_by lines.codes lines.jobs lines.cells n)) in
      record {
        said_is = rw j p;
        order_is = rw j q;
        ordered = omega arith;
        within = omega arith;
        starts = k.1 ∙ ap (line_from text) (sym p);
        place = rw j (sym k.0);
      }

  -- the judge finds a faulty line
  pub judged_faulty : (f : Faulty) → x ≡ Err f → JudgedAs text buffer buffer (record { said = No f.line f.why; place = f.place })
  unfolding line_from
  judged_faulty f e =
      let found : Spoilt text f.line f.why f.place.start f.place.end = subst (ScannedAs text lines) e s in
      let j = spoilt_judgement text buffer f.line f.why f.place.start f.place.end h found in
      record {
        said_is = rw j;
        order_is = rw j;
        ordered = found.ordered;
        within = found.within;
        starts = found.behind;
        place = rw j;
      }

-- what is found has small numbers
pub judged_small : (text before after : List ℕ) (r : Judged) → JudgedAs text before after r → Small r.said
judged_small text before after r j = subst Small (sym j.said_is) (judgement_small text before)

-- the part that is cut at the place found stands where the line handed back starts
pub part_starts : (place : ℕ × ℕ) (text before after : List ℕ) (r : Judged) → JudgedAs text before after r →
    (place.0, r.place.start + place.1) ≡ line_place place text before
part_starts place text before after r j =
    let e : r.place.start ≡ line_from text (judgement_of text before).said = j.starts ∙ ap (line_from text) j.said_is in
    ap (λ (o : ℕ). (place.0, o)) (omega arith)

-- what is told of the line's place is where the line handed back starts, and how many bytes it has
pub line_told : (text before after : List ℕ) (r : Judged) → JudgedAs text before after r →
    (r.place.start ≡ line_from text (judgement_of text before).said) × (r.place.end - r.place.start ≡ length (judgement_of text before).line)
line_told text before after r j =
    let ordered = j.ordered in
    let within = j.within in
    let rest = length-drop r.place.start text in
    let long : length (part text r.place.start r.place.end) ≡ r.place.end - r.place.start = length-take-le (r.place.end - r.place.start) (drop r.place.start text) (omega arith) in
    (j.starts ∙ ap (line_from text) j.said_is, sym long ∙ ap length j.place)
