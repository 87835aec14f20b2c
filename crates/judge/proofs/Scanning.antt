-- Scanning a text line by line: what is left decides as the whole does, and the kept lines stand before what is left.
-- Assumes nothing.
use Rattle.std.specs.Prelude.{None, Some, Ok, Err}
use Prim.Native.Nat.{ℕ, ◌+◌, ◌-◌, ◌≤◌, ◌<◌}
use mathlib.Core.Path.{◌≡◌, refl, sym, ap, ◌∙◌}
use mathlib.Core.Bool.{Bool, false}
use mathlib.Core.List.{List, [], ◌∷◌, ◌++◌, append_assoc, append-nil}
use native.Mathlib.Numerals.{add-one}
use native.Mathlib.Omega.{arith}
use lib.ListN.{length, get_or, set, drop, replicate, length-set, length-drop, get_or-replicate, length-replicate, drop_of_length-le}
use lib.Seq.{length-take-le}
use Rattle.laws.specs.Lists.{member}
use Rattle.terms.specs.declared.refusals.Refusal.{Refusal}
use Rattle.terms.specs.Letters.{of_histories}
use Rattle.terms.specs.Limits.{judged_lines}
use Rattle.conflict.specs.declared.action.Event.{Event}
use Rattle.text_rules.specs.Lines.{read_line, Reading}
use Rattle.text_rules.specs.Split.{lines_of, used, part}
use Rattle.text_rules.proofs.Cutting.{used_within, used_some}
use Rattle.text_rules.proofs.TextLines.{next_line}
use Rattle.judge_rules.specs.HistoryText.{readings_of, line_fault, or_later, ended_after, first_faulty, event_of, events_in, bare}
use Rattle.judge_rules.specs.Arrays.{event_by, history_by}
use Rattle.judge_rules.proofs.Readings.{readings_next}
use Rattle.judge.specs.declared.lines.KeptLine.{KeptLine}
use Rattle.judge.specs.declared.lines.KeptLines.{KeptLines}
use Rattle.judge.specs.Looked.{Looked, ends_job, looked_at}
use Rattle.judge.specs.Scanned.{bare_end, WithLine, Clean, Spoilt}
use Rattle.judge.proofs.BareLine.{bare_place}
use Rattle.judge.proofs.PastLines.{Past, past_none, past_more, past_place, past_line_at}
use Rattle.judge.proofs.Flags.{Flagged}
use Rattle.judge.proofs.Looking.{refused_fault, kept_fault}
use Rattle.judge.proofs.Keeping.{kept_as}
use Rattle.judge.proofs.KeptArrays.{history_more, named_more}

-- n lines are kept, and from a place on the text is still to be scanned
pub record Scanning (text : List ℕ) (lines : KeptLines) (flags : List Bool) (n from : ℕ) : Type 0 where
  pub within : n ≤ judged_lines
  pub all_flags : length flags ≡ 256
  pub ended : List ℕ
  pub flagged : Flagged flags ended
  pub goes_on : first_faulty (n + 1) ended (readings_of (drop from text)) ≡ first_faulty 1 [] (readings_of text)
  pub says : history_by lines.codes lines.jobs lines.cells n ++ events_in (readings_of (drop from text)) ≡ events_in (readings_of text)
  pub named : (p : ℕ) → p < n → get_or lines.jobs p 0 ≡ 0 → ⊥
  pub past : Past text n from

-- before the first line
pub scanning_starts : (text : List ℕ) (lines : KeptLines) → Scanning text lines (replicate 256 false) 0 0
unfolding history_by member
scanning_starts text lines =
    record {
      within = omega arith;
      all_flags = length-replicate 256 false;
      ended = [];
      flagged = λ j m. get_or-replicate 256 j false false m;
      goes_on = refl;
      says = refl;
      named = λ p m. absurd (omega arith);
      past = past_none text;
    }

-- a line without a fault leaves the deciding to the lines after it
past_line : (n : ℕ) (ended : List ℕ) (l : Reading) (ls : List Reading) → line_fault n ended l ≡ None →
    first_faulty (n + 1) (ended_after ended l) ls ≡ first_faulty n ended (l ∷ ls)
unfolding first_faulty or_later
past_line n ended l ls e = rw (e, add-one)

-- a line with a fault decides
at_line : (n : ℕ) (ended : List ℕ) (l : Reading) (ls : List Reading) (why : Refusal) → line_fault n ended l ≡ Some why →
    first_faulty n ended (l ∷ ls) ≡ Some (record { number = n; why = why })
unfolding first_faulty or_later
at_line n ended l ls why e = rw e

-- all lines are scanned
pub scanning_done : (text : List ℕ) (lines : KeptLines) (flags : List Bool) (n from : ℕ) → Scanning text lines flags n from → length text ≤ from → Clean text lines.codes lines.jobs lines.cells n
unfolding lines_of readings_of first_faulty events_in
scanning_done text lines flags n from s h =
    let e : drop from text ≡ [] = drop_of_length-le text h in
    record {
      faultless = sym (rw e at s.goes_on);
      within = s.within;
      says = sym (append-nil (history_by lines.codes lines.jobs lines.cells n)) ∙ (rw e at s.says);
      named = s.named;
    }

-- the next line ends within the text
pub line_within : (text : List ℕ) (from to : ℕ) → from < length text → to ≡ from + used (drop from text) → to ≤ length text
line_within text from to h e = omega (arith, used_within (drop from text), length-drop from text)

-- less of the text is left after it
pub line_falls : (text : List ℕ) (from to : ℕ) → from < length text → to ≡ from + used (drop from text) → length text - to < length text - from
line_falls text from to h e =
    omega (arith, used_some (drop from text) (omega (arith, length-drop from text)), used_within (drop from text), length-drop from text)

-- and it has a byte
pub line_some : (text : List ℕ) (from to : ℕ) → from < length text → to ≡ from + used (drop from text) → 0 < to
line_some text from to h e = omega (arith, line_falls text from to h e)

-- and it ends as many bytes on as it has
line_long : (text : List ℕ) (from to : ℕ) → from < length text → to ≡ from + used (drop from text) → from + length (part text from to) ≡ to
line_long text from to h e =
    let m : to - from ≤ length (drop from text) = omega (arith, used_within (drop from text)) in
    omega (arith, length-take-le (to - from) (drop from text) m)

-- the next line says one event, and then the others say theirs
next_event : (l : Reading) (ls : List Reading) (v : Event) → event_of l ≡ v ∷ [] → events_in (l ∷ ls) ≡ v ∷ events_in ls
unfolding events_in
next_event l ls v q = rw q

module _ (text : List ℕ) (lines : KeptLines) (flags : List Bool) (n from to : ℕ) (s : Scanning text lines flags n from)
    (h : from < length text) (e : to ≡ from + used (drop from text)) where
  -- a line is kept, and scanning goes on after it
  pub scanning_kept : (x : Looked) (line : KeptLine) (j : ℕ) (b : Bool) (after : KeptLines) → x ≡ looked_at (n + 1) flags (read_line of_histories (part text from to)) → x ≡ Ok line →
      WithLine lines n line after → j ≡ line.job → b ≡ ends_job line.code → Scanning text after (set flags j b) (n + 1) to
  scanning_kept x line j b after p g put i r =
      let code = line.code in
      let job = line.job in
      let cell = line.cell in
      let q : looked_at (n + 1) flags (read_line of_histories (part text from to)) ≡ Ok line = sym p ∙ g in
      let k = kept_as (n + 1) flags s.ended (part text from to) line s.all_flags s.flagged q in
      let f = kept_fault (n + 1) flags s.ended (part text from to) line s.flagged q in
      let less : n < judged_lines = omega arith in
      let room = lines.room in
      record {
        within = k.within;
        all_flags = length-set flags j b ∙ s.all_flags;
        ended = ended_after s.ended (read_line of_histories (part text from to));
        flagged = rw (i, r) k.flagged;
        goes_on = past_line (n + 1) s.ended (read_line of_histories (part text from to)) (readings_of (drop to text)) f ∙ rw (← readings_next text from to h e) s.goes_on;
        says =
            rw (put.0, put.1, put.2, history_more lines.codes lines.jobs lines.cells n code job cell (omega arith) (omega arith) (omega arith), append_assoc)
            (ap (λ g. history_by lines.codes lines.jobs lines.cells n ++ g) (sym (next_event (read_line of_histories (part text from to)) (readings_of (drop to text)) (event_by code job cell) k.event))
            ∙ rw (← readings_next text from to h e) s.says);
        named = rw put.1 (named_more lines.jobs n job (omega arith) k.some_job s.named);
        past = past_more text n from to (part text from to) s.past (next_line text from to h e) (line_long text from to h e);
      }

  -- there is room for it
  pub kept_within : (x : Looked) (line : KeptLine) → x ≡ looked_at (n + 1) flags (read_line of_histories (part text from to)) → x ≡ Ok line → n < judged_lines
  kept_within x line p g =
      let k = kept_as (n + 1) flags s.ended (part text from to) line s.all_flags s.flagged (sym p ∙ g) in
      omega arith

  -- a line is refused, and it is the first faulty one
  pub scanning_refused : (x : Looked) (why : Refusal) (bare-to : ℕ) → x ≡ looked_at (n + 1) flags (read_line of_histories (part text from to)) → x ≡ Err why → bare-to ≡ bare_end text to → Spoilt text (n + 1) why from bare-to
  scanning_refused x why bare-to q g r =
      let p = bare_place text from to h e in
      record {
        first =
            sym s.goes_on ∙ rw (readings_next text from to h e)
            (at_line (n + 1) s.ended (read_line of_histories (part text from to)) (readings_of (drop to text)) why (refused_fault (n + 1) flags s.ended (part text from to) why s.flagged (sym q ∙ g)));
        ordered = rw r p.from_on;
        within = rw r p.within;
        place = rw r p.place ∙ ap bare (sym (past_line_at text n from to (part text from to) s.past (next_line text from to h e)));
        behind = past_place text n from s.past;
      }
