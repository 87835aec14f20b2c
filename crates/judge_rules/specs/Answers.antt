-- What the judge has to answer, with no way to find it: the cases of the paper (01, Refusals by number; 01, Lines; 01, The judge's rules; 02, No. 2).
use Rattle.std.specs.Prelude.{ℕ, ◌≤◌, ◌<◌, ◌≡◌, true, List, [], ◌∷◌, ◌++◌, length}
use Rattle.laws.specs.Lists.{member, distinct, Fills}
use Rattle.terms.specs.declared.refusals.Refusal.{Refusal}
use Rattle.terms.specs.declared.refusals.Refusal.TheVariants.{ShortOrder}
use Rattle.terms.specs.Words.{newline}
use Rattle.terms.specs.Limits.{judged_jobs}
use Rattle.conflict.specs.Schedule.{Equivalent, serial, edge}
use Rattle.conflict.specs.History.{History, is_commit, marked, committed_part}
use Rattle.conflict.specs.Dirty.{IsDirty, FirstDirty}
use Rattle.text_rules.specs.Split.{lines_of, joined, no_newline}
use Rattle.judge_rules.specs.declared.verdict.Verdict.TheVariants.{Orderly, Knot, Dirty, No}
use Rattle.judge_rules.specs.Judged.{jobs_of}
use Rattle.judge_rules.specs.Meant.{SmallestFirst, Knotted, Takes, Shown}
use Rattle.judge_rules.specs.Judgement.{Judgement}
use Rattle.judge_rules.specs.HistoryText.{readings_of, line_at, events_in}
use Rattle.judge_rules.specs.LineTable.{lines_before, FirstFault, AllFaultless}

-- the bytes are a line without its newline, which the last line of a text may lack
pub data NewlineOff : List ℕ → List ℕ → Type 0 where
  taken-off : {bytes : List ℕ} → NewlineOff (bytes ++ newline ∷ []) bytes
  lacks_it : {bytes : List ℕ} → NewlineOff bytes bytes

-- the bytes are line n as it stands in the text, without its newline (01, Lines: the line handed back)
pub record Stands (text : List ℕ) (n : ℕ) (bytes : List ℕ) : Type 0 where
  pub rest : List ℕ
  pub place : text ≡ joined (lines_before (lines_of text) n) ++ bytes ++ rest
  pub whole : NewlineOff (line_at (lines_of text) n) bytes
  pub one : no_newline bytes ≡ true

-- dirty, for a history: reader and writer are those of its first dirty read, and fill the buffer's first two places (02, No. 2)
pub record InDirt (h : History) (before after : List ℕ) (reader writer : ℕ) : Type 0 where
  pub fills : Fills (reader ∷ writer ∷ []) before after
  pub first : FirstDirty h reader writer

-- orderly, for a history: it is not dirty; the order in the buffer's first places is a serial order of the committed part, names each job with a c once and no other,
-- and takes at each place the smallest number whose predecessors all stand already; n jobs are said (01, The judge's rules: Orderly)
pub record InOrder (h : History) (before after : List ℕ) (n : ℕ) : Type 0 where
  pub clean : IsDirty h → ⊥
  pub order : List ℕ
  pub fills : Fills order before after
  pub count : n ≡ length order
  pub most : n ≤ judged_jobs
  pub serially : Equivalent (committed_part h) (serial order (committed_part h))
  pub once : distinct order ≡ true
  pub names : (j : ℕ) → member j order ≡ marked is_commit j h
  pub smallest : SmallestFirst (edge (committed_part h)) (jobs_of h) order

-- a knot, for a history: it is not dirty; the list in the buffer's first places is a knot of conflicts between jobs with a c, no job twice, from its smallest,
-- and the one that the paper's walk finds among the jobs that remain; n jobs are said (01, The judge's rules: Knot)
pub record InKnot (h : History) (before after : List ℕ) (n : ℕ) : Type 0 where
  pub clean : IsDirty h → ⊥
  pub knot : List ℕ
  pub fills : Fills knot before after
  pub count : n ≡ length knot
  pub most : n ≤ judged_jobs
  pub shows : Knotted (edge (committed_part h)) (jobs_of h) knot
  pub taken : List ℕ
  pub remain : List ℕ
  pub takes : Takes (edge (committed_part h)) (jobs_of h) taken remain
  pub walked : Shown (edge (committed_part h)) remain knot

-- the judge's answer: 14 if the buffer has fewer than 255 places, before anything else and with line number 0; the refusal of the first faulty line, which is handed back,
-- and the buffer stays; or, for a faultless text, dirty, orderly or a knot, and no line is handed back
pub data Answers (text buffer : List ℕ) : Judgement → Type 0 where
  short : length buffer < judged_jobs → Answers text buffer (record { said = No 0 ShortOrder; order = buffer; line = [] })
  faulty : {n : ℕ} {why : Refusal} {line : List ℕ} → judged_jobs ≤ length buffer → FirstFault (readings_of text) n why → Stands text n line →
      Answers text buffer (record { said = No n why; order = buffer; line = line })
  in-dirt : {reader writer : ℕ} {after : List ℕ} → judged_jobs ≤ length buffer → AllFaultless (readings_of text) → InDirt (events_in (readings_of text)) buffer after reader writer →
      Answers text buffer (record { said = Dirty reader writer; order = after; line = [] })
  in_order : {n : ℕ} {after : List ℕ} → judged_jobs ≤ length buffer → AllFaultless (readings_of text) → InOrder (events_in (readings_of text)) buffer after n →
      Answers text buffer (record { said = Orderly n; order = after; line = [] })
  in-knot : {n : ℕ} {after : List ℕ} → judged_jobs ≤ length buffer → AllFaultless (readings_of text) → InKnot (events_in (readings_of text)) buffer after n →
      Answers text buffer (record { said = Knot n; order = after; line = [] })
