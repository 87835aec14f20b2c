-- What a faultless text is, which refusal a line gets, and when each kind of answer is given, in the paper's words and numbers: by good lines, the field at fault and line numbers alone, without a test or an order of tests (01, Refusals by number; 01, Lines; 02, No. 2 and No. 5).
-- The numbers are written out, since these are the words of promises.
use Rattle.std.specs.Prelude.{ℕ, ◌-◌, ◌≤◌, ◌<◌, ◌≡◌, ◌⊎◌, List, length}
use Rattle.terms.specs.declared.letters.Letter.{Letter}
use Rattle.terms.specs.declared.letters.Letter.TheVariants.{Commit, GiveUp}
use Rattle.terms.specs.declared.refusals.Field.{Field}
use Rattle.terms.specs.Letters.{of_histories}
use Rattle.terms.specs.Refusals.{field_number}
use Rattle.conflict.specs.Schedule.{ConflictSerializable}
use Rattle.conflict.specs.History.{committed_part}
use Rattle.conflict.specs.Dirty.{IsDirty}
use Rattle.text_rules.specs.GoodLine.{GoodLine}
use Rattle.text_rules.specs.FieldFaults.{AtFault}
use Rattle.text_rules.specs.Split.{lines_of}
use Rattle.judge_rules.specs.HistoryText.{readings_of, line_at, events_in}

-- line n is a good line of a history: this letter, this job and this cell (0 if the letter has none), and its newline (01, Lines)
abbrev pub LineIs : List (List ℕ) → ℕ → Letter → ℕ → ℕ → Type 0
LineIs ls n l job cell = GoodLine of_histories (line_at ls n) l job cell

-- a line before line n is a c or an a of this job
pub record OverBefore (ls : List (List ℕ)) (n job : ℕ) : Type 0 where
  pub at : ℕ
  pub from : 1 ≤ at
  pub before : at < n
  pub ends : LineIs ls at Commit job 0 ⊎ LineIs ls at GiveUp job 0

-- line n is faultless: it is good, its job is 1 to 255, its cell at most 63, and no line before it is a c or an a of its job
pub record Sound (ls : List (List ℕ)) (n : ℕ) : Type 0 where
  pub letter : Letter
  pub job : ℕ
  pub cell : ℕ
  pub good : LineIs ls n letter job cell
  pub first : 1 ≤ job
  pub last : job ≤ 255
  pub below : cell ≤ 63
  pub open' : OverBefore ls n job → ⊥

-- the first k lines are faultless, and they are at most 4,096
pub record SoundTo (ls : List (List ℕ)) (k : ℕ) : Type 0 where
  pub few : k ≤ 4_096
  pub each : (n : ℕ) → 1 ≤ n → n ≤ k → Sound ls n

-- a faultless text: all its lines are faultless, and they are at most 4,096
abbrev pub SoundText : List ℕ → Type 0
SoundText text = SoundTo (lines_of text) (length (lines_of text))

-- the refusal of line n by its number, and the field of a 9 (0 for any other): 11 for line 4,097 whatever it is. For any other line: 9 if one of its fields is at fault, with the lowest such field
-- (02, No. 5; that is, if it is not a good line: `nine_exactly`); 12 if its job is 0 or above 255; 2 if its job is from 1 to 255 and its cell is above 63;
-- and 13 if both are right and a line before it is a c or an a of its job
pub data RefusedAs (ls : List (List ℕ)) (n : ℕ) : ℕ → ℕ → Type 0 where
  too_many : n ≡ 4_097 → RefusedAs ls n 11 0
  bad : n ≤ 4_096 → (at : Field) → AtFault of_histories (line_at ls n) at → RefusedAs ls n 9 (field_number at)
  outside : (l : Letter) (job cell : ℕ) → n ≤ 4_096 → LineIs ls n l job cell → (job ≡ 0) ⊎ (255 < job) → RefusedAs ls n 12 0
  above : (l : Letter) (job cell : ℕ) → n ≤ 4_096 → LineIs ls n l job cell → 1 ≤ job → job ≤ 255 → 63 < cell → RefusedAs ls n 2 0
  over : (l : Letter) (job cell : ℕ) → n ≤ 4_096 → LineIs ls n l job cell → 1 ≤ job → job ≤ 255 → cell ≤ 63 → OverBefore ls n job → RefusedAs ls n 13 0

-- when the paper refuses line n: the lines before it are faultless, line n exists, and it has the fault of that number (for a 9 at that field) and none that is tested before
pub record RefusesLine (text : List ℕ) (n number field : ℕ) : Type 0 where
  pub from : 1 ≤ n
  pub to : n ≤ length (lines_of text)
  pub before : SoundTo (lines_of text) (n - 1)
  pub fault : RefusedAs (lines_of text) n number field

-- when each of the four kinds of answer is given. A refusal: the buffer has fewer than 255 places, or the text is not faultless
abbrev pub Refused : List ℕ → List ℕ → Type 0
Refused text buffer = (length buffer < 255) ⊎ (SoundText text → ⊥)

-- dirty: there is no refusal, and the history that the text says is dirty (02, No. 2)
abbrev pub Dirtied : List ℕ → List ℕ → Type 0
Dirtied text buffer = (255 ≤ length buffer) × SoundText text × IsDirty (events_in (readings_of text))

-- orderly: the history is not dirty, and its committed part is conflict-serializable (demand 2)
abbrev pub Ordered : List ℕ → List ℕ → Type 0
Ordered text buffer = (255 ≤ length buffer) × SoundText text × ConflictSerializable (committed_part (events_in (readings_of text))) × (IsDirty (events_in (readings_of text)) → ⊥)

-- a knot: the history is not dirty, and its committed part is not conflict-serializable
abbrev pub Knotted : List ℕ → List ℕ → Type 0
Knotted text buffer = (255 ≤ length buffer) × SoundText text × (ConflictSerializable (committed_part (events_in (readings_of text))) → ⊥) × (IsDirty (events_in (readings_of text)) → ⊥)
