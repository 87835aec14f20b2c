-- The history that a faultless text says is the one whose records are that text, byte for byte: nothing is lost or added (01, Lines).
-- Assumes nothing.
use Prim.Native.Nat.{ℕ, suc, ◌-◌, ◌<◌}
use mathlib.Core.Path.{◌≡◌, refl, sym, ap, ap₂, ◌∙◌, subst}
use mathlib.Core.Bool.{true}
use mathlib.Core.List.{List, [], ◌∷◌, ◌++◌, append-nil, map}
use native.Mathlib.Omega.{arith}
use lib.ListN.{length, get_or}
use Rattle.laws.specs.Choice.{not_both}
use Rattle.terms.specs.declared.letters.Ask.{Ask}
use Rattle.terms.specs.declared.letters.Ask.TheVariants.{Read, Write, Increment, Update}
use Rattle.terms.specs.declared.letters.Letter.{Letter}
use Rattle.terms.specs.declared.letters.Letter.TheVariants.{Begin, Commit, GiveUp, Retry, Back, Asks}
use Rattle.terms.specs.Letters.{of_histories}
use Rattle.conflict.specs.Modes.{recorded}
use Rattle.conflict.proofs.Clauses.{records_read, records_write, records_increment}
use Rattle.text_rules.specs.GoodLine.{GoodLine}
use Rattle.text_rules.specs.Lines.{read_line, good}
use Rattle.text_rules.specs.Records.{line_record}
use Rattle.text_rules.specs.Split.{lines_of, joined}
use Rattle.text_rules.proofs.GoodLine.{good_exactly}
use Rattle.text_rules.proofs.TextLines.{lines_join}
use Rattle.judge_rules.specs.HistoryText.{readings_of, event_of, events_in}
use Rattle.judge_rules.specs.AsWorded.{SoundText}
use Rattle.text_rules.specs.EventRecords.{ask_by, mark_letter, event_line, text_of}
use Rattle.text_rules.proofs.RecordLines.{text_append}

-- in a history, what a letter asks is the kind that is recorded: r, w and i, which histories have; u is recorded as r (02, No. 1)
ask_back : (a : Ask) → of_histories (Asks a) ≡ true → ask_by (recorded a) ≡ a
unfolding ask_by
ask_back Read h = rw records_read
ask_back Write h = rw records_write
ask_back Increment h = rw records_increment
ask_back Update h = not_both h refl

-- the record of what a good line says is that line
good_back : (bytes : List ℕ) (l : Letter) (job cell : ℕ) → GoodLine of_histories bytes l job cell → text_of (event_of (good l job cell)) ≡ bytes
unfolding text_of event_of event_line mark_letter
good_back bytes Begin job cell g = not_both g.1 refl
good_back bytes Commit job cell g = append-nil (line_record Commit job 0) ∙ ap (line_record Commit job) (sym (g.5 refl)) ∙ sym g.0
good_back bytes GiveUp job cell g = append-nil (line_record GiveUp job 0) ∙ ap (line_record GiveUp job) (sym (g.5 refl)) ∙ sym g.0
good_back bytes Retry job cell g = not_both g.1 refl
good_back bytes Back job cell g = append-nil (line_record Back job 0) ∙ ap (line_record Back job) (sym (g.5 refl)) ∙ sym g.0
good_back bytes (Asks a) job cell g =
    append-nil (line_record (Asks (ask_by (recorded a))) job cell) ∙ ap (λ x. line_record (Asks x) job cell) (ask_back a g.1) ∙ sym g.0

-- each line is good
pub record IsGood (bytes : List ℕ) : Type 0 where
  pub letter : Letter
  pub job : ℕ
  pub cell : ℕ
  pub good : GoodLine of_histories bytes letter job cell

-- the records of what a line says are that line
line_back : (bytes : List ℕ) → IsGood bytes → text_of (event_of (read_line of_histories bytes)) ≡ bytes
line_back bytes g =
    ap (λ r. text_of (event_of r)) ((good_exactly of_histories bytes g.letter g.job g.cell).1 g.good) ∙ good_back bytes g.letter g.job g.cell g.good

-- so are those of several good lines
lines_back : (ls : List (List ℕ)) → ((k : ℕ) → k < length ls → IsGood (get_or ls k [])) → text_of (events_in (map (read_line of_histories) ls)) ≡ joined ls
unfolding events_in joined text_of
lines_back [] all = refl
lines_back (l ∷ ls) all =
    text_append (event_of (read_line of_histories l)) (events_in (map (read_line of_histories) ls))
    ∙ ap₂ (λ s t. s ++ t) (line_back l (all 0 (omega arith))) (lines_back ls (λ k h. all (suc k) (omega arith)))

-- THE HISTORY THAT IS JUDGED: the records of the history that a faultless text says are that text
pub text_back : (text : List ℕ) → SoundText text → text_of (events_in (readings_of text)) ≡ text
unfolding readings_of
text_back text s =
    lines_back (lines_of text)
    (λ k h.
    let t = s.each (suc k) (omega arith) (omega arith) in
    subst (λ i. IsGood (get_or (lines_of text) i [])) (less_one k) (record { letter = t.letter; job = t.job; cell = t.cell; good = t.good }))
    ∙ lines_join text
  where
    less_one : (k : ℕ) → suc k - 1 ≡ k
    less_one k = omega arith
