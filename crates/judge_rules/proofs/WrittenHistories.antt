-- No history text that the desk could write is refused: the text of a history within the judge's limits, in which jobs end for good, is faultless, and its lines say that history (01, Lines; 01, Refusals by number).
-- Assumes nothing.
use Prim.Native.Nat.{ℕ, suc, ◌≤◌}
use mathlib.Core.Path.{◌≡◌, ap, ◌∙◌, subst}
use mathlib.Core.Logic.{◌↔◌}
use mathlib.Core.Bool.{true, false}
use mathlib.Core.List.{List}
use native.Mathlib.Omega.{arith}
use lib.ListN.{length, length-map}
use borrow.Author.Tests.{ne_eqb, le-leb}
use Rattle.conflict.specs.Schedule.{ConflictSerializable}
use Rattle.conflict.specs.History.{History, ends_for_good, committed_part}
use Rattle.conflict.specs.Dirty.{IsDirty}
use Rattle.conflict.specs.declared.action.Event.{Event}
use Rattle.conflict.specs.declared.action.Event.TheVariants.{Does, Ends}
use Rattle.terms.specs.declared.refusals.Refusal.TheVariants.{TooManyLines, JobOutside}
use Rattle.terms.specs.Letters.{of_histories}
use Rattle.terms.specs.Limits.{last_number, judged_jobs, judged_lines, judged_bytes}
use Rattle.text_rules.specs.Lines.{read_line, Reading}
use Rattle.judge_rules.specs.declared.verdict.Verdict.TheVariants.{Orderly}
use Rattle.judge_rules.specs.HistoryText.{readings_of, events_in}
use Rattle.judge_rules.specs.Judgement.{judgement_of}
use Rattle.judge_rules.specs.LineTable.{outside, holds, table_says, holds_at, AllFaultless}
use Rattle.text_rules.specs.EventRecords.{event_line, text_of, within, all_within}
use Rattle.judge_rules.proofs.CleanLines.{no_row}
use Rattle.judge_rules.proofs.JudgedTexts.{orderly_said_exactly}
use Rattle.text_rules.proofs.EventsRead.{action_within, mark_within, within_more, reads_action, reads_mark, text_short}
use Rattle.judge_rules.proofs.RecordsSay.{records_say}
use Rattle.judge_rules.proofs.ReadBack.{text_readings, line_of_lem, event_within, row_of, written_read_back}

-- a record whose job is 1 to 255 is not for a job outside
record_inside : (e : Event) → within judged_jobs e ≡ true → within last_number e ≡ true → outside (read_line of_histories (event_line e)) ≡ false
record_inside (Does a) w v = let b = action_within judged_jobs a w in rw (reads_action a v, le-leb 1 a.job b.0, le-leb a.job judged_jobs b.1)
record_inside (Ends m j) w v = let b = mark_within judged_jobs m j w in rw (reads_mark m j v, le-leb 1 j b.0, le-leb j judged_jobs b.1)

-- no line of the text is for a job outside
lines_inside : (h : History) → all_within judged_jobs h ≡ true → (n : ℕ) → 1 ≤ n → n ≤ length (readings_of (text_of h)) → holds_at (readings_of (text_of h)) n JobOutside ≡ false
unfolding holds
lines_inside h w n from to =
    let l = line_of_lem h n from to in
    row_of h n l JobOutside ∙ record_inside l.event (event_within judged_jobs h n l w) (event_within last_number h n l (within_more judged_jobs last_number (omega arith) h w))

-- nor is a line up to 4,096 a line 4,097
few_lines : (ls : List Reading) (n : ℕ) → n ≤ judged_lines → holds_at ls n TooManyLines ≡ false
unfolding holds
few_lines ls n h = ne_eqb n (suc judged_lines) (omega arith)

-- the lines of the text say the history
pub written_says : (h : History) → all_within last_number h ≡ true → events_in (readings_of (text_of h)) ≡ h
written_says h w = ap events_in (text_readings h) ∙ records_say h w

-- the text of a history of at most 4,096 events, with jobs 1 to 255 and cells 0 to 63, in which no line of a job follows its c or a, is faultless
pub written_faultless : (h : History) → all_within judged_jobs h ≡ true → ends_for_good h ≡ true → length h ≤ judged_lines → AllFaultless (readings_of (text_of h))
unfolding table_says
written_faultless h w g few n from to =
    let r = written_read_back h (within_more judged_jobs last_number (omega arith) h w) g n from to in
    let less : n ≤ judged_lines = omega (arith, ap length (text_readings h), length-map h (λ e. read_line of_histories (event_line e))) in
    no_row (holds_at (readings_of (text_of h)) n) (few_lines (readings_of (text_of h)) n less) r.0 (lines_inside h w n from to) r.1 r.2

-- nor is it longer than the verdict program reads
pub written_fits : (h : History) → all_within judged_jobs h ≡ true → length h ≤ judged_lines → length (text_of h) ≤ judged_bytes
written_fits h w few = omega (arith, text_short h (within_more judged_jobs last_number (omega arith) h w))

-- so for such a history the judge says orderly exactly if its committed part is conflict-serializable and it is not dirty
pub written_judged : (h : History) (buffer : List ℕ) → all_within judged_jobs h ≡ true → ends_for_good h ≡ true → length h ≤ judged_lines → judged_jobs ≤ length buffer →
    ((n : ℕ) × ((judgement_of (text_of h) buffer).said ≡ Orderly n)) ↔ (ConflictSerializable (committed_part h) × (IsDirty h → ⊥))
written_judged h buffer w g few room =
    subst (λ x. ((n : ℕ) × ((judgement_of (text_of h) buffer).said ≡ Orderly n)) ↔ (ConflictSerializable (committed_part x) × (IsDirty x → ⊥))) (written_says h (within_more judged_jobs last_number (omega arith) h w))
    (orderly_said_exactly (text_of h) buffer room (written_faultless h w g few))
