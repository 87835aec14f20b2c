-- Each of the paper's starred samples is what the definitions compute.
-- Assumes nothing.
use mathlib.Core.Path.{◌≡◌, refl}
use mathlib.Core.List.{map}
use Rattle.laws.specs.Lists.{member, put, filled}
use Rattle.laws.specs.Sorted.{insert, sorted}
use Rattle.conflict.specs.Modes.{needed, recorded, covers, grants, asked, is_free}
use Rattle.conflict.specs.Schedule.{agree, conflicts, keep, touches, edge}
use Rattle.conflict.specs.History.{is_commit, is_back, marked, part_of, committed_part, commits, commit_order}
use Rattle.conflict.specs.Runs.{is_end, ended}
use Rattle.conflict.specs.Dirty.{changes, spoils, look_back, writer_of, read_or_later, dirty_from, dirty_of}
use Rattle.text_rules.specs.Decimal.{digits_in, decimal}
use Rattle.text_rules.specs.Records.{given, answer_record, field, line_record, tabbed, word_line, tabs_between, jobs_line}
use Rattle.text_rules.specs.Lines.{parts, field_ahead, after_field, is_digit, digits_only, value_from, shortest, is_number, number_then, ending, cell_part, job_part, letter_in, letter_part, read_line}
use Rattle.text_rules.specs.Split.{in_front, lines_of}
use Rattle.laws.specs.Functions.{at}
use Rattle.desks.specs.Places.{seated, vacated}
use Rattle.desk_rules.specs.Desk.{idle, fresh_desk}
use Rattle.desk_rules.specs.Locks.{every as locks-every, every_waiter, is_empty, agrees, older_than_holders, older_than_waiters, without, wants, woken_first, settle, released}
use Rattle.desks.specs.Begin.{beginning, refused}
use Rattle.desk_rules.specs.Rules.{with_row, with_status, wake, wakes_at, wakes_of, is_woken, run_again, rows_after, rule4, close, send_back, grant, queued, rule1, rule2, rule3, ask, retry, begin}
use Rattle.desks.specs.Records.{went_by, own_records, wake_records, records_of}
use Rattle.desk_rules.specs.Step.{step_commit, step_give_up, step_retry, step_ask, step_begin, step_by, step}
use Rattle.desk_rules.specs.Chain.{other_holders, ahead_of, in_way_of, younger, youngest_of, younger_than, onward, chain_by, chain_of, waiting_below, all_chains}
use Rattle.laws.specs.Larger.{larger}
use Rattle.stamp_rules.specs.Desk as stamp
use Rattle.stamp_rules.specs.Rules as stamp-rules
use Rattle.stamp_rules.specs.Step as stamp-step
use Rattle.judge_rules.specs.Order.{preceded, first, ready, without as order-without, ends, leads, taken as order_taken, order_of, stuck}
use Rattle.judge_rules.specs.Knot.{predecessor, up_to, from, walk, least, turn_to, turn, knot_in}
use Rattle.judge_rules.specs.Judged.{finding_by, judged, jobs_of, finding_of}
use Rattle.judge_rules.specs.HistoryText.{readings_of, fault_of_good, fault_of, line_fault, ended_after, or_later, first_faulty, event_of, events_in}
use Rattle.judge_rules.specs.Judgement.{say_finding, say_history, say_lines, judgement_of}
use Rattle.text_rules.specs.EventRecords.{ask_by, mark_letter, event_line, text_of}
use Rattle.desks.specs.AnswerWords.{word_of, number_beside, field_beside}
use Rattle.program_rules.specs.OverLines.{answered, line_by, run_of, wake_lines, answer_lines, history_lines, written}
use Rattle.judge_rules.specs.VerdictLine.{say_line, judged_line, verdict_of}
use Rattle.program_rules.specs.Chains.{desk_over, chain_text}
use Rattle.program_rules.specs.Programs.{run_on, stamp_run_on, desk_on, answers_of, history_of, chains_of, stamp_answers_of, stamp_history_of}
use Rattle.text_rules.specs.Quoted.{bytes}
use Rattle.samples.specs.Samples.{Sample, writes, samples}

-- every sample's program writes its output, given its input
pub as_the_paper_says : map (λ (s : Sample). writes s.program (bytes s.input)) samples ≡ map (λ (s : Sample). bytes s.output) samples
unfolding needed recorded covers grants asked is_free member agree conflicts keep touches edge is_commit is_back marked part_of committed_part put commit_order digits_in decimal given answer_record field line_record parts field_ahead after_field is_digit digits_only value_from shortest is_number number_then ending cell_part job_part letter_in letter_part read_line in_front lines_of at idle fresh_desk seated vacated locks-every every_waiter is_empty agrees older_than_holders older_than_waiters without wants woken_first settle released refused with_row with_status wake wakes_at wakes_of is_woken run_again rows_after rule4 close send_back grant queued rule1 rule2 rule3 ask retry begin step_commit step_give_up step_retry step_ask step_begin beginning step_by step went_by own_records wake_records records_of preceded first ready order-without ends leads order_taken order_of stuck predecessor up_to from walk least turn_to turn knot_in finding_by judged insert sorted jobs_of finding_of readings_of fault_of_good fault_of line_fault ended_after or_later first_faulty event_of events_in commits is_end ended changes spoils look_back writer_of read_or_later dirty_from dirty_of filled say_finding say_history say_lines judgement_of answered line_by run_of word_of number_beside field_beside wake_lines answer_lines ask_by mark_letter event_line text_of history_lines written run_on answers_of history_of tabbed word_line say_line judged_line verdict_of other_holders ahead_of in_way_of younger youngest_of younger_than onward chain_by chain_of waiting_below all_chains tabs_between jobs_line desk_over chain_text desk_on chains_of larger stamp.fresh_desk stamp.is_open stamp-rules.late_to_read stamp-rules.late_to_write stamp-rules.late stamp-rules.has_read stamp-rules.has_written stamp-rules.done stamp-rules.close stamp-rules.ask stamp-rules.begin stamp-step.step_begin stamp-step.step_close stamp-step.step_retry stamp-step.step_ask stamp-step.step_by stamp-step.step stamp_run_on stamp_answers_of stamp_history_of bytes writes
as_the_paper_says = refl
