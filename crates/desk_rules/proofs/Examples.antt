-- The paper's step computes each of the examples, the definitions compute each of the examples of chains, and the desks on which a bound is met are so.
-- Assumes nothing.
use mathlib.Core.Path.{◌≡◌, refl}
use mathlib.Core.List.{map}
use Rattle.laws.specs.Lists.{member, distinct, put, first_of, filled}
use Rattle.conflict.specs.Modes.{needed, recorded, covers, grants, asked, is_free}
use Rattle.desks.specs.AnswerWords.{word_of, number_beside}
use Rattle.laws.specs.Functions.{at}
use Rattle.desks.specs.Places.{seated, vacated, open_among}
use Rattle.desk_rules.specs.Desk.{is_open, is_live, idle, fresh_desk}
use Rattle.desk_rules.specs.Locks.{every, every_waiter, is_empty, agrees, older_than_holders, older_than_waiters, without, wants, woken_first, settle, released}
use Rattle.desks.specs.Begin.{beginning, refused}
use Rattle.desk_rules.specs.Rules.{with_row, with_status, wake, wakes_at, wakes_of, is_woken, run_again, rows_after, rule4, close, send_back, grant, queued, rule1, rule2, rule3, ask, retry, begin}
use Rattle.desk_rules.specs.Step.{step_commit, step_give_up, step_retry, step_ask, step_begin, step_by, step}
use Rattle.desk_rules.specs.Chain.{other_holders, ahead_of, in_way_of, younger, youngest_of, younger_than, onward, chain_by, chain_of}
use Rattle.desk_rules.specs.AskedChain.{chain_holds, chain_order, chain_due, chain_told, ask_chain, chain_numbers}
use Rattle.desks.specs.Told.{Example, told_of, step_told, answers_of}
use Rattle.desks.specs.Records.{records_by, records_of, own_records, went_by, wake_records}
use Rattle.desk_rules.specs.Bounds.{queue_desk, line_desk, Met}
use Rattle.desk_rules.specs.Examples.{examples}
use Rattle.desk_rules.specs.ChainExamples.{ChainExample, answered_to, said_of, chain_examples}

-- on the paper's desk every example's requests get its answers
pub as_the_examples_say : map (λ (e : Example). answers_of step (fresh_desk e.start) e.requests) examples ≡ map (λ (e : Example). e.answers) examples
unfolding member needed recorded covers grants asked is_free word_of number_beside at idle fresh_desk seated vacated every every_waiter is_empty agrees older_than_holders older_than_waiters without wants woken_first settle released refused with_row with_status wake wakes_at wakes_of is_woken run_again rows_after rule4 close send_back grant queued rule1 rule2 rule3 ask retry begin step_commit step_give_up step_retry step_ask step_begin beginning step_by step told_of step_told answers_of
as_the_examples_say = refl

-- every question gets its answer, and the list holds what the example says
pub chains_as_the_examples_say : map (λ (e : ChainExample). map (answered_to e.requests) e.questions) chain_examples ≡ map (λ (e : ChainExample). map said_of e.questions) chain_examples
unfolding member put first_of filled needed recorded covers grants asked is_free is_open at idle fresh_desk seated vacated every every_waiter is_empty agrees older_than_holders older_than_waiters without wants woken_first settle released refused with_row with_status wake wakes_at wakes_of is_woken run_again rows_after rule4 close send_back grant queued rule1 rule2 rule3 ask retry begin step_commit step_give_up step_retry step_ask step_begin beginning step_by step other_holders ahead_of in_way_of younger youngest_of younger_than onward chain_by chain_of chain_holds chain_order chain_due chain_told ask_chain chain_numbers answered_to said_of
chains_as_the_examples_say = refl

-- and the desks on which a bound is met are so
pub met : Met
unfolding records_by records_of own_records went_by wake_records queue_desk line_desk member put distinct needed recorded covers grants asked is_free is_open is_live at idle fresh_desk seated vacated open_among every every_waiter is_empty agrees older_than_holders older_than_waiters without wants woken_first settle released refused with_row with_status wake wakes_at wakes_of is_woken run_again rows_after rule4 close send_back grant queued rule1 rule2 rule3 ask retry begin step_commit step_give_up step_retry step_ask step_begin beginning step_by step other_holders ahead_of in_way_of younger youngest_of younger_than onward chain_by chain_of
met = record { said = refl; waits = refl; ways = refl; once = refl; woken = refl; written = refl; opened = refl; live = refl; chain = refl; given = refl; next = refl; cell = refl }
