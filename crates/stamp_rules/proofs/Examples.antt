-- The timestamp desk's step computes each of the examples (02, No. 6).
-- Assumes nothing.
use mathlib.Core.Path.{◌≡◌, refl}
use mathlib.Core.List.{map}
use Rattle.laws.specs.Lists.{member}
use Rattle.laws.specs.Functions.{at}
use Rattle.laws.specs.Larger.{larger}
use Rattle.desks.specs.AnswerWords.{word_of, number_beside}
use Rattle.desks.specs.Places.{seated, vacated}
use Rattle.desks.specs.Begin.{beginning, refused}
use Rattle.desks.specs.Told.{Example, told_of, step_told, answers_of}
use Rattle.stamp_rules.specs.Desk.{fresh_desk, is_open}
use Rattle.stamp_rules.specs.Rules.{late_to_read, late_to_write, late, has_read, has_written, done, close, ask, begin}
use Rattle.stamp_rules.specs.Step.{step_begin, step_close, step_retry, step_ask, step_by, step}
use Rattle.stamp_rules.specs.Examples.{examples}

-- on the timestamp desk every example's requests get its answers
pub as_the_examples_say : map (λ (e : Example). answers_of step (fresh_desk e.start) e.requests) examples ≡ map (λ (e : Example). e.answers) examples
unfolding member at larger word_of number_beside seated vacated beginning refused fresh_desk is_open late_to_read late_to_write late has_read has_written done close ask begin step_begin step_close step_retry step_ask step_by step told_of step_told answers_of
as_the_examples_say = refl
