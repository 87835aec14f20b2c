-- `judge_line::lines::write_jobs` meets its contract: a line that fits is written part by part; a line that does not is refused.
-- Assumes nothing.
use Rattle.text_rules.proofs.RoomLaws.{written, refused}
use Rattle.std.proofs.Common.{length, ap}
use Rattle.text_rules.proofs.WroteLaws.{wrote_as, wrote_then}
use Rattle.judge_line.proofs.WordLines.{word_line_is, line_too_long, word_too_long}
use Rattle.judge_line.proofs.lines.write_jobs.Goals as goal

pub returns-then-room-len : goal.returns-then-room-len
returns-then-room-len c = refused _ _ _ (word_too_long c.args.word _ _ _ (ap length c.spelled-len.ensures) c.if-room-len.true)

pub returns : goal.returns
returns c =
    written (wrote_as (wrote_then (wrote_then c.put_word-a.ensures c.put_jobs-b.ensures) c.put_end.ensures) (word_line_is _ _))

pub returns-then-not-jobs_fit : goal.returns-then-not-jobs_fit
returns-then-not-jobs_fit c =
    refused _ _ _
    (line_too_long c.args.word _ _ _ (ap length c.spelled-len.ensures)
    c.if-room-len.false c.jobs_fit.ensures c.if-not-jobs_fit.true)
