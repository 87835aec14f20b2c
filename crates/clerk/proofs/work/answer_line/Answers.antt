-- `clerk::work::answer_line` meets its contract: a good line is answered by the step of the method's desk, a bad one by refusal 9.
-- Assumes nothing.
use Rattle.text_rules.proofs.WroteLaws.{wrote_length}
use Rattle.clerk.proofs.Answering.{under_locks, under_stamps, answered_bad, answered_good}
use Rattle.clerk.proofs.work.answer_line.Goals as goal

pub returns-in-Locks : goal.returns-in-Locks
returns-in-Locks c =
    let a = c.args in
    let e = c.answer_by_locks.ensures in
    (answered_good a.view a.s a.out.now a.at c.requires.0 c.read_held.ensures c.in-Ok.is (under_locks c.in-Locks.is e), wrote_length e.records)

pub returns-in-Stamps : goal.returns-in-Stamps
returns-in-Stamps c =
    let a = c.args in
    let e = c.answer_by_stamps.ensures in
    (answered_good a.view a.s a.out.now a.at c.requires.0 c.read_held.ensures c.in-Ok.is (under_stamps c.in-Stamps.is e), wrote_length e.records)

pub returns-in-Err : goal.returns-in-Err
returns-in-Err c =
    let a = c.args in
    let e = c.put_bad.ensures in
    (answered_bad a.view a.s a.out.now a.at c.requires.0 c.read_held.ensures c.in-Err.is e, wrote_length e)
