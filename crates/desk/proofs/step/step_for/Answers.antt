-- `desk::step::step_for` meets its contract: the plan, carried out branch by branch on the fields in place, is the step.
-- Assumes nothing.
use Rattle.desk.proofs.Performed.{refused, begun_at, kept, taken, stayed, ended_at, tried}
use Rattle.desk.proofs.step.step_for.Goals as goal

pub returns-in-Err : goal.returns-in-Err
returns-in-Err c = refused _ _ _ _ _ _ _ _ _ _ c.in-Err.ensures

pub returns-in-Keep : goal.returns-in-Keep
returns-in-Keep c = kept _ _ _ _ _ _ _ _ _ _ c.in-Ok.ensures c.answer_to-answer.ensures c.in-Keep.is

pub returns-in-Begin : goal.returns-in-Begin
returns-in-Begin c = begun_at _ _ _ _ _ _ _ _ _ _ c.in-Ok.ensures c.answer_to-answer.ensures c.in-Begin.is c.from.ensures

pub returns-in-Take : goal.returns-in-Take
returns-in-Take c = taken _ _ _ _ _ _ _ _ _ _ c.in-Ok.ensures c.answer_to-answer.ensures c.in-Take.is c.from-in-Take.ensures

pub returns-in-Stay : goal.returns-in-Stay
returns-in-Stay c = stayed _ _ _ _ _ _ _ _ _ _ c.in-Ok.ensures c.answer_to-answer.ensures c.in-Stay.is c.ask_code.ensures

pub returns-in-End : goal.returns-in-End
returns-in-End c = ended_at _ _ _ _ _ _ _ _ _ _ c.in-Ok.ensures c.answer_to-answer.ensures c.in-End.is c.end_run-count.ensures c.leave_place.ensures

pub returns-in-Retry : goal.returns-in-Retry
returns-in-Retry c = tried _ _ _ _ _ _ _ _ _ _ c.in-Ok.ensures c.answer_to-answer.ensures c.in-Retry.is c.status_retried.ensures
