-- In every history that the timestamp desk writes, conflicting actions stand in number order. So ascending numbers are a serial order of the committed jobs (02, No. 6).
-- Assumes nothing.
use mathlib.Core.List.{◌++◌, append-nil}
use native.Mathlib.Omega.{arith}
use Rattle.conflict.specs.History.{History}
use Rattle.conflict.specs.NumberOrder.{ActsInNumberOrder}
use Rattle.conflict.proofs.Committed.{committed_is}
use Rattle.conflict.proofs.NumberOrder.{number_order_part, number_order_serial, number_order_serializable, number_order_no_knot, ascending_commits_once, ascending_commits}
use Rattle.conflict.proofs.NumbersGrow.{number_order_none, number_order_ends, number_order_grows}
use Rattle.conflict.proofs.NothingAfter.{nothing_after_good}
use Rattle.desks.specs.Request.{Request}
use Rattle.desks.specs.Started.StartedOn.{fresh, after}
use Rattle.stamp_rules.specs.Desk.{Desk}
use Rattle.stamp_rules.specs.Step.{Started}
use Rattle.stamp_rules.specs.NumberHistory.{NumberHistory}
use Rattle.stamp_rules.proofs.Late.{over_writer, over_reader}
use Rattle.stamp_rules.proofs.Written.{asking, Wrote, nothing, action, mark, step_wrote}
use Rattle.stamp_rules.proofs.Stamping.{Matches, started_matches}
use Rattle.stamp_rules.proofs.IncrementsInOrder.{increments_in_order}
use Rattle.stamp_rules.proofs.NoEventAfterEnd.{started_over}

-- a step keeps number order, if the cells' numbers are what the history says: an action that goes is not below those it is compared with
wrote_in_order : {d : Desk} {r : Request} {e : Desk} {h g : History} → Matches d h → ActsInNumberOrder h → Wrote d r e g → ActsInNumberOrder (h ++ g)
wrote_in_order {h = h} k o (nothing s) = rw (append-nil h) o
wrote_in_order {d = d} {r = r} {h = h} k o (action a p f) =
    number_order_grows h (asking r a) o (omega (arith, k.writers r.cell, over_writer d r.job r.cell a f))
    (λ w. omega (arith, k.readers r.cell, over_reader d r.job r.cell a f w))
wrote_in_order {r = r} {h = h} k o (mark m q) = number_order_ends h m r.job o

-- in every history that the desk writes, conflicting actions stand in number order, whatever becomes of their jobs
pub started_in_order : {d : Desk} {h : History} → Started d h → ActsInNumberOrder h
started_in_order (fresh n _ _) = number_order_none
started_in_order (after {d = d} s r) = wrote_in_order (started_matches s) (started_in_order s) (step_wrote d r)

-- what is promised of the history
pub number_history : {d : Desk} {h : History} → Started d h → NumberHistory h
number_history {h = h} s =
    let o = started_in_order s in
    let last = (started_over s).last in
    let good = nothing_after_good h last in
    record {
      committed_in_order = number_order_part h o;
      all_in_order = o;
      increments_in_order = increments_in_order s;
      serial_by_numbers = number_order_serial h o;
      numbers_once = ascending_commits_once h;
      committed_jobs = ascending_commits h;
      serializable = number_order_serializable h o;
      never_a_knot = number_order_no_knot h o;
      nothing_after_end = last;
      no_event_after_end = good;
      committed_as_worded = committed_is h good;
    }
