-- A wait: the job's status says for which cell and with what ask; every job still holds what it held; and the job is at the front for a promotion, otherwise at the end (01, rules 2 and 3).
-- Assumes nothing.
use Prim.Native.Nat.{ℕ}
use mathlib.Core.Path.{◌≡◌, refl, sym, ap}
use mathlib.Core.List.{List}
use Rattle.terms.specs.declared.letters.Ask.{Ask}
use Rattle.desks.specs.Request.{Request}
use Rattle.desk_rules.specs.Desk.{waiting, Waiter, Row, Desk}
use Rattle.desk_rules.specs.Rules.{with_row, with_status, queued}
use Rattle.desk_rules.specs.Step.{step}
use Rattle.desk_rules.specs.Asked.{Asking}
use Rattle.desk_rules.specs.Effects.{StartsToWait}
use Rattle.laws.proofs.Functions.{at_same, at_other, at_each}
use Rattle.desk_rules.proofs.AnswerTells.{Joins, Waited}

-- waiting in a queue that the job joins as the rules say
queued_waits : (d : Desk) (r : Request) (a : Ask) (q : List Waiter) → Asking d r a → Joins d r a q → StartsToWait d (queued d r.job r.cell a q).desk r a r.job
unfolding queued with_status with_row
queued_waits d r a q k h =
    let row : Row = record { held = (d.row r.cell).held; queue = q } in
    record {
      job = refl;
      asking = k;
      status = at_same d.stat r.job (waiting r.cell a);
      queue = rw (at_same d.row r.cell row) h;
      holds = λ c i. at_each (λ x. x.held i ≡ (d.row c).held i) d.row r.cell row c (λ e. ap (λ b. (d.row b).held i) (sym e)) (λ _. refl);
      elsewhere = at_other d.row r.cell row;
      statuses = at_other d.stat r.job (waiting r.cell a);
      places = refl;
      next = refl;
    }

-- so it is for a job that a step makes wait
pub waited_waits : {d : Desk} {r : Request} {j : ℕ} → (w : Waited d r j) → StartsToWait d (step d r).desk r w.ask j
waited_waits {d} {r} w = rw (w.job, w.outcome) (queued_waits d r w.ask w.queue w.asking w.joins)
