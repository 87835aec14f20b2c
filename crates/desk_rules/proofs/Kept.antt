-- Every step keeps the invariant, one case for each rule; so it holds for every started desk.
-- Assumes nothing.
use Rattle.conflict.specs.History.{History}
use Rattle.desks.specs.Request.{Request}
use Rattle.desk_rules.specs.Desk.{Desk}
use Rattle.desks.specs.Begin.{refused}
use Rattle.desk_rules.specs.Rules.{Outcome, close, send_back, grant, queued, retry, begin}
use Rattle.desks.specs.Started.{fresh, after}
use Rattle.desk_rules.specs.Step.{step, Started}
use Rattle.desk_rules.specs.Moves.{Moved, refuses, begins, commits, gives_up, retries, has_it, promotes, waits_in_front, enters, waits_last, goes_back}
use Rattle.desk_rules.proofs.Moved.{step_moved}
use Rattle.desk_rules.specs.Invariant.{Inv}
use Rattle.desk_rules.proofs.Statuses.{running_open}
use Rattle.desk_rules.proofs.KeptStatus.{retry_inv}
use Rattle.desk_rules.proofs.KeptBegin.{begin_inv, fresh_inv}
use Rattle.desk_rules.proofs.KeptAsk.{promotes_inv, waits_in_front_inv, enters_inv, waits_last_inv}
use Rattle.desk_rules.proofs.KeptRun.{close_inv, send_back_inv}

-- every move keeps the invariant
pub moved_inv : {d : Desk} {r : Request} {o : Outcome} → Inv d → Moved d r o → Inv o.desk
unfolding refused close send_back grant queued retry begin
moved_inv v (refuses why _) = v
moved_inv v (begins e l m) = begin_inv v m
moved_inv {r = r} v (commits e runs) = close_inv v r.job (running_open runs)
moved_inv {r = r} v (gives_up e o) = close_inv v r.job o
moved_inv {r = r} v (retries e s) = retry_inv v r.job s
moved_inv v (has_it a k h) = v
moved_inv {r = r} v (promotes a k n f o) = promotes_inv v r.job r.cell a k.runs f o
moved_inv {r = r} v (waits_in_front a k n f o h) = waits_in_front_inv v r.job r.cell a k.runs k.within n f o h
moved_inv {r = r} v (enters a k f e g) = enters_inv v r.job r.cell a k.runs f e g
moved_inv {r = r} v (waits_last a k f n h o) = waits_last_inv v r.job r.cell a k.runs k.within f n h o
moved_inv {r = r} v (goes_back a k e) = send_back_inv v r.job (running_open k.runs)

-- so does every step
pub step_inv : {d : Desk} → Inv d → (r : Request) → Inv (step d r).desk
step_inv {d} v r = moved_inv v (step_moved d r)

-- so it holds for every started desk
pub started_inv : {d : Desk} {h : History} → Started d h → Inv d
started_inv (fresh n l _) = fresh_inv n l
started_inv (after s r) = step_inv (started_inv s) r
