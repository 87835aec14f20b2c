-- EVERY PROMISE OF A DESK, said once: for the paper's desk and for each desk that runs, by what it shows from now on and the history that it has written.
use Rattle.terms.specs.declared.letters.Ask.{Ask}
use Rattle.conflict.specs.History.{History}
use Rattle.desks.specs.DeskLimits.{DeskLimits}
use Rattle.desks.specs.Numbers.{Numbers}
use Rattle.desk_rules.specs.Desk.{is_open}
use Rattle.desks.specs.Request.{Request}
use Rattle.desks.specs.Course.{now}
use Rattle.desk_rules.specs.Course.{Course}
use Rattle.desk_rules.specs.Refuses.{Refuses}
use Rattle.desks.specs.AsWorded.{RefusesAs}
use Rattle.desk_rules.specs.AsWorded.{RefusedAs}
use Rattle.desk_rules.specs.StepEffects.{StepEffects}
use Rattle.desk_rules.specs.Decides.{Decides}
use Rattle.desk_rules.specs.Wakes.{Wakes}
use Rattle.desks.specs.Recorded.{Recorded}
use Rattle.desk_rules.specs.Locking.{Locking}
use Rattle.desk_rules.specs.SerialHistory.{SerialHistory}
use Rattle.desk_rules.specs.Service.{Service}
use Rattle.desk_rules.specs.Ages.{Ages}
use Rattle.desk_rules.specs.UpdateLock.{UpdateLock}
use Rattle.desk_rules.specs.Chains.{Chains}

pub record Promises (h : History) (k : Course) : Type 0 where
  -- demand 1: refusals exactly, by the table and in words, and rules 1 to 5
  pub refuses : Refuses k
  pub worded : RefusesAs RefusedAs k
  pub effects : StepEffects k
  pub decides : (r : Request) (a : Ask) → Decides k r a
  pub wakes : (r : Request) → Wakes k r
  pub recorded : (r : Request) → Recorded k r
  pub limits : DeskLimits (now k).next (now k).jobs (λ j. is_open ((now k).stat j))
  pub numbers : Numbers (λ d. d.next) k
  -- demand 2: locks, and the history
  pub locking : Locking k h
  pub serial : SerialHistory h
  -- demand 3: a waiting job is served, and the oldest job is never sent back
  pub service : Service k
  pub ages : Ages k
  -- the update lock (02, No. 1)
  pub update : UpdateLock k
  -- chains (02, No. 3)
  pub chains : Chains (now k)
