-- EVERY PROMISE OF A TIMESTAMP DESK, said once: for the request's desk and for each desk that runs, by what it shows from now on and the history that it has written (02, No. 6).
-- Demand 3 is not among them, nor is a clean history: such a history may be dirty.
use Rattle.conflict.specs.History.{History}
use Rattle.desks.specs.Request.{Request}
use Rattle.desks.specs.Course.{Course, now}
use Rattle.desks.specs.DeskLimits.{DeskLimits}
use Rattle.desks.specs.Numbers.{Numbers}
use Rattle.desks.specs.Recorded.{Recorded}
use Rattle.stamp_rules.specs.Desk.{Desk, is_open}
use Rattle.stamp_rules.specs.Refuses.{Refuses}
use Rattle.desks.specs.AsWorded.{RefusesAs}
use Rattle.stamp_rules.specs.AsWorded.{RefusedAs}
use Rattle.stamp_rules.specs.Decides.{Decides}
use Rattle.stamp_rules.specs.Effects.{Effects}
use Rattle.stamp_rules.specs.Quiet.{Quiet}
use Rattle.stamp_rules.specs.Stamped.{Stamped}
use Rattle.stamp_rules.specs.NumberHistory.{NumberHistory}

pub record Promises (h : History) (k : Course Desk) : Type 0 where
  -- refusals exactly, in their order and in words, and they change nothing
  pub refuses : Refuses k
  pub worded : RefusesAs RefusedAs k
  -- each read, write, increment and u as the request says, and what each answer leaves
  pub decides : (r : Request) → Decides k r
  pub effects : Effects k
  -- what the history records of a step
  pub recorded : (r : Request) → Recorded k r
  -- no job waits, no job is woken, no 4, 5 or 8
  pub quiet : (r : Request) → Quiet k r
  -- the cells' two numbers are what the history says
  pub stamped : Stamped h k
  -- conflicting actions in number order
  pub history : NumberHistory h
  -- at most 32 open jobs; numbers rise
  pub limits : DeskLimits (now k).next (now k).jobs (is_open (now k))
  pub numbers : Numbers (λ d. d.next) k
