-- What is promised of each cell's two numbers: they are what the history says, the largest that read it and the largest that wrote it among all granted actions, and nothing lowers them (02, No. 6).
use Rattle.std.specs.Prelude.{ℕ, ◌≤◌, ◌≡◌, List}
use Rattle.conflict.specs.History.{History}
use Rattle.conflict.specs.Dirty.{changes}
use Rattle.conflict.specs.NumberOrder.{reads, largest, IsLargest}
use Rattle.desks.specs.Request.{Request}
use Rattle.desks.specs.Course.{Course, now}
use Rattle.stamp_rules.specs.Desk.{Desk}

pub record Stamped (h : History) (k : Course Desk) : Type 0 where
  -- the largest job number that read the cell, jobs that were sent back or gave up included; an increment counts as a read
  pub readers : (c : ℕ) → (now k).reader c ≡ largest reads c h
  pub readers_worded : (c : ℕ) → IsLargest reads c h ((now k).reader c)
  -- the largest that wrote it; an increment counts as a write
  pub writers : (c : ℕ) → (now k).writer c ≡ largest changes c h
  pub writers_worded : (c : ℕ) → IsLargest changes c h ((now k).writer c)
  -- nothing lowers them, not even a sending back
  pub readers_stay : (rs : List Request) (c : ℕ) → (now k).reader c ≤ (k.seen rs).reader c
  pub writers_stay : (rs : List Request) (c : ℕ) → (now k).writer c ≤ (k.seen rs).writer c
