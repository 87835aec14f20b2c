-- What is promised of refusals and answers: a refusal exactly if the table has it due, in its order (02, No. 6; 01, Refusals by number).
use Rattle.std.specs.Prelude.{◌≡◌, true}
use Rattle.terms.specs.declared.refusals.Refusal.{Refusal}
use Rattle.terms.specs.Letters.{letter_of}
use Rattle.desks.specs.Request.{Request}
use Rattle.desks.specs.Course.{Course, now}
use Rattle.desks.specs.Refuses.{RefusesBy}
use Rattle.stamp_rules.specs.Desk.{Desk, is_open}
use Rattle.stamp_rules.specs.Table.{holds, due_of, Due, named}

pub record Refuses (k : Course Desk) : Type 0 where
  -- a step is refused exactly if the table has that refusal due, and it then changes nothing
  pub by_table : RefusesBy due_of named k
  -- the row of a refusal that is due holds
  pub due_holds : (r : Request) (why : Refusal) → Due (now k) r why → holds (letter_of r.kind) (is_open (now k) r.job) r.cell (now k) why ≡ true
