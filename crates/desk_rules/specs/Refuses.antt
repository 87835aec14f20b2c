-- What is promised of refusals and answers: a refusal exactly if the table has it due, and what an answer names (01, Refusals by number; 01, Lines).
use Rattle.std.specs.Prelude.{◌≤◌, ◌≡◌, true}
use Rattle.terms.specs.declared.refusals.Refusal.{Refusal}
use Rattle.terms.specs.Letters.{letter_of}
use Rattle.terms.specs.Refusals.{number_of}
use Rattle.desks.specs.declared.Answer.TheVariants.{No}
use Rattle.desks.specs.Request.{Request}
use Rattle.desks.specs.Course.{now, to}
use Rattle.desks.specs.Refuses.{RefusesBy}
use Rattle.desk_rules.specs.Table.{holds, due_of, Due, named}
use Rattle.desk_rules.specs.Course.{Course}

pub record Refuses (k : Course) : Type 0 where
  -- a step is refused exactly if the table has that refusal due, and it then changes nothing
  pub by_table : RefusesBy due_of named k
  -- the row of a refusal that is due holds
  pub due_holds : (r : Request) (why : Refusal) → Due (now k) r why → holds (letter_of r.kind) ((now k).stat r.job) r.cell (now k) why ≡ true
  -- a step gives only the refusals 1 to 8
  pub one_to_eight : (r : Request) (why : Refusal) → (to k r).said ≡ No why → (1 ≤ number_of why) × (number_of why ≤ 8)
