-- What every desk does in the same way: a refusal, and a begin with the two refusals tested before it (01, Refusals by number).
use Rattle.std.specs.Prelude.{ℕ, List, [], ltb}
use Rattle.laws.specs.Choice.{pick}
use Rattle.laws.specs.Lists.{member}
use Rattle.terms.specs.declared.refusals.Refusal.{Refusal}
use Rattle.terms.specs.declared.refusals.Refusal.TheVariants.{AllOpen, NoNumberLeft}
use Rattle.terms.specs.Limits.{last_number}
use Rattle.desks.specs.declared.Answer.TheVariants.{No}
use Rattle.desks.specs.Stepping.{Stepped}

-- a refusal changes nothing and wakes no job (01, Refusals by number)
unfoldable pub refused : {S : Type 0} → S → Refusal → Stepped S
refused d why = record { desk = d; said = No why; wakes = [] }

-- begin, given the next number, the places and the outcome if it goes: 7 if the last number was given, then 6 if no place is free
unfoldable pub beginning : {S : Type 0} → S → ℕ → List ℕ → Stepped S → Stepped S
beginning d next jobs begun = pick (ltb last_number next) (refused d NoNumberLeft) (pick (member 0 jobs) begun (refused d AllOpen))
