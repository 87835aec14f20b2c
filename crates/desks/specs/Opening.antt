-- Where a desk that keeps its places as a list opens a new job (01, Refusals by number).
use Rattle.std.specs.Prelude.{ℕ, List, ltb, Result, Ok, Err}
use Rattle.laws.specs.Choice.{pick}
use Rattle.laws.specs.Lists.{pos}
use Rattle.terms.specs.declared.refusals.Refusal.{Refusal}
use Rattle.terms.specs.declared.refusals.Refusal.TheVariants.{AllOpen, NoNumberLeft}
use Rattle.terms.specs.Limits.{places, last_number}
use Rattle.desks.specs.declared.finding.Opening.{Opening}

-- begin: refusal 7, then 6, else the next number at the first free place
unfoldable pub opening_of : ℕ → List ℕ → Result Opening Refusal
opening_of next number =
    pick (ltb last_number next) (Err NoNumberLeft) (pick (ltb (pos number 0) places) (Ok (record { place = pos number 0; number = next })) (Err AllOpen))
