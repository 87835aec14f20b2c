-- A request for a cell that goes: by rule 1 nothing changes; otherwise the job gets a mode that covers its need, and nothing else changes (01, rules 1 to 3).
-- Assumes nothing.
use mathlib.Core.Path.{◌≡◌, refl, sym, ap, ◌∙◌}
use mathlib.Core.Bool.{true}
use borrow.Author.Tests.{lt-ltb}
use Rattle.terms.specs.declared.letters.Ask.{Ask}
use Rattle.terms.specs.Limits.{cells}
use Rattle.conflict.specs.declared.modes.Mode.{Mode}
use Rattle.conflict.specs.Modes.{needed, covers}
use Rattle.desks.specs.Request.{Request}
use Rattle.laws.specs.Functions.{at}
use Rattle.desk_rules.specs.Desk.{Desk, Row}
use Rattle.desk_rules.specs.Rules.{with_row, grant, rule1, ask}
use Rattle.desk_rules.specs.Step.{step_ask, step_by, step}
use Rattle.desk_rules.specs.Asked.{Asking}
use Rattle.desk_rules.specs.Effects.{Grants}
use Rattle.laws.proofs.Functions.{at_same, at_other, at_each}
use Rattle.desk_rules.proofs.AnswerTells.{AskWent, had, got}

-- a running job that asks for a cell below 64 is decided by rules 1 to 3
pub asking_step : (d : Desk) (r : Request) (a : Ask) → Asking d r a → step d r ≡ ask d r.job r.cell a
unfolding step step_by step_ask
asking_step d r a k = ap (step_by d r) k.letter ∙ rw (k.runs, lt-ltb r.cell cells k.within)

-- granting a mode that covers the need
grant_grants : (d : Desk) (r : Request) (a : Ask) (m : Mode) → covers m (needed a) ≡ true → Grants d (grant d r.job r.cell m).desk r a r.job
unfolding grant with_row
grant_grants d r a m h =
    let row : Row = record { held = at (d.row r.cell).held r.job m; queue = (d.row r.cell).queue } in
    record {
      job = refl;
      holds = rw (at_same d.row r.cell row, at_same (d.row r.cell).held r.job m) h;
      others = λ b i n. at_each (λ x. x.held i ≡ (d.row b).held i) d.row r.cell row b
          (λ e. at_other (d.row r.cell).held r.job m i n ∙ ap (λ k. (d.row k).held i) (sym e)) (λ _. refl);
      elsewhere = at_other d.row r.cell row;
      queues = λ b. at_each (λ x. x.queue ≡ (d.row b).queue) d.row r.cell row b (λ e. ap (λ k. (d.row k).queue) (sym e)) (λ _. refl);
      statuses = refl;
      places = refl;
      next = refl;
    }

-- going by rule 1, with a covering mode held
rule1_grants : (d : Desk) (r : Request) (a : Ask) → covers ((d.row r.cell).held r.job) (needed a) ≡ true → Grants d (rule1 d r.job).desk r a r.job
unfolding rule1
rule1_grants d r a h = record { job = refl; holds = h; others = λ b i n. refl; elsewhere = λ b n. refl; queues = λ b. refl; statuses = refl; places = refl; next = refl }

-- a go, in either way
pub went_grants : {d : Desk} {r : Request} {a : Ask} → AskWent d r a → Grants d (step d r).desk r a r.job
went_grants {d} {r} {a} (had h o) = rw o (rule1_grants d r a h)
went_grants {d} {r} {a} (got m h _ o) = rw o (grant_grants d r a m h)
