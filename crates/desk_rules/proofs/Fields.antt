-- Fields that a kind does not use are not read (01, Refusals by number).
-- Assumes nothing.
use Rattle.std.specs.Prelude.{Option, None, Some}
use mathlib.Core.Path.{◌≡◌, refl, ap, ap₂, ◌∙◌}
use Rattle.terms.specs.declared.letters.Letter.{Letter}
use Rattle.terms.specs.declared.letters.Letter.TheVariants.{Begin, Commit, GiveUp, Retry, Back, Asks}
use Rattle.terms.specs.Letters.{letter_of}
use Rattle.desks.specs.Request.{Request, Alike}
use Rattle.desk_rules.specs.Desk.{Desk}
use Rattle.desk_rules.specs.Step.{step_commit, step_give_up, step_retry, step_ask, step_by, step}

-- requests that are alike for a letter have the same outcome
by_alike : (d : Desk) (r s : Request) (l : Option Letter) → Alike l r s → step_by d r l ≡ step_by d s l
unfolding step_by
by_alike d r s None e = refl
by_alike d r s (Some Back) e = refl
by_alike d r s (Some Begin) e = refl
by_alike d r s (Some Commit) e = ap (λ j. step_commit d j (d.stat j)) (e.job refl)
by_alike d r s (Some GiveUp) e = ap (λ j. step_give_up d j (d.stat j)) (e.job refl)
by_alike d r s (Some Retry) e = ap (λ j. step_retry d j (d.stat j)) (e.job refl)
by_alike d r s (Some (Asks a)) e = ap₂ (λ j c. step_ask d j c a (d.stat j)) (e.job refl) (e.cell refl)

-- requests of one kind that are alike for its letter make the same step
pub step_alike : (d : Desk) (r s : Request) → r.kind ≡ s.kind → Alike (letter_of r.kind) r s → step d r ≡ step d s
unfolding step
step_alike d r s k e = by_alike d r s (letter_of r.kind) e ∙ ap (λ b. step_by d s (letter_of b)) k
