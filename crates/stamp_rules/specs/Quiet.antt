-- What is promised never to happen on a timestamp desk: no job waits, no job is woken, and 4, 5 and 8 are never given (02, No. 6).
use Rattle.std.specs.Prelude.{ℕ, ◌≡◌, ◌≢◌, true, [], ◌∷◌}
use Rattle.laws.specs.Lists.{member}
use Rattle.terms.specs.declared.refusals.Refusal.{Refusal}
use Rattle.terms.specs.Refusals.{number_of}
use Rattle.desks.specs.declared.Answer.TheVariants.{Wait, No}
use Rattle.desks.specs.Request.{Request}
use Rattle.desks.specs.Course.{Course, to}
use Rattle.stamp_rules.specs.Desk.{Desk}

pub record Quiet (k : Course Desk) (r : Request) : Type 0 where
  -- no job ever waits
  pub never_waits : (j : ℕ) → (to k r).said ≢ Wait j
  -- no step wakes a job
  pub never_wakes : (to k r).wakes ≡ []
  -- a step gives only the refusals 1, 2, 3, 6, 7 and 19: never 4, 5 or 8
  pub only_these : (why : Refusal) → (to k r).said ≡ No why → member (number_of why) (1 ∷ 2 ∷ 3 ∷ 6 ∷ 7 ∷ 19 ∷ []) ≡ true
