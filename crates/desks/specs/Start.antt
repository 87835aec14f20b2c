-- A desk is started at a first number; at 0 there is no desk (01, Jobs and their numbers; 01, refusal 10).
use Rattle.std.specs.Prelude.{ℕ, eqb, Result, Ok, Err}
use Rattle.laws.specs.Choice.{pick}
use Rattle.terms.specs.declared.refusals.Refusal.{Refusal}
use Rattle.terms.specs.declared.refusals.Refusal.TheVariants.{StartedAtZero}

-- what a start gives: refusal 10 and no desk at number 0; at any other number the fresh desk whose next number is the one given
unfoldable pub start_at : {S : Type 0} → (ℕ → S) → ℕ → Result S Refusal
start_at new n = pick (eqb n 0) (Err StartedAtZero) (Ok (new n))
