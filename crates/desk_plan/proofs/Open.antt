-- An open job has a place below 32.
-- Assumes nothing.
use Prim.Native.Nat.{ℕ, ◌≤◌, ◌<◌}
use mathlib.Core.Path.{◌≡◌, sym, ◌∙◌}
use mathlib.Core.Bool.{false}
use mathlib.Core.List.{List}
use native.Mathlib.Omega.{arith}
use lib.Dec.{eqb, ltb}
use lib.ListN.{length, get_or-eq_default}
use borrow.Author.Tests.{eqb-false, ltb-true, ltb-false}
use Rattle.laws.specs.Choice.{by_test}
use Rattle.laws.specs.Lists.{pos}
use Rattle.std.specs.Prelude.{Result, Ok, Err}
use Rattle.terms.specs.declared.refusals.Refusal.{Refusal}
use Rattle.terms.specs.declared.refusals.Refusal.TheVariants.{NotOpen}
use Rattle.desk_arrays.specs.Codes.{free_code}
use Rattle.desk_arrays.specs.Moves.{status_of}
use Rattle.desk_arrays.specs.Moves.{standing_of}

-- a number that no place has belongs to nobody
pub nowhere_free : (number status : List ℕ) (job : ℕ) → length status ≤ pos number job → status_of number status job ≡ free_code
unfolding status_of
nowhere_free number status job h =
    by_test (eqb job 0) (λ t. rw t) (λ t. rw t (get_or-eq_default status 0 h))

-- an open job has a place
pub open_inside : (number status : List ℕ) (job : ℕ) → length status ≡ 32 → eqb (status_of number status job) free_code ≡ false → pos number job < 32
open_inside number status job e h =
    by_test (ltb (pos number job) 32) (ltb-true (pos number job) 32)
    (λ f. absurd (eqb-false (status_of number status job) free_code h (nowhere_free number status job (omega (arith, ltb-false (pos number job) 32 f)))))

-- a running job is open
pub runs_open : (code : ℕ) {s : Result (Unit {0}) Refusal} {u : Unit {0}} → s ≡ standing_of code → s ≡ Ok u → 0 < code
unfolding standing_of
runs_open code {s} {u} g h =
    by_test (eqb code free_code) (λ t. let e : ◌≡◌ {A = Result (Unit {0}) Refusal} (Err NotOpen) (Ok u) = rw t at (sym g ∙ h) in cc) (λ f. let z = eqb-false code 0 f in omega arith)
