-- The retry of a job by its number: a sent back job runs again, else nothing changes; this is the desk that a retry step leaves.
-- Assumes nothing.
use Prim.Native.Nat.{ℕ, ◌≤◌}
use mathlib.Core.Path.{◌≡◌, refl, sym, ap, ◌∙◌}
use native.Mathlib.Omega.{arith}
use lib.Dec.{eqb}
use lib.ListN.{length, get_or, get_or-eq_default}
use borrow.Author.Tests.{eq-eqb, ne_eqb, eqb-true}
use Rattle.laws.specs.Choice.{by_test}
use Rattle.laws.proofs.Choosing.{pick_then, pick_else}
use Rattle.laws.specs.Lists.{pos}
use Rattle.desk_arrays.specs.declared.state.Desk.{Desk}
use Rattle.desk_arrays.specs.Codes.{free_code, waiting_code, sent_back_code}
use Rattle.desk_arrays.specs.Moves.{status_of, found_at, retry_move}
use Rattle.desk_arrays.specs.Steps.{retried, retried_job, carried}

-- what a job other than 0 is doing, read at its place
status_at_lem : (d : Desk) (job p : ℕ) → (job ≡ 0 → ⊥) → p ≡ pos d.number job → status_of d.number d.status job ≡ get_or d.status p 0
unfolding status_of
status_at_lem d job p z e = rw (ne_eqb job 0 z, e)

-- no job has the number 0
pub nobody_retries : (d : Desk) (job : ℕ) → job ≡ 0 → d ≡ retried_job d job
unfolding retried_job status_of
nobody_retries d job e = rw (eq-eqb job 0 e)

-- sent back: it runs again
pub back_retries : (d : Desk) (job p : ℕ) → (job ≡ 0 → ⊥) → p ≡ pos d.number job → get_or d.status p 0 ≡ 3 → retried d p ≡ retried_job d job
unfolding retried_job
back_retries d job p z e s = pick_then _ _ _ _ (eq-eqb _ _ (status_at_lem d job p z e ∙ s)) (ap (retried d) e)

-- not sent back: nothing changes
pub other_stays : (d : Desk) (job p : ℕ) → (job ≡ 0 → ⊥) → p ≡ pos d.number job → (get_or d.status p 0 ≡ 3 → ⊥) → d ≡ retried_job d job
unfolding retried_job
other_stays d job p z e s = pick_else _ _ _ _ (ne_eqb _ _ (λ q. s (sym (status_at_lem d job p z e) ∙ q))) refl

-- not open: nothing changes
pub unopened_stays : (d : Desk) (job p : ℕ) → (job ≡ 0 → ⊥) → p ≡ pos d.number job → length d.status ≡ 32 → 32 ≤ p → d ≡ retried_job d job
unopened_stays d job p z e n l =
    let k : length d.status ≤ p = omega arith in
    other_stays d job p z e (λ q. let h : get_or d.status p 0 ≡ 0 = get_or-eq_default d.status 0 k in omega arith)

-- so it is the desk that a retry step leaves (01, rule 5)
pub retried_step : (d : Desk) (job c : ℕ) → retried_job d job ≡ (carried d job c (retry_move (found_at d.number d.status job))).desk
unfolding retried_job carried retry_move found_at
retried_step d job c =
    let s = status_of d.number d.status job in
    by_test (eqb s free_code) (λ t. rw (t, ne_eqb s sent_back_code (λ q. let z : s ≡ 0 = eqb-true s 0 t in omega arith)))
    (λ f. by_test (eqb s waiting_code) (λ t. rw (f, t, ne_eqb s sent_back_code (λ q. let z : s ≡ 2 = eqb-true s 2 t in omega arith)))
    (λ g. by_test (eqb s sent_back_code) (λ t. rw (f, g, t) (rw t)) (λ h. rw (f, g, h))))
