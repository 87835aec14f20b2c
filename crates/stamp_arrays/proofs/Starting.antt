-- A timestamp desk can be started at every number but 0; at 0 there is refusal 10 and no desk (01, refusal 10; 02, No. 6).
-- Assumes nothing.
use Prim.Native.Nat.{ℕ, ◌≤◌}
use mathlib.Core.Path.{◌≡◌, refl, sym, ◌∙◌}
use mathlib.Core.List.{[]}
use Rattle.std.specs.Prelude.{Result, Ok, Err}
use Rattle.terms.specs.declared.refusals.Refusal.{Refusal}
use Rattle.terms.specs.declared.refusals.Refusal.TheVariants.{StartedAtZero}
use Rattle.terms.specs.Refusals.{number_of}
use Rattle.terms.specs.Limits.{last_number}
use Rattle.desks.specs.Start.{start_at}
use Rattle.desks.proofs.Starting.{start_refused_when, start_started}
use Rattle.stamp_arrays.specs.declared.state.Stamps.{Stamps}
use Rattle.stamp_arrays.specs.Steps.{empty_stamps, start_of}
use Rattle.stamp_arrays.specs.Seen.{on_stamps, Started}

-- a start is that of every desk: 10 at 0, and else the empty desk whose next number is the one given
pub stamps_start : (n : ℕ) → start_of n ≡ start_at empty_stamps n
unfolding start_of start_at
stamps_start n = refl

-- a desk started at 0 is refused with 10, and there is no desk (01, refusal 10)
pub stamps_start_at_zero : (start_of 0 ≡ Err StartedAtZero) × (number_of StartedAtZero ≡ 10)
unfolding start_of
stamps_start_at_zero = (refl, refl)

-- a start is refused only at 0, and only by refusal 10
pub stamps_start_refused_when : (n : ℕ) (why : Refusal) → start_of n ≡ Err why → (n ≡ 0) × (why ≡ StartedAtZero)
stamps_start_refused_when n why e = start_refused_when empty_stamps n why (sym (stamps_start n) ∙ e)

-- a desk that is handed out at a number up to 4,294,967,295 is a started one with an empty history
pub stamps_start_started : (n : ℕ) (d : Stamps) → n ≤ last_number → start_of n ≡ Ok d → Started d []
stamps_start_started n d last e = start_started empty_stamps on_stamps n d last (sym (stamps_start n) ∙ e)

-- the desk handed out at 1
pub stamps_first : {d : Stamps} → Ok d ≡ start_of 1 → d ≡ empty_stamps 1
unfolding start_of
stamps_first {d} e = let q : ◌≡◌ {A = Result Stamps Refusal} (Ok d) (Ok (empty_stamps 1)) = e in cc
