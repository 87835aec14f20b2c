-- A refused step leaves the arrays exactly as they were: only a refusing move answers with a refusal (02, No. 6; 01, Refusals by number).
-- Assumes nothing.
use Prim.Native.Nat.{ℕ}
use mathlib.Core.Path.{◌≡◌, refl}
use Rattle.std.specs.Prelude.{Result, Ok, Err}
use Rattle.terms.specs.declared.refusals.Refusal.{Refusal}
use Rattle.desks.specs.declared.Answer.TheVariants.{No}
use Rattle.desks.proofs.Answers.{other-answer}
use Rattle.stamp_arrays.specs.declared.state.Stamps.{Stamps}
use Rattle.stamp_arrays.specs.declared.moves.Move.{Move}
use Rattle.stamp_arrays.specs.declared.moves.Move.TheVariants.{Begin, Close, SendBack, Act}
use Rattle.stamp_arrays.specs.Steps.{carried, answer_to, move_of, step_of}

-- a move whose answer is a refusal changes nothing
refuses : (d : Stamps) (job c : ℕ) (m : Result Move Refusal) (why : Refusal) → answer_to m job ≡ No why → carried d job c m ≡ d
unfolding carried answer_to
refuses d job c (Err x) why e = refl
refuses d job c (Ok (Begin p n)) why e = other-answer e refl
refuses d job c (Ok (Close p)) why e = other-answer e refl
refuses d job c (Ok (SendBack p)) why e = other-answer e refl
refuses d job c (Ok (Act a)) why e = other-answer e refl

-- A REFUSED STEP LEAVES THE ARRAYS EXACTLY AS THEY WERE, started or not
pub stamp_refusal_kept : (d : Stamps) (kind job c : ℕ) (why : Refusal) → (step_of d kind job c).answer ≡ No why → (step_of d kind job c).stamps ≡ d
unfolding step_of
stamp_refusal_kept d kind job c why e = refuses d job c (move_of d kind job c) why e
