-- A move carried out in place, branch by branch: the fields that the code leaves, and what it tells, are what the definition makes of the move.
-- Assumes nothing.
use Rattle.std.specs.Prelude.{Option, None, Some}
use Prim.Native.Nat.{ℕ, ◌<◌, ◌+◌}
use mathlib.Core.Path.{◌≡◌, refl, sym, ap, subst, ◌∙◌}
use mathlib.Core.List.{List}
use lib.Dec.{eqb}
use lib.ListN.{length, set}
use Rattle.laws.specs.Choice.{by_test}
use Rattle.std.specs.Prelude.{Result, Ok, Err}
use Rattle.laws.specs.Lists.{filled}
use Rattle.terms.specs.declared.letters.Ask.{Ask}
use Rattle.terms.specs.declared.letters.Letter.{Letter}
use Rattle.terms.specs.declared.refusals.Refusal.{Refusal}
use Rattle.terms.specs.declared.refusals.Refusal.TheVariants.{UnknownKind}
use Rattle.terms.specs.Letters.{byte_of, letter_of}
use Rattle.terms.proofs.Alphabet.{byte_of_letter, letter_of_byte}
use Rattle.terms.specs.Limits.{places, cells}
use Rattle.conflict.specs.declared.modes.Mode.{Mode}
use Rattle.conflict.specs.Modes.{code_of}
use Rattle.desks.specs.declared.Answer.{Answer}
use Rattle.desks.specs.declared.Answer.TheVariants.{No}
use Rattle.desk_arrays.specs.declared.state.Desk.{Desk}
use Rattle.desk_arrays.specs.declared.state.Told.{Told}
use Rattle.desk_arrays.specs.declared.moves.Ending.{Ending}
use Rattle.desk_arrays.specs.declared.moves.Move.{Move}
use Rattle.desk_arrays.specs.declared.moves.Move.TheVariants.{Begin, Keep, Take, Stay, End, Retry}
use Rattle.desk_arrays.specs.Codes.{running_code, waiting_code, sent_back_code, ask_code}
use Rattle.desk_arrays.specs.Places.{spot}
use Rattle.desk_arrays.specs.Moves.{status_of, move_for}
use Rattle.desk_arrays.specs.Steps.{desk_of, with_status, begun, with_mode, waiting_for, retried, retried_job, code_after, numbers_after, settled, ended, carried, answer_to, saying, performed, move_of, step_of}
use Rattle.desk_plan.specs.Fits.{Fits}
use Rattle.desk_plan.proofs.Fitting.{plan_fits}
use Rattle.desk.specs.InPlace.{Reached, woken_by, StepsTo}

module _ (next : ℕ) (number status cell held : List ℕ) (job c : ℕ) (letter : Letter) {m : Move} (plans : Ok m ≡ move_for next number status cell held job c (Some letter)) (long : length status ≡ places) where
  -- a plan speaks of places and cells that there are
  fits : Fits c (Ok m)
  fits = subst (Fits c) (sym plans) (plan_fits next number status cell held job c (Some letter) long)

  -- there is the place of a new job
  pub begin_place : {p n : ℕ} → m ≡ Begin p n → p < places
  begin_place e = rw e at fits

  -- there are the place and the cell of a mode
  pub take_spot : {p : ℕ} {mode : Mode} → m ≡ Take p mode → (p < places) × (c < cells)
  take_spot e = rw e at fits

  -- there are the place that waits and the cell that it waits for
  pub stay_spot : {p : ℕ} {a : Ask} → m ≡ Stay p a → (p < places) × (c < cells)
  stay_spot e = rw e at fits

  -- there is the place of a run that ends
  pub end_place : {p : ℕ} {e : Ending} → m ≡ End p e → p < places
  end_place e = rw e at fits

-- a retry changes nothing but what the places are doing
retried_status : (d : Desk) (job : ℕ) → with_status d (retried_job d job).status ≡ retried_job d job
unfolding retried_job retried
retried_status d job = by_test (eqb (status_of d.number d.status job) sent_back_code) (λ t. rw t) (λ f. rw f)

-- a plan carried out is the step
steps : {d : Desk} {l : List ℕ} {kind job c : ℕ} {m : Result Move Refusal} {a : Answer} {e : Desk} {w : List ℕ} {n : ℕ} → m ≡ move_of d kind job c → a ≡ answer_to m job →
    e ≡ (carried d job c m).desk → w ≡ filled (carried d job c m).woken l → n ≡ length (carried d job c m).woken →
    StepsTo d l kind job c e w (record { answer = a; count = n })
unfolding step_of performed saying woken_by
steps {d} {l} {kind} {job} {c} plans answers e f g = record {
  desk = e ∙ ap (λ x. (carried d job c x).desk) plans;
  answer = answers ∙ ap (λ x. answer_to x job) plans;
  count = g ∙ ap (λ x. length (carried d job c x).woken) plans;
  places = f ∙ ap (λ x. filled (carried d job c x).woken l) plans;
}

module _ (next : ℕ) (number status cell ask held l : List ℕ) (letter : Letter) (job c : ℕ) where
  -- the plan by the letter is the plan by its byte
  planned : {m : Result Move Refusal} → m ≡ move_for next number status cell held job c (Some letter) → m ≡ move_of (desk_of next number status cell ask held) (byte_of letter) job c
  unfolding move_of
  planned plans = plans ∙ ap (move_for next number status cell held job c) (sym (letter_of_byte letter))

  -- a refusal leaves the desk as it was
  pub refused : {why : Refusal} → Err why ≡ move_for next number status cell held job c (Some letter) →
      StepsTo (desk_of next number status cell ask held) l (byte_of letter) job c (desk_of next number status cell ask held) l (record { answer = No why; count = 0 })
  unfolding carried answer_to filled
  refused plans = steps (planned plans) refl refl refl refl

  module _ {m : Move} (plans : Ok m ≡ move_for next number status cell held job c (Some letter)) {a : Answer} (answers : a ≡ answer_to (Ok m) job) where
    -- a new number at its place
    pub begun_at : {p n k : ℕ} → m ≡ Begin p n → k ≡ n → StepsTo (desk_of next number status cell ask held) l (byte_of letter) job c (desk_of (k + 1) (set number p n) (set status p running_code) cell ask held) l (record { answer = a; count = 0 })
    unfolding carried begun filled
    begun_at e h = steps (planned plans) answers (rw (e, h)) (rw e) (rw e)

    -- a covering mode is held: nothing changes
    pub kept : m ≡ Keep → StepsTo (desk_of next number status cell ask held) l (byte_of letter) job c (desk_of next number status cell ask held) l (record { answer = a; count = 0 })
    unfolding carried filled
    kept e = steps (planned plans) answers (rw e) (rw e) (rw e)

    -- the place has the mode
    pub taken : {p code : ℕ} {mode : Mode} → m ≡ Take p mode → code ≡ code_of mode →
        StepsTo (desk_of next number status cell ask held) l (byte_of letter) job c (desk_of next number status cell ask (set held (spot c p) code)) l (record { answer = a; count = 0 })
    unfolding carried with_mode filled
    taken e h = steps (planned plans) answers (rw (e, h)) (rw e) (rw e)

    -- the place waits
    pub stayed : {p code : ℕ} {asks : Ask} → m ≡ Stay p asks → code ≡ ask_code asks →
        StepsTo (desk_of next number status cell ask held) l (byte_of letter) job c (desk_of next number (set status p waiting_code) (set cell p c) (set ask p code) held) l (record { answer = a; count = 0 })
    unfolding carried waiting_for filled
    stayed e h = steps (planned plans) answers (rw (e, h)) (rw e) (rw e)

    -- rule 4: what it reaches makes up the desk and the wakes
    pub ended_at : {p n : ℕ} {e : Ending} {number' held' status' woken : List ℕ} → m ≡ End p e →
        Reached (settled (desk_of 0 number status cell ask held) p (code_after e)) l held' status' woken n → number' ≡ numbers_after e number p →
        StepsTo (desk_of next number status cell ask held) l (byte_of letter) job c (desk_of next number' status' cell ask held') woken (record { answer = a; count = n })
    unfolding carried ended settled
    ended_at e r f = steps (planned plans) answers (rw (e, f, r.modes, r.doing)) (rw e r.places) (rw e r.many)

    -- the job runs again
    pub tried : {status' : List ℕ} → m ≡ Retry → status' ≡ (retried_job (desk_of next number status cell ask held) job).status →
        StepsTo (desk_of next number status cell ask held) l (byte_of letter) job c (desk_of next number status' cell ask held) l (record { answer = a; count = 0 })
    unfolding carried filled
    tried e h = steps (planned plans) answers (rw e (ap (with_status (desk_of next number status cell ask held)) h ∙ retried_status (desk_of next number status cell ask held) job)) (rw e) (rw e)

-- a byte that is no letter's is refused
pub refused_byte : {d : Desk} {l : List ℕ} {kind job c : ℕ} → letter_of kind ≡ None → StepsTo d l kind job c d l (record { answer = No UnknownKind; count = 0 })
unfolding move_of move_for answer_to carried filled
refused_byte {d} {l} {kind} {job} {c} h =
    steps {m = Err UnknownKind} (rw h) refl refl refl refl

-- the step by the letter of a byte is the step by the byte
pub by_letter : {d e : Desk} {l w : List ℕ} {kind job c : ℕ} {letter : Letter} {t : Told} → letter_of kind ≡ Some letter → StepsTo d l (byte_of letter) job c e w t → StepsTo d l kind job c e w t
by_letter {d} {e} {l} {w} {kind} {job} {c} {letter} {t} h s = subst (λ k. StepsTo d l k job c e w t) (byte_of_letter kind letter h) s
