-- ONE DESK, LENT ALL NIGHT: calls that each leave and tell what the step does have the result of the steps. If that desk follows another, every invariant of the other's started desks holds after the calls.
-- Assumes nothing.
use Prim.Native.Nat.{ℕ}
use mathlib.Core.Path.{◌≡◌, refl, sym, ap, ap₂, subst₂, ◌∙◌}
use mathlib.Core.List.{List, [], ◌∷◌, ◌++◌, map}
use Rattle.conflict.specs.History.{History}
use Rattle.desks.specs.Request.{Request}
use Rattle.desks.specs.Stepping.{Stepped, Stepping, through}
use Rattle.desks.specs.Records.{records_by}
use Rattle.desks.specs.Started.{StartedOn}
use Rattle.desks.specs.Requests.{writes}
use Rattle.desks.specs.Course.{Course, course}
use Rattle.desks.specs.Told.{step_told, answers_of}
use Rattle.desks.specs.Follows.{Follows}
use Rattle.desks.proofs.StartedThrough.{run_started}
use Rattle.desks.proofs.Following.{keeps_too}
use Rattle.lent.specs.Calls.{Lent, over, next, left_by, answers_by, wrote_by, steps_of, AsSteps}

module _ {S : Type 0} (does : Stepping S) where
  -- what steps leave in the end, answer and write, by the list of what each leaves and tells
  steps_left : (d : S) (rs : List Request) → left_by d (steps_of does d rs) ≡ through does d rs
  unfolding left_by steps_of
  steps_left d [] = refl
  steps_left d (r ∷ rs) = steps_left (does d r).desk rs

  steps_answered : (d : S) (rs : List Request) → answers_by (steps_of does d rs) ≡ answers_of does d rs
  unfolding answers_by steps_of answers_of
  steps_answered d [] = refl
  steps_answered d (r ∷ rs) = ap (λ xs. step_told (does d r).said (does d r).wakes ++ xs) (steps_answered (does d r).desk rs)

  steps_wrote : (d : S) (rs : List Request) → wrote_by rs (steps_of does d rs) ≡ writes does d rs
  unfolding wrote_by steps_of writes records_by
  steps_wrote d [] = refl
  steps_wrote d (r ∷ rs) = ap (λ h. records_by does d r ++ h) (steps_wrote (does d r).desk rs)

module _ {S O : Type 0} {tell : O → Stepped S} {call : S → Request → O → Type 0} {does : Stepping S} (same : (d : S) (r : Request) (o : O) → call d r o → tell o ≡ does d r) where
  -- each call leaves and tells what the step of its request does
  each_step : {d : S} {rs : List Request} {os : List O} → Lent (λ o. (tell o).desk) call d rs os → map tell os ≡ steps_of does d rs
  unfolding steps_of
  each_step (over d) = refl
  each_step (next {d = d} {r = r} {o = o} {rs = rs} c more) =
      ap₂ (λ x xs. x ∷ xs) (same d r o c) (each_step more ∙ ap (λ x. steps_of does x.desk rs) (same d r o c))

  -- so calls come to what the steps come to
  pub as_steps : {d : S} {rs : List Request} {os : List O} → Lent (λ o. (tell o).desk) call d rs os → AsSteps does d rs (map tell os)
  as_steps {d} {rs} l =
      let e = each_step l in
      record { each = e; desk = ap (left_by d) e ∙ steps_left does d rs; answers = ap answers_by e ∙ steps_answered does d rs; history = ap (wrote_by rs) e ∙ steps_wrote does d rs }

  module _ {T : Type 0} {see : S → T} {new : ℕ → S} {theirs : Stepping T} {first : ℕ → T} (f : Follows see does new theirs first) where
    -- the desk after the calls is a started one, with the history that they wrote
    pub lent_started : {d : S} {h : History} {rs : List Request} {os : List O} → StartedOn does new d h → Lent (λ o. (tell o).desk) call d rs os → StartedOn does new (left_by d (map tell os)) (h ++ wrote_by rs (map tell os))
    lent_started {h = h} {rs = rs} s l =
        let a = as_steps l in
        subst₂ (StartedOn does new) (sym a.desk) (ap (λ g. h ++ g) (sym a.history)) (run_started s rs)

    -- so it keeps what is kept by every started desk of the other's
    pub lent_keeps : {d : S} {h : History} {rs : List Request} {os : List O} (P : History → Course T → Type 0) → ((g : History) (e : T) → StartedOn theirs first e g → P g (course (λ e. e) theirs e))
        → StartedOn does new d h → Lent (λ o. (tell o).desk) call d rs os → P (h ++ wrote_by rs (map tell os)) (course see does (left_by d (map tell os)))
    lent_keeps {h = h} {rs = rs} {os = os} P kept s l = keeps_too f P (kept (h ++ wrote_by rs (map tell os))) (lent_started s l)

-- where a call may always come to something, any requests have their calls
pub calls_for : {S O : Type 0} (leaves : O → S) {call : S → Request → O → Type 0} (comes : S → Request → O) → ((d : S) (r : Request) → call d r (comes d r)) → (d : S) (rs : List Request) → (os : List O) × Lent leaves call d rs os
calls_for leaves comes may d [] = ([], over d)
calls_for leaves comes may d (r ∷ rs) = let (os, l) = calls_for leaves comes may (leaves (comes d r)) rs in (comes d r ∷ os, next (may d r) l)
