-- A refused step leaves the arrays exactly as they were and wakes nobody: only a refusing move answers with a refusal (demand 1; 01, Refusals by number).
-- Assumes nothing.
use Prim.Native.Nat.{ℕ}
use mathlib.Core.Path.{◌≡◌, ap}
use mathlib.Core.List.{[]}
use Rattle.std.specs.Prelude.{Result, Ok, Err}
use Rattle.terms.specs.declared.refusals.Refusal.{Refusal}
use Rattle.desks.specs.declared.Answer.TheVariants.{No}
use Rattle.desk_arrays.specs.declared.state.Desk.{Desk}
use Rattle.desk_arrays.specs.declared.state.Outcome.{Outcome}
use Rattle.desk_arrays.specs.declared.moves.Ending.TheVariants.{Closed, SentBack}
use Rattle.desk_arrays.specs.declared.moves.Move.{Move}
use Rattle.desk_arrays.specs.declared.moves.Move.TheVariants.{Begin, Keep, Take, Stay, End, Retry}
use Rattle.desk_arrays.specs.Steps.{carried, answer_after, answer_to, saying, performed, move_of, step_of}

-- a refusal, and nothing else
abbrev pub refusing : Desk → Refusal → Outcome
refusing d why = record { desk = d; said = saying d (No why) [] }

-- equal answers refuse for the same reason
same_refusal : (x y : Refusal) → No x ≡ No y → x ≡ y
same_refusal x y e = cc

-- a move whose answer is a refusal is that refusal
refuses : (d : Desk) (job c : ℕ) (m : Result Move Refusal) (why : Refusal) → answer_to m job ≡ No why → performed d job c m ≡ refusing d why
unfolding performed carried answer_to answer_after
refuses d job c (Err x) why e = ap (refusing d) (same_refusal x why e)
refuses d job c (Ok (Begin p n)) why e = cc
refuses d job c (Ok Keep) why e = cc
refuses d job c (Ok (Take p m)) why e = cc
refuses d job c (Ok (Stay p a)) why e = cc
refuses d job c (Ok (End p Closed)) why e = cc
refuses d job c (Ok (End p SentBack)) why e = cc
refuses d job c (Ok Retry) why e = cc

module _ (d : Desk) (kind job c : ℕ) (why : Refusal) (refused : (step_of d kind job c).said.answer ≡ No why) where
  -- a step that answers with a refusal is that refusal and nothing else
  pub exactly_refused : step_of d kind job c ≡ refusing d why
  exactly_refused = unfold step_of in refuses d job c (move_of d kind job c) why (answered refused)
    where
      answered : (step_of d kind job c).said.answer ≡ No why → answer_to (move_of d kind job c) job ≡ No why
      answered e = unfold step_of performed saying in e

  -- a refused step leaves the desk exactly as it was (demand 1)
  pub desk_refusal_kept : (step_of d kind job c).desk ≡ d
  desk_refusal_kept = ap (λ o. o.desk) exactly_refused

  -- it tells no wake
  pub desk_refusal_quiet : (step_of d kind job c).said.count ≡ 0
  unfolding saying
  desk_refusal_quiet = ap (λ o. o.said.count) exactly_refused
