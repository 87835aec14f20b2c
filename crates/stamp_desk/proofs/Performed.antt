-- A plan names only places and cells that exist, and carried out on the fields in place it is the step.
-- Assumes nothing.
use Prim.Native.Nat.{ℕ, ◌<◌}
use mathlib.Core.Path.{◌≡◌, sym, ap, subst, ◌∙◌}
use mathlib.Core.List.{List}
use lib.Dec.{eqb, ltb}
use lib.ListN.{get_or}
use borrow.Author.Tests.{ltb-true}
use Rattle.std.specs.Prelude.{Option, Some, None, Result}
use Rattle.laws.specs.Choice.{by_test}
use Rattle.laws.specs.Lists.{pos}
use Rattle.terms.specs.declared.letters.Ask.{Ask}
use Rattle.terms.specs.declared.letters.Letter.TheVariants.{Begin as begins, Commit, GiveUp, Retry, Back as no-request, Asks}
use Rattle.terms.specs.declared.refusals.Refusal.{Refusal}
use Rattle.terms.specs.declared.refusals.Refusal.TheVariants.{UnknownKind}
use Rattle.terms.specs.declared.letters.Letter.{Letter}
use Rattle.terms.specs.Letters.{byte_of, letter_of}
use Rattle.terms.proofs.Alphabet.{byte_of_letter, letter_of_byte}
use Rattle.terms.specs.Limits.{places, cells, last_number}
use Rattle.desks.specs.declared.Answer.{Answer}
use Rattle.desks.specs.declared.Answer.TheVariants.{No}
use Rattle.desks.specs.Opening.{opening_of}
use Rattle.stamp_arrays.specs.declared.state.Stamps.{Stamps}
use Rattle.stamp_arrays.specs.declared.moves.Move.{Move}
use Rattle.stamp_arrays.specs.Steps.{late_with, opened, begin_move, found_at, close_move, retry_move, act_move, ask_move, move_for, carried, answer_to, move_of, step_of}
use Rattle.stamp_desk.specs.InPlace.{Fits, StepsTo}

-- a begin's place is there
fits_begin : (next : ℕ) (number : List ℕ) (c : ℕ) → Fits c (begin_move next number)
unfolding begin_move opened opening_of
fits_begin next number c =
    by_test (ltb last_number next) (λ t. rw t tt)
    (λ f. rw f (by_test (ltb (pos number 0) places) (λ t. rw t (ltb-true (pos number 0) places t)) (λ g. rw g tt)))

-- where a job stands there is a place
abbrev There : Option ℕ → Type 0
There (Some p) = p < places
There None = Unit {0}

-- so it is with where it is found
found_there : (number : List ℕ) (job : ℕ) → There (found_at number job)
unfolding found_at
found_there number job =
    by_test (eqb job 0) (λ t. rw t tt)
    (λ f. rw f (by_test (ltb (pos number job) places) (λ t. rw t (ltb-true (pos number job) places t)) (λ g. rw g tt)))

-- a closing's place is there
fits_close : (c : ℕ) (f : Option ℕ) → There f → Fits c (close_move f)
unfolding close_move
fits_close c (Some p) h = h
fits_close c None h = tt

-- a retry is refused
fits_retry : (c : ℕ) (f : Option ℕ) → Fits c (retry_move f)
unfolding retry_move
fits_retry c (Some p) = tt
fits_retry c None = tt

-- an action's cell is there, and the place of a job that is sent back
fits_ask : (reader writer : List ℕ) (f : Option ℕ) (job c : ℕ) (a : Ask) → There f → Fits c (ask_move reader writer f job c a)
unfolding ask_move act_move
fits_ask reader writer (Some p) job c a h =
    by_test (ltb c cells)
    (λ t. rw t (by_test (late_with (get_or reader c 0) (get_or writer c 0) job a) (λ u. rw u h) (λ g. rw g (ltb-true c cells t))))
    (λ f. rw f tt)
fits_ask reader writer None job c a h = tt

-- every plan fits
pub plan_fits : (next : ℕ) (number reader writer : List ℕ) (job c : ℕ) (l : Option Letter) → Fits c (move_for next number reader writer job c l)
unfolding move_for
plan_fits next number reader writer job c None = tt
plan_fits next number reader writer job c (Some no-request) = tt
plan_fits next number reader writer job c (Some begins) = fits_begin next number c
plan_fits next number reader writer job c (Some Commit) = fits_close c (found_at number job) (found_there number job)
plan_fits next number reader writer job c (Some GiveUp) = fits_close c (found_at number job) (found_there number job)
plan_fits next number reader writer job c (Some Retry) = fits_retry c (found_at number job)
plan_fits next number reader writer job c (Some (Asks a)) = fits_ask reader writer (found_at number job) job c a (found_there number job)

-- the plan by the letter is the plan by its byte, and carried out it is the step
pub steps : (d : Stamps) (letter : Letter) (job c : ℕ) {m : Result Move Refusal} {e : Stamps} {x : Answer} → m ≡ move_for d.next d.number d.reader d.writer job c (Some letter) →
    e ≡ carried d job c m → x ≡ answer_to m job → StepsTo d (byte_of letter) job c e x
unfolding step_of move_of
steps d letter job c {m} plans p q =
    let planned : m ≡ move_of d (byte_of letter) job c = plans ∙ ap (move_for d.next d.number d.reader d.writer job c) (sym (letter_of_byte letter)) in
    record { desk = p ∙ ap (carried d job c) planned; said = q ∙ ap (λ y. answer_to y job) planned }

-- a byte that is no letter's is refused
pub refused_byte : (d : Stamps) (kind job c : ℕ) → letter_of kind ≡ None → StepsTo d kind job c d (No UnknownKind)
unfolding step_of move_of move_for carried answer_to
refused_byte d kind job c h = record { desk = rw h; said = rw h }

-- a step by a letter is the step by the byte that is the letter's
pub by_letter : {d e : Stamps} {kind job c : ℕ} {letter : Letter} {x : Answer} → letter_of kind ≡ Some letter → StepsTo d (byte_of letter) job c e x → StepsTo d kind job c e x
by_letter {d} {e} {kind} {job} {c} {letter} {x} h s = subst (λ k. StepsTo d k job c e x) (byte_of_letter kind letter h) s
