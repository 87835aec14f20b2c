-- One step over the arrays is the step of the request's desk that they show, letter by letter (02, No. 6).
-- Assumes nothing.
use Prim.Native.Nat.{ℕ, ◌<◌}
use mathlib.Core.Path.{◌≡◌, refl, sym, ap, ◌∙◌, fun_ext}
use mathlib.Core.Bool.{true, false, not, ◌&&◌}
use mathlib.Core.List.{List, []}
use native.Mathlib.Numerals.{add-one}
use lib.Dec.{eqb, ltb}
use lib.ListN.{length, get_or, set}
use lib.Seq.{get_or-set_same, get_or-set_other}
use borrow.Author.Tests.{eqb-false, ltb-true}
use Rattle.std.specs.Prelude.{Option, Some, None, Result, Ok}
use Rattle.laws.specs.Choice.{by_test, not_both}
use Rattle.laws.specs.Functions.{at}
use Rattle.laws.specs.Larger.{larger}
use Rattle.laws.specs.Lists.{member, pos}
use Rattle.laws.proofs.Functions.{at_all}
use Rattle.laws.proofs.Parts.{and_second}
use Rattle.terms.specs.declared.letters.Letter.{Letter}
use Rattle.terms.specs.declared.letters.Ask.{Ask}
use Rattle.terms.specs.declared.letters.Ask.TheVariants.{Read, Write, Increment, Update}
use Rattle.terms.specs.declared.letters.Letter.TheVariants.{Begin as begins, Commit, GiveUp, Retry, Back as no-request, Asks}
use Rattle.terms.specs.declared.refusals.Refusal.{Refusal}
use Rattle.terms.specs.Limits.{places, cells, last_number}
use Rattle.desks.specs.Begin.{refused, beginning}
use Rattle.desks.specs.Opening.{opening_of}
use Rattle.desks.specs.Places.{Once, vacated}
use Rattle.desks.specs.Request.{Request}
use Rattle.desks.specs.Stepping.{Stepped}
use Rattle.desks.specs.Course.{shown}
use Rattle.desks.proofs.Places.{seated_set, vacated_set}
use Rattle.desks.proofs.Seats.{place_found}
use Rattle.stamp_rules.specs.Desk.{is_open}
use Rattle.stamp_rules.specs.Rules.{late_to_read, late_to_write, late, has_read, has_written, done, close, ask, begin}
use Rattle.stamp_rules.specs.Step.{step_begin, step_close, step_retry, step_ask, step_by}
use Rattle.stamp_arrays.specs.declared.state.Stamps.{Stamps}
use Rattle.desks.specs.declared.Answer.TheVariants.{Go, Back}
use Rattle.stamp_arrays.specs.declared.moves.Move.{Move}
use Rattle.stamp_arrays.specs.declared.moves.Move.TheVariants.{SendBack, Act}
use Rattle.stamp_arrays.specs.Steps.{late_with, opened, begin_move, found_at, close_move, retry_move, act_move, ask_move, move_for, readers_after, writers_after, carried, answer_to}
use Rattle.stamp_arrays.specs.Seen.{view}

-- as many numbers as there are places and cells
pub record Plain (d : Stamps) : Type 0 where
  pub numbers : length d.number ≡ places
  pub readers : length d.reader ≡ cells
  pub writers : length d.writer ≡ cells

-- what a move leaves and says
abbrev pub told : Stamps → ℕ → ℕ → Result Move Refusal → Stepped Stamps
told d job c m = record { desk = carried d job c m; said = answer_to m job; wakes = [] }

-- one number of an array changes: so what is read off it changes at that number alone
read_set : (l : List ℕ) (c x : ℕ) → c < length l → (λ b. get_or (set l c x) b 0) ≡ at (λ b. get_or l b 0) c x
read_set l c x h = fun_ext (at_all (λ b y. get_or (set l c x) b 0 ≡ y) (λ b. get_or l b 0) c x (get_or-set_same l c x 0 h) (λ b n. get_or-set_other l c b x 0 n))

-- a job is late by the cell's two numbers as it is on the desk
late_seen : (d : Stamps) (j c : ℕ) (a : Ask) → late_with (get_or d.reader c 0) (get_or d.writer c 0) j a ≡ late (view d) j c a
unfolding late_with late late_to_read late_to_write
late_seen d j c Read = refl
late_seen d j c Write = refl
late_seen d j c Increment = refl
late_seen d j c Update = refl

module _ (d : Stamps) (p : Plain d) where
  -- a begin
  begin_tied : (job c : ℕ) → shown view (told d job c (begin_move d.next d.number)) ≡ step_begin (view d)
  unfolding begin_move opened opening_of carried answer_to step_begin beginning refused begin
  begin_tied job c =
      let same : ltb (pos d.number 0) places ≡ member 0 d.number = ap (ltb (pos d.number 0)) (sym p.numbers) ∙ place_found d.number 0 in
      by_test (ltb last_number d.next) (λ t. rw t)
      (λ f. by_test (member 0 d.number) (λ t. rw (f, same, t, add-one d.next, seated_set d.next d.number t)) (λ g. rw (f, same, g)))

  module _ (job : ℕ) where
    -- an open job has a place, and its number is not 0
    open_place : is_open (view d) job ≡ true → (eqb job 0 ≡ false) × (member job d.number ≡ true)
    unfolding is_open
    open_place o = (by_test (eqb job 0) (λ t. not_both (rw t at o) refl) (λ f. f), and_second (not (eqb job 0)) (member job d.number) o)

    -- whether it is found within the places is whether it has one
    found_seat : ltb (pos d.number job) places ≡ member job d.number
    found_seat = ap (ltb (pos d.number job)) (sym p.numbers) ∙ place_found d.number job

    -- an open job is found at its place
    found_open : is_open (view d) job ≡ true → found_at d.number job ≡ Some (pos d.number job)
    unfolding found_at
    found_open o = let s = open_place o in rw (s.0, found_seat, s.1)

    -- and any other nowhere
    found_closed : is_open (view d) job ≡ false → found_at d.number job ≡ None
    unfolding found_at is_open
    found_closed n = by_test (eqb job 0) (λ t. rw t) (λ f. rw (f, found_seat, sym (ap (λ b. not b && member job d.number) f) ∙ n))

    -- the places once an open job has left its own
    left_place : Once d.number → is_open (view d) job ≡ true → set d.number (pos d.number job) 0 ≡ vacated job d.number
    left_place once o = let s = open_place o in sym (vacated_set job d.number once (eqb-false job 0 s.0) s.1)

    -- a commit and a give-up
    close_tied : Once d.number → (c : ℕ) → shown view (told d job c (close_move (found_at d.number job))) ≡ step_close (view d) job
    unfolding step_close close_move carried answer_to close refused
    close_tied once c = by_test (is_open (view d) job) (λ o. rw (o, found_open o, left_place once o)) (λ n. rw (n, found_closed n))

    -- a retry
    retry_tied : (c : ℕ) → shown view (told d job c (retry_move (found_at d.number job))) ≡ step_retry (view d) job
    unfolding step_retry retry_move carried answer_to refused
    retry_tied c = by_test (is_open (view d) job) (λ o. rw (o, found_open o)) (λ n. rw (n, found_closed n))

    -- what a job that goes leaves of the cells' numbers
    act_tied : (c : ℕ) → c < cells → (a : Ask) → view (carried d job c (Ok (Act a))) ≡ done (view d) job c a
    unfolding carried readers_after writers_after done has_read has_written
    act_tied c h Read = rw (read_set d.reader c (larger (get_or d.reader c 0) job) (rw p.readers h))
    act_tied c h Write = rw (read_set d.writer c job (rw p.writers h))
    act_tied c h Increment = rw (read_set d.reader c (larger (get_or d.reader c 0) job) (rw p.readers h), read_set d.writer c job (rw p.writers h))
    act_tied c h Update = rw (read_set d.reader c (larger (get_or d.reader c 0) job) (rw p.readers h))

    -- a request for a cell
    ask_tied : Once d.number → (c : ℕ) (a : Ask) → shown view (told d job c (ask_move d.reader d.writer (found_at d.number job) job c a)) ≡ step_ask (view d) job c a
    unfolding step_ask ask_move act_move refused ask
    ask_tied once c a =
        by_test (is_open (view d) job)
        (λ o. rw (o, found_open o) (by_test (ltb c cells)
        (λ t. rw (t, late_seen d job c a) (by_test (late (view d) job c a) (λ l. rw l (back_tied o)) (λ g. rw g (gone_tied (ltb-true c cells t)))))
        (λ f. rw f (unfold carried answer_to in refl))))
        (λ n. rw (n, found_closed n) (unfold carried answer_to in refl))
      where
        back_tied : is_open (view d) job ≡ true → shown view (told d job c (Ok (SendBack (pos d.number job)))) ≡ close (view d) job (Back job)
        back_tied o = unfold carried answer_to close in rw (left_place once o)

        gone_tied : c < cells → shown view (told d job c (Ok (Act a))) ≡ record { desk = done (view d) job c a; said = Go job; wakes = [] }
        gone_tied h = unfold answer_to in rw (act_tied c h a)

  -- every request, by its letter
  pub letter_tied : Once d.number → (r : Request) (l : Option Letter) → shown view (told d r.job r.cell (move_for d.next d.number d.reader d.writer r.job r.cell l)) ≡ step_by (view d) r l
  unfolding move_for step_by
  letter_tied once r None = unfold carried answer_to refused in refl
  letter_tied once r (Some no-request) = unfold carried answer_to refused in refl
  letter_tied once r (Some begins) = begin_tied r.job r.cell
  letter_tied once r (Some Commit) = close_tied r.job once r.cell
  letter_tied once r (Some GiveUp) = close_tied r.job once r.cell
  letter_tied once r (Some Retry) = retry_tied r.job r.cell
  letter_tied once r (Some (Asks a)) = ask_tied r.job once r.cell a
