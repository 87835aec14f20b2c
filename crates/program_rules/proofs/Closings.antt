-- What a program writes at the end stands behind all else: every course, brought to its end, has written out the records of the run and then that.
-- Assumes nothing.
use Prim.Native.Nat.{ℕ, ◌+◌, ◌≤◌}
use mathlib.Core.Path.{◌≡◌, sym, ap, ◌∙◌}
use mathlib.Core.Bool.{true}
use mathlib.Core.List.{List, ◌++◌, append_assoc}
use native.Mathlib.Omega.{arith}
use borrow.Author.Tests.{le-leb}
use lib.ListN.{length, take}
use Rattle.laws.specs.Choice.{by_test}
use Rattle.program_rules.specs.declared.Clerk.{Clerk}
use Rattle.program_rules.specs.declared.Method.{Method}
use Rattle.program_rules.specs.declared.View.{View}
use Rattle.program_rules.specs.declared.View.TheVariants.{Answers, History, Chains}
use Rattle.program_rules.specs.OverLines.{written}
use Rattle.program_rules.specs.Programs.{desks_run}
use Rattle.program_rules.specs.Work.{viewed, line_room, roomy, unended, owing, finish_of}
use Rattle.program_rules.specs.Closing.{closing, closing_room, program_room, close_of, end_of}
use Rattle.program_rules.specs.Callers.{Course}
use Rattle.program_rules.proofs.OneCall.{put_take, put_length}
use Rattle.program_rules.proofs.AnyCourse.{owed, finish_take, course_finishes}

-- a program has room for the records of a line
pub line_room_lem : (view : View) → line_room ≤ program_room view
line_room_lem Answers = omega arith
line_room_lem History = omega arith
line_room_lem Chains = omega arith

module _ (view : View) (c : Clerk) (out : List ℕ) (at : ℕ) (h : at + program_room view ≤ length out) where
  -- so there is room for the record at the end of the input
  roomy_at : roomy out at ≡ true
  unfolding roomy
  roomy_at = le-leb (at + line_room) (length out) (omega (arith, line_room_lem view))

  -- which leaves the buffer no shorter, and the place within it
  finish_within : ((finish_of view c out at).finished.at ≤ length (finish_of view c out at).out) × (length out ≤ length (finish_of view c out at).out)
  unfolding finish_of
  finish_within =
      by_test (owing c.splitter) (λ e. rw (e, roomy_at) (put_length out at (viewed view (unended c.splitter)) (omega arith))) (λ e. rw e (omega arith, omega arith))

-- the program `chain` writes no record there
finish_none : (c : Clerk) (out : List ℕ) (at : ℕ) → (finish_of Chains c out at).finished.at ≡ at
unfolding finish_of viewed
finish_none c out at = by_test (owing c.splitter) (λ e. rw e (by_test (roomy out at) (λ f. rw f (omega arith)) (λ f. rw f))) (λ e. rw e)

-- so there is room behind it for what is written last
closing_room_lem : (view : View) (c : Clerk) (out : List ℕ) (at : ℕ) → at + program_room view ≤ length out → (finish_of view c out at).finished.at + closing_room view ≤ length (finish_of view c out at).out
closing_room_lem Answers c out at h = omega (arith, finish_within Answers c out at h)
closing_room_lem History c out at h = omega (arith, finish_within History c out at h)
closing_room_lem Chains c out at h = omega (arith, finish_none c out at, finish_within Chains c out at h)

-- what is written last ends within the buffer
pub close_within : (view : View) (c : Clerk) (out : List ℕ) (at : ℕ) → at + closing_room view ≤ length out → (close_of view c out at).finished.at ≤ length (close_of view c out at).out
unfolding close_of
close_within view c out at h = rw (le-leb (at + closing_room view) (length out) h) (put_length out at (closing view c) (omega arith)).0

-- and stands behind what stood in it
pub close_take : (view : View) (c : Clerk) (out : List ℕ) (at : ℕ) → at + closing_room view ≤ length out → take (close_of view c out at).finished.at (close_of view c out at).out ≡ take at out ++ closing view c
unfolding close_of
close_take view c out at h = rw (le-leb (at + closing_room view) (length out) h) (put_take out at (closing view c) (omega arith))

module _ (view : View) (c : Clerk) (out : List ℕ) (at : ℕ) (h : at + program_room view ≤ length out) where
  -- the end of the input ends within the buffer
  pub ends_within : (end_of view c out at).finished.at ≤ length (end_of view c out at).out
  ends_within = let f = finish_of view c out at in close_within view c f.out f.finished.at (closing_room_lem view c out at h)

  -- behind what stood in the buffer stand the record of a last line that lacks its newline, and what is written last
  pub ends_take : take (end_of view c out at).finished.at (end_of view c out at).out ≡ (take at out ++ owed view c.splitter) ++ closing view c
  ends_take =
      let f = finish_of view c out at in
      close_take view c f.out f.finished.at (closing_room_lem view c out at h) ∙ ap (λ l. l ++ closing view c) (finish_take view c out at (omega arith) (roomy_at view c out at h))

-- EVERY COURSE TO ITS END: all that has been written out, with what stands in the buffer at the end, is what is written of the run of the text, and then what the program writes last
pub course_ends : {m : Method} {view : View} {text sent : List ℕ} {c : Clerk} {out : List ℕ} {at : ℕ} → Course m view text sent c out at → at + program_room view ≤ length out →
    sent ++ take (end_of view c out at).finished.at (end_of view c out at).out ≡ written (viewed view) (desks_run m text) ++ closing view c
course_ends {m} {view} {text} {sent} {c} {out} {at} k h =
    let f = finish_of view c out at in
    ap (λ l. sent ++ l) (close_take view c f.out f.finished.at (closing_room_lem view c out at h))
    ∙ sym (append_assoc sent (take f.finished.at f.out) (closing view c))
    ∙ ap (λ l. l ++ closing view c) (course_finishes k (roomy_at view c out at h))
