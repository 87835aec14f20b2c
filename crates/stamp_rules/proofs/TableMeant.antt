-- The step of the timestamp desk follows its refusal table: one walk through the letters (02, No. 6; 01, Refusals by number).
-- Assumes nothing.
use Rattle.std.specs.Prelude.{Option, None, Some}
use Prim.Native.Nat.{ℕ}
use mathlib.Core.Path.{refl}
use mathlib.Core.Bool.{not}
use lib.Dec.{ltb}
use Rattle.laws.specs.Choice.{pick, by_test}
use Rattle.laws.specs.Lists.{first_of}
use Rattle.terms.specs.declared.letters.Letter.{Letter}
use Rattle.terms.specs.declared.letters.Ask.{Ask}
use Rattle.terms.specs.declared.letters.Letter.TheVariants.{Begin, Commit, GiveUp, Retry, Back, Asks}
use Rattle.terms.specs.declared.refusals.Refusal.TheVariants.{NotOpen}
use Rattle.terms.specs.Letters.{letter_of}
use Rattle.terms.specs.Limits.{cells}
use Rattle.desks.specs.Request.{Request}
use Rattle.desks.specs.Table.{Answers, named_by, goes, goes_back}
use Rattle.desks.proofs.TableMeant.{Meant, answered, begin_means, above}
use Rattle.stamp_rules.specs.Desk.{Desk, is_open}
use Rattle.stamp_rules.specs.Rules.{late, close, ask, begin}
use Rattle.stamp_rules.specs.Step.{step_begin, step_close, step_retry, step_ask, step_by, step}
use Rattle.stamp_rules.specs.Table.{holds, order, due_by, due_of, named}

-- a late request is sent back, and every other goes: no request for a cell is refused because of its number
ask_answered : (d : Desk) (j c : ℕ) (a : Ask) → Answers (ask d j c a).said j
unfolding ask close
ask_answered d j c a = answered (late d j c a) _ _ j (goes_back j) (goes j)

-- a commit and a give-up: 3 if the job is not open
close_meant : (d : Desk) (j : ℕ) → Meant d j (pick (not (is_open d j)) (Some NotOpen) None) (step_close d j)
unfolding step_close close
close_meant d j = by_test (is_open d j) (λ t. rw t (goes j)) (λ f. rw f refl)

-- a retry: 3 if the job is not open, otherwise 19
retry_meant : (d : Desk) (j c : ℕ) → Meant d j (due_by d (Some Retry) (is_open d j) c) (step_retry d j)
unfolding step_retry due_by holds order first_of
retry_meant d j c = by_test (is_open d j) (λ t. rw t refl) (λ f. rw f refl)

-- a request for a cell: 3 if the job is not open, then 2 if the cell is above 63
ask_meant : (d : Desk) (j c : ℕ) (a : Ask) → Meant d j (due_by d (Some (Asks a)) (is_open d j) c) (step_ask d j c a)
unfolding step_ask due_by holds order first_of
ask_meant d j c a =
    rw (above c) (by_test (is_open d j) (λ t. by_test (ltb c cells) (λ u. rw (t, u) (ask_answered d j c a)) (λ g. rw (t, g) refl))
    (λ f. rw f refl))

-- a request does what the table says, whatever its letter
step_by_lem : (d : Desk) (r : Request) (l : Option Letter) → Meant d (named_by d.next r.job l) (due_by d l (is_open d r.job) r.cell) (step_by d r l)
unfolding step_by step_begin begin due_by holds order first_of
step_by_lem d r None = refl
step_by_lem d r (Some Back) = refl
step_by_lem d r (Some Begin) = begin_means d d.next d.jobs (begin d) d.next (goes d.next)
step_by_lem d r (Some Commit) = close_meant d r.job
step_by_lem d r (Some GiveUp) = close_meant d r.job
step_by_lem d r (Some Retry) = retry_meant d r.job r.cell
step_by_lem d r (Some (Asks a)) = ask_meant d r.job r.cell a

-- the step does what the table says
pub step_meant : (d : Desk) (r : Request) → Meant d (named d r) (due_of d r) (step d r)
unfolding step due_of named
step_meant d r = step_by_lem d r (letter_of r.kind)
