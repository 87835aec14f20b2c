-- Every step of the timestamp desk is a move by one of the request's rules. Only this file follows the tests (02, No. 6).
-- Assumes nothing.
use Rattle.std.specs.Prelude.{Option, None, Some}
use mathlib.Core.Path.{◌≡◌, refl}
use mathlib.Core.Logic.{inl, inr}
use mathlib.Core.Bool.{Bool, true, false}
use lib.Dec.{ltb}
use borrow.Author.Tests.{ltb-true, ltb-false, le-leb}
use Rattle.laws.specs.Choice.{pick}
use Rattle.laws.specs.Lists.{member, first_of}
use Rattle.terms.specs.declared.letters.Letter.{Letter}
use Rattle.terms.specs.declared.letters.Ask.{Ask}
use Rattle.terms.specs.declared.letters.Letter.TheVariants.{Begin, Commit, GiveUp, Retry, Back as no-request, Asks}
use Rattle.terms.specs.declared.refusals.Refusal.{Refusal}
use Rattle.terms.specs.declared.refusals.Refusal.TheVariants.{UnknownKind, CellAbove, NotOpen, AllOpen, NoNumberLeft, NoRetry}
use Rattle.terms.specs.Letters.{letter_of}
use Rattle.terms.specs.Limits.{cells, last_number}
use Rattle.desks.specs.Request.{Request}
use Rattle.desks.specs.Begin.{refused, beginning}
use Rattle.stamp_rules.specs.Desk.{Desk, is_open}
use Rattle.stamp_rules.specs.Rules.{Outcome, late, close, ask, begin}
use Rattle.stamp_rules.specs.Step.{step_begin, step_close, step_retry, step_ask, step_by, step}
use Rattle.stamp_rules.specs.Table.{holds, order, due_by, due_of}
use Rattle.stamp_rules.specs.Asked.{Asking}
use Rattle.stamp_rules.specs.Moves.{EndAsked, Moved, refuses, begins, closes, goes, goes_back}

-- one of two moves, by a test that picks it
either : {d : Desk} {r : Request} (b : Bool) {x y : Outcome} → (b ≡ true → Moved d r x) → (b ≡ false → Moved d r y) → Moved d r (pick b x y)
either true f g = f refl
either false f g = g refl

-- a refusal that is due, given the request's letter and whether its job is open
due_by_lem : {d : Desk} {r : Request} {l : Option Letter} {b : Bool} (why : Refusal) → letter_of r.kind ≡ l → is_open d r.job ≡ b → due_by d l b r.cell ≡ Some why → Moved d r (refused d why)
unfolding due_of
due_by_lem why e q h = refuses why (rw (e, q) h)

-- begin tests 7, then 6
begin_moved : (d : Desk) (r : Request) → letter_of r.kind ≡ Some Begin → Moved d r (step_begin d)
unfolding step_begin beginning begin due_by holds order first_of
begin_moved d r e =
    either (ltb last_number d.next) (λ t. due_by_lem NoNumberLeft e refl (rw t))
    (λ f. either (member 0 d.jobs) (begins e (ltb-false _ _ f)) (λ n. due_by_lem AllOpen e refl (rw (f, n))))

-- commit and give-up test 3
close_moved : (d : Desk) (r : Request) → EndAsked r → Moved d r (step_close d r.job)
unfolding step_close close due_by holds order first_of
close_moved d r l = either (is_open d r.job) (closes l) (by_letter l)
  where
    by_letter : EndAsked r → is_open d r.job ≡ false → Moved d r (refused d NotOpen)
    by_letter (inl e) f = due_by_lem NotOpen e f refl
    by_letter (inr e) f = due_by_lem NotOpen e f refl

-- retry tests 3, then 19
retry_moved : (d : Desk) (r : Request) → letter_of r.kind ≡ Some Retry → Moved d r (step_retry d r.job)
unfolding step_retry due_by holds order first_of
retry_moved d r e = either (is_open d r.job) (λ t. due_by_lem NoRetry e t refl) (λ f. due_by_lem NotOpen e f refl)

-- a read, a write, an increment or a u tests 3, then 2
asked_moved : (d : Desk) (r : Request) (a : Ask) → letter_of r.kind ≡ Some (Asks a) → Moved d r (step_ask d r.job r.cell a)
unfolding step_ask ask close due_by holds order first_of
asked_moved d r a e =
    either (is_open d r.job)
    (λ o. either (ltb r.cell cells)
    (λ t.
    let k : Asking d r a = record { letter = e; open_job = o; within = ltb-true _ _ t } in
    either (late d r.job r.cell a) (goes_back a k) (goes a k))
    (λ f. due_by_lem CellAbove e o (rw (le-leb cells r.cell (ltb-false r.cell cells f)))))
    (λ f. due_by_lem NotOpen e f refl)

-- by the request's letter
step_by_lem : (d : Desk) (r : Request) (l : Option Letter) → letter_of r.kind ≡ l → Moved d r (step_by d r l)
unfolding step_by
step_by_lem d r None e = unfold due_by holds order first_of in due_by_lem UnknownKind e refl refl
step_by_lem d r (Some no-request) e = unfold due_by holds order first_of in due_by_lem UnknownKind e refl refl
step_by_lem d r (Some Begin) e = begin_moved d r e
step_by_lem d r (Some Commit) e = close_moved d r (inl e)
step_by_lem d r (Some GiveUp) e = close_moved d r (inr e)
step_by_lem d r (Some Retry) e = retry_moved d r e
step_by_lem d r (Some (Asks a)) e = asked_moved d r a e

-- every step is a move by one of the rules, and refuses only what the table has due
pub step_moved : (d : Desk) (r : Request) → Moved d r (step d r)
unfolding step
step_moved d r = step_by_lem d r (letter_of r.kind) refl
