-- Every step is a move of the rules as a relation, which has one constructor for each rule, with its tests as premises. Only this file follows the tests.
-- Assumes nothing.
use Rattle.std.specs.Prelude.{Option, None, Some}
use Prim.Native.Nat.{ℕ}
use mathlib.Core.Path.{◌≡◌, refl}
use mathlib.Core.Bool.{Bool, true, false, ◌&&◌}
use lib.Dec.{ltb, leb}
use borrow.Author.Tests.{ltb-true, ltb-false, le-leb}
use Rattle.laws.specs.Choice.{pick}
use Rattle.terms.specs.declared.letters.Letter.{Letter}
use Rattle.terms.specs.declared.letters.Ask.{Ask}
use Rattle.terms.specs.declared.letters.Letter.TheVariants.{Begin, Commit, GiveUp, Retry, Back as no-request, Asks}
use Rattle.terms.specs.declared.refusals.Refusal.{Refusal}
use Rattle.terms.specs.declared.refusals.Refusal.TheVariants.{UnknownKind, CellAbove, NotOpen, Waiting, SentBack, AllOpen, NoNumberLeft, Running}
use Rattle.terms.specs.Letters.{letter_of}
use Rattle.terms.specs.Limits.{cells, last_number}
use Rattle.conflict.specs.Modes.{needed, covers, is_free}
use Rattle.laws.specs.Lists.{member, first_of}
use Rattle.laws.proofs.Parts.{and_first, and_second}
use Rattle.desks.specs.Request.{Request}
use Rattle.desk_rules.specs.Desk.{Status, closed, running, waiting, sentback, Desk, is_open}
use Rattle.desk_rules.specs.Locks.{agrees, older_than_holders, older_than_waiters, is_empty}
use Rattle.desks.specs.Begin.{beginning, refused}
use Rattle.desk_rules.specs.Rules.{Outcome, close, send_back, grant, queued, rule1, rule2, rule3, ask, retry, begin}
use Rattle.desk_rules.specs.Step.{step_commit, step_give_up, step_retry, step_ask, step_begin, step_by, step}
use Rattle.desk_rules.specs.Table.{holds, order, due_by, due_of}
use Rattle.desk_rules.specs.Asked.{Asking, Elder, holder, waiter, asked_there}
use Rattle.desk_rules.specs.Moves.{Otherwise, no_promotion, no_entry, Moved, refuses, begins, commits, gives_up, retries, has_it, promotes, waits_in_front, enters, waits_last, goes_back}

-- one of two moves, by a test that picks it
either : {d : Desk} {r : Request} (b : Bool) {x y : Outcome} → (b ≡ true → Moved d r x) → (b ≡ false → Moved d r y) → Moved d r (pick b x y)
either true f g = f refl
either false f g = g refl

-- if two tests both hold, each does
both : (a b : Bool) → (a && b) ≡ true → (a ≡ true) × (b ≡ true)
both a b e = (and_first a b e, and_second a b e)

-- if two tests do not both hold, one of them fails
one_fails : {P : Type 0} (a b : Bool) → (a && b) ≡ false → (a ≡ false → P) → (b ≡ false → P) → P
one_fails true b e f g = g e
one_fails false b e f g = f refl

-- if rules 2 and 3 say "otherwise", an older job stands in the job's way
pub elder_of : {d : Desk} {r : Request} {a : Ask} → Otherwise d r a → Elder d r.job r.cell
elder_of (no_promotion c f z h) = holder h
elder_of (no_entry f e o) = one_fails _ _ o holder (waiter f)

-- a running job that asks moves by rule 1, 2 or 3
ask_moved : (d : Desk) (r : Request) (a : Ask) → Asking d r a → Moved d r (ask d r.job r.cell a)
unfolding ask rule1 rule2 rule3 grant queued send_back
ask_moved d r a k =
    either (covers ((d.row r.cell).held r.job) (needed a)) (has_it a k)
    (λ n. either (is_free ((d.row r.cell).held r.job))
    (λ f. either (is_empty (d.row r.cell).queue && agrees d.jobs (d.row r.cell).held r.job (needed a))
    (λ e. let p = both _ _ e in enters a k f p.0 p.1)
    (λ e. either (older_than_holders d.jobs (d.row r.cell).held r.job && older_than_waiters (d.row r.cell).queue r.job)
    (λ o. let p = both _ _ o in waits_last a k f e p.0 p.1)
    (λ o. goes_back a k (no_entry f e o))))
    (λ f. either (agrees d.jobs (d.row r.cell).held r.job (asked_there d r a)) (promotes a k n f)
    (λ e. either (older_than_holders d.jobs (d.row r.cell).held r.job) (waits_in_front a k n f e) (λ h. goes_back a k (no_promotion n f e h)))))

-- a cell that is not one of the 64 is above 63
cell_above_lem : (c : ℕ) → ltb c cells ≡ false → leb cells c ≡ true
cell_above_lem c f = le-leb cells c (ltb-false c cells f)

-- a refusal that is due, given the request's letter and what its job is doing
due_by_lem : {d : Desk} {r : Request} {l : Option Letter} {s : Status} (why : Refusal) → letter_of r.kind ≡ l → d.stat r.job ≡ s → due_by d l s r.cell ≡ Some why → Moved d r (refused d why)
unfolding due_of
due_by_lem why e q h = refuses why (rw (e, q) h)

-- begin tests 7, then 6
begin_moved : (d : Desk) (r : Request) → letter_of r.kind ≡ Some Begin → Moved d r (step_begin d)
unfolding step_begin beginning begin due_by holds order first_of
begin_moved d r e =
    either (ltb last_number d.next) (λ t. due_by_lem NoNumberLeft e refl (rw t))
    (λ f. either (member 0 d.jobs) (begins e (ltb-false _ _ f)) (λ n. due_by_lem AllOpen e refl (rw (f, n))))

-- a commit, by what the job is doing
commit_moved : (d : Desk) (r : Request) (s : Status) → letter_of r.kind ≡ Some Commit → d.stat r.job ≡ s → Moved d r (step_commit d r.job s)
unfolding step_commit close due_by holds order first_of is_open
commit_moved d r closed e q = due_by_lem NotOpen e q refl
commit_moved d r running e q = commits e q
commit_moved d r (waiting c a) e q = due_by_lem Waiting e q refl
commit_moved d r sentback e q = due_by_lem SentBack e q refl

-- a give-up
give_up_moved : (d : Desk) (r : Request) (s : Status) → letter_of r.kind ≡ Some GiveUp → d.stat r.job ≡ s → Moved d r (step_give_up d r.job s)
unfolding step_give_up close due_by holds order first_of is_open
give_up_moved d r closed e q = due_by_lem NotOpen e q refl
give_up_moved d r running e q = gives_up e (rw q)
give_up_moved d r (waiting c a) e q = gives_up e (rw q)
give_up_moved d r sentback e q = gives_up e (rw q)

-- a retry
retry_moved : (d : Desk) (r : Request) (s : Status) → letter_of r.kind ≡ Some Retry → d.stat r.job ≡ s → Moved d r (step_retry d r.job s)
unfolding step_retry retry due_by holds order first_of is_open
retry_moved d r closed e q = due_by_lem NotOpen e q refl
retry_moved d r running e q = due_by_lem Running e q refl
retry_moved d r (waiting c a) e q = due_by_lem _ e q refl
retry_moved d r sentback e q = retries e q

-- a read, a write, an increment or a u
asked_moved : (d : Desk) (r : Request) (a : Ask) (s : Status) → letter_of r.kind ≡ Some (Asks a) → d.stat r.job ≡ s → Moved d r (step_ask d r.job r.cell a s)
unfolding step_ask due_by holds order first_of is_open
asked_moved d r a closed e q = due_by_lem NotOpen e q refl
asked_moved d r a running e q =
    either (ltb r.cell cells) (λ t. ask_moved d r a (record { letter = e; runs = q; within = ltb-true _ _ t }))
    (λ f. due_by_lem CellAbove e q (rw (cell_above_lem r.cell f)))
asked_moved d r a (waiting c a') e q = due_by_lem Waiting e q refl
asked_moved d r a sentback e q = due_by_lem SentBack e q refl

-- by the request's letter
step_by_lem : (d : Desk) (r : Request) (l : Option Letter) → letter_of r.kind ≡ l → Moved d r (step_by d r l)
unfolding step_by
step_by_lem d r None e = unfold due_by holds order first_of in due_by_lem UnknownKind e refl refl
step_by_lem d r (Some no-request) e = unfold due_by holds order first_of in due_by_lem UnknownKind e refl refl
step_by_lem d r (Some Begin) e = begin_moved d r e
step_by_lem d r (Some Commit) e = commit_moved d r (d.stat r.job) e refl
step_by_lem d r (Some GiveUp) e = give_up_moved d r (d.stat r.job) e refl
step_by_lem d r (Some Retry) e = retry_moved d r (d.stat r.job) e refl
step_by_lem d r (Some (Asks a)) e = asked_moved d r a (d.stat r.job) e refl

-- every step is a move by one of the rules, and refuses only what the table has due
pub step_moved : (d : Desk) (r : Request) → Moved d r (step d r)
unfolding step
step_moved d r = step_by_lem d r (letter_of r.kind) refl
