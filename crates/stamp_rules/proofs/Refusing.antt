-- Refusals and answers of the timestamp desk: a refusal of its table exactly if it is the first that is due, and then nothing changes; otherwise go or back, with the job; and only 1, 2, 3, 6, 7 and 19 are ever given (02, No. 6; 01, Refusals by number).
-- Assumes nothing.
use Rattle.std.specs.Prelude.{Option, None, Some}
use Prim.Native.Nat.{ℕ}
use mathlib.Core.Path.{◌≡◌, refl, sym, ap, ap₂, ◌∙◌}
use mathlib.Core.Bool.{Bool, true}
use mathlib.Core.List.{[], ◌∷◌}
use Rattle.laws.specs.Choice.{not_both}
use Rattle.laws.specs.Lists.{member}
use Rattle.laws.proofs.Lists.{first_holds}
use Rattle.terms.specs.declared.letters.Letter.{Letter}
use Rattle.terms.specs.declared.letters.Letter.TheVariants.{Begin, Commit, GiveUp, Retry, Back, Asks}
use Rattle.terms.specs.declared.refusals.Refusal.{Refusal}
use Rattle.terms.specs.declared.refusals.Refusal.TheVariants.{UnknownKind, CellAbove, NotOpen, Waiting, SentBack, AllOpen, NoNumberLeft, Running, BadLine, StartedAtZero, TooManyLines, JobOutside, Ended, ShortOrder, NoRoom, TooLong, ShortList, NoRetry}
use Rattle.terms.specs.Letters.{letter_of}
use Rattle.terms.specs.Refusals.{number_of}
use Rattle.desks.specs.declared.Answer.TheVariants.{No}
use Rattle.desks.specs.Request.{Request, Alike}
use Rattle.desks.specs.Begin.{refused}
use Rattle.desks.specs.Table.{letter_is, asks_no_cell}
use Rattle.desks.proofs.Answers.{goes_or_refuses}
use Rattle.desks.proofs.Refusing.{refused_due, refuses-by}
use Rattle.stamp_rules.specs.Desk.{Desk, is_open}
use Rattle.stamp_rules.specs.Rules.{Outcome}
use Rattle.stamp_rules.specs.Step.{step_close, step_retry, step_ask, step_by, step}
use Rattle.stamp_rules.specs.Table.{holds, order, due_by, due_of, Due, named}
use Rattle.stamp_rules.specs.Course.{from}
use Rattle.stamp_rules.specs.Refuses.{Refuses}
use Rattle.stamp_rules.proofs.TableMeant.{step_meant}
use Rattle.stamp_rules.specs.Moves as moves
use Rattle.stamp_rules.specs.Moves.{Moved}
use Rattle.stamp_rules.proofs.Moved.{step_moved}

-- the row of a refusal that is due holds
row_holds : (d : Desk) (r : Request) (why : Refusal) → Due d r why → holds (letter_of r.kind) (is_open d r.job) r.cell d why ≡ true
unfolding due_of due_by
row_holds d r why e = first_holds (holds (letter_of r.kind) (is_open d r.job) r.cell d) (order (letter_of r.kind)) why e

-- the numbers of the refusals that a step gives
abbrev Given : Refusal → Type 0
Given why = member (number_of why) (1 ∷ 2 ∷ 3 ∷ 6 ∷ 7 ∷ 19 ∷ []) ≡ true

-- no other row holds for a step
row_number : (l : Option Letter) (o : Bool) (c : ℕ) (d : Desk) (why : Refusal) → holds l o c d why ≡ true → Given why
unfolding holds member
row_number l o c d UnknownKind h = refl
row_number l o c d CellAbove h = refl
row_number l o c d NotOpen h = refl
row_number l o c d Waiting h = not_both h refl
row_number l o c d SentBack h = not_both h refl
row_number l o c d AllOpen h = refl
row_number l o c d NoNumberLeft h = refl
row_number l o c d Running h = not_both h refl
row_number l o c d (BadLine field) h = not_both h refl
row_number l o c d StartedAtZero h = not_both h refl
row_number l o c d TooManyLines h = not_both h refl
row_number l o c d JobOutside h = not_both h refl
row_number l o c d Ended h = not_both h refl
row_number l o c d ShortOrder h = not_both h refl
row_number l o c d NoRoom h = not_both h refl
row_number l o c d TooLong h = not_both h refl
row_number l o c d ShortList h = not_both h refl
row_number l o c d NoRetry h = refl

-- so only these are due
due_number : (d : Desk) (r : Request) (why : Refusal) → Due d r why → Given why
due_number d r why e = row_number (letter_of r.kind) (is_open d r.job) r.cell d why (row_holds d r why e)

-- and no 9 is among them
no_nine : (d : Desk) (r : Request) (why : Refusal) → Due d r why → number_of why ≡ 9 → ⊥
unfolding member
no_nine d r why e n = not_both (sym (ap (λ m. member m (1 ∷ 2 ∷ 3 ∷ 6 ∷ 7 ∷ 19 ∷ [])) n) ∙ due_number d r why e) refl

-- only requests for a cell are answered back, and no request is answered wait
only_cells : (d : Desk) (r : Request) → letter_is asks_no_cell (letter_of r.kind) ≡ true → goes_or_refuses (step d r).said ≡ true
only_cells d r k = by_move (step_moved d r)
  where
    by_move : {o : Outcome} → Moved d r o → goes_or_refuses o.said ≡ true
    by_move (moves.refuses why _) = unfold refused in refl
    by_move (moves.begins l n m) = refl
    by_move (moves.closes l o) = refl
    by_move (moves.goes a q f) = refl
    by_move (moves.goes_back a q t) = not_both k (ap (letter_is asks_no_cell) q.letter)

-- requests that are alike for a letter have the same outcome
by_alike : (d : Desk) (r s : Request) (l : Option Letter) → Alike l r s → step_by d r l ≡ step_by d s l
unfolding step_by
by_alike d r s None e = refl
by_alike d r s (Some Back) e = refl
by_alike d r s (Some Begin) e = refl
by_alike d r s (Some Commit) e = ap (step_close d) (e.job refl)
by_alike d r s (Some GiveUp) e = ap (step_close d) (e.job refl)
by_alike d r s (Some Retry) e = ap (step_retry d) (e.job refl)
by_alike d r s (Some (Asks a)) e = ap₂ (λ j c. step_ask d j c a) (e.job refl) (e.cell refl)

-- requests of one kind that are alike for its letter make the same step
step_alike : (d : Desk) (r s : Request) → r.kind ≡ s.kind → Alike (letter_of r.kind) r s → step d r ≡ step d s
unfolding step
step_alike d r s k e = by_alike d r s (letter_of r.kind) e ∙ ap (λ b. step_by d s (letter_of b)) k

-- what is promised of refusals and answers
pub refuses : (d : Desk) → Refuses (from d)
refuses d = record { by_table = refuses-by step due_of named step_meant only_cells no_nine step_alike d; due_holds = row_holds d }

-- A STEP GIVES ONLY THE REFUSALS 1, 2, 3, 6, 7 AND 19 (02, No. 6)
pub only_these : (d : Desk) (r : Request) (why : Refusal) → (step d r).said ≡ No why → member (number_of why) (1 ∷ 2 ∷ 3 ∷ 6 ∷ 7 ∷ 19 ∷ []) ≡ true
only_these d r why e = due_number d r why (refused_due step due_of named step_meant d r why e)
