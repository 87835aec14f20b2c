-- The rules leave no choice: the step is the only move, whatever the desk and the request (02, No. 6; 01, How much a contract says).
-- Assumes nothing.
use Rattle.std.specs.Prelude.{Option, None, Some}
use Prim.Native.Nat.{ℕ}
use mathlib.Core.Path.{◌≡◌, ap, ◌∙◌}
use mathlib.Core.Logic.{inl, inr}
use native.Mathlib.Omega.{arith}
use borrow.Author.Tests.{lt-ltb, le-ltb, lt-leb}
use Rattle.laws.specs.Lists.{first_of}
use Rattle.terms.specs.declared.letters.Ask.{Ask}
use Rattle.terms.specs.declared.refusals.Refusal.{Refusal}
use Rattle.terms.specs.Limits.{cells, last_number}
use Rattle.desks.specs.Request.{Request}
use Rattle.desks.specs.Begin.{refused, beginning}
use Rattle.stamp_rules.specs.Desk.{Desk}
use Rattle.stamp_rules.specs.Rules.{Outcome, close, ask, begin}
use Rattle.stamp_rules.specs.Step.{step_begin, step_close, step_ask, step_by, step}
use Rattle.stamp_rules.specs.Table.{holds, order, due_by, due_of, Due}
use Rattle.stamp_rules.specs.Asked.{Asking}
use Rattle.stamp_rules.specs.Moves.{Moved, refuses, begins, closes, goes, goes_back}
use Rattle.stamp_rules.proofs.Moved.{step_moved}

-- one refusal is due
one_due : {o : Option Refusal} {x y : Refusal} → o ≡ Some x → o ≡ Some y → x ≡ y
one_due p q = cc

-- or none
not_due : {P : Type 0} {o : Option Refusal} {x : Refusal} → o ≡ None → o ≡ Some x → P
not_due p q = let z : ◌≡◌ {A = ℕ} 0 1 = cc in absurd (omega arith)

module _ {d : Desk} {r : Request} where
  -- for an open job that asks for a cell, the step is what the rules of cells say
  pub asking_step : (a : Ask) → Asking d r a → step d r ≡ ask d r.job r.cell a
  unfolding step step_by step_ask
  asking_step a k = rw (k.letter, k.open_job, lt-ltb r.cell cells k.within)

  -- if a refusal is due, every move is that refusal
  due_moves : {o : Outcome} (why : Refusal) → Due d r why → Moved d r o → o ≡ refused d why
  unfolding due_of due_by holds order first_of
  due_moves why x (refuses w y) = ap (refused d) (one_due y x)
  due_moves why x (begins l n m) = not_due (simp (l, le-ltb last_number d.next n, m)) x
  due_moves why x (closes (inl l) o) = not_due (simp (l, o)) x
  due_moves why x (closes (inr l) o) = not_due (simp (l, o)) x
  due_moves why x (goes a k f) = not_due (simp (k.letter, k.open_job, lt-leb cells r.cell k.within)) x
  due_moves why x (goes_back a k t) = not_due (simp (k.letter, k.open_job, lt-leb cells r.cell k.within)) x

  -- THERE IS ONE MOVE: every move that the rules allow is the step
  pub moved_only : {o : Outcome} → Moved d r o → step d r ≡ o
  moved_only (refuses why x) = due_moves why x (step_moved d r)
  moved_only (begins l n m) = unfold step step_by step_begin beginning begin in rw (l, le-ltb last_number d.next n, m)
  moved_only (closes (inl l) o) = unfold step step_by step_close close in rw (l, o)
  moved_only (closes (inr l) o) = unfold step step_by step_close close in rw (l, o)
  moved_only (goes a k f) = asking_step a k ∙ unfold ask in rw f
  moved_only (goes_back a k t) = asking_step a k ∙ unfold ask close in rw t
