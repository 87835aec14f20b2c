-- The end of the input, case by case: no line is owed, there is no room, or the line's record is written; then what is written last.
-- Assumes nothing.
use Prim.Native.Nat.{ℕ, ◌+◌, ◌≤◌}
use mathlib.Core.Path.{◌≡◌, sym, ap, ◌∙◌}
use mathlib.Core.Bool.{Bool, true, false}
use mathlib.Core.List.{List}
use lib.Dec.{leb}
use lib.ListN.{length}
use borrow.Author.Tests.{leb-true}
use Rattle.laws.specs.Choice.{by_test, not_both}
use Rattle.terms.specs.Limits.{request_lines}
use Rattle.text_rules.specs.declared.splitter.Splitter.{Splitter}
use Rattle.text_rules.specs.Wrote.{Wrote}
use Rattle.program_rules.specs.declared.Clerk.{Clerk}
use Rattle.program_rules.specs.declared.View.{View}
use Rattle.program_rules.specs.declared.Finished.{Finished}
use Rattle.program_rules.specs.Work.{viewed, roomy, unended, owing, finish_of}
use Rattle.program_rules.specs.Closing.{closing, closing_room, close_of}

-- what the end of the input leaves
abbrev pub Ends : View → Clerk → List ℕ → ℕ → Finished → List ℕ → Type 0
Ends view c out at f after = (f ≡ (finish_of view c out at).finished) × (after ≡ (finish_of view c out at).out)

module _ (view : View) (c : Clerk) (out : List ℕ) (at : ℕ) where
  -- no line is owed
  pub ends_none : owing c.splitter ≡ false → Ends view c out at (record { at = at; full = false }) out
  unfolding finish_of
  ends_none e = (rw e, rw e)

  -- there is no room
  pub ends_full : owing c.splitter ≡ true → roomy out at ≡ false → Ends view c out at (record { at = at; full = true }) out
  unfolding finish_of
  ends_full e f = (rw (e, f), rw (e, f))

  -- the record is written
  pub ends_put : {to : ℕ} {after : List ℕ} → owing c.splitter ≡ true → roomy out at ≡ true → Wrote at to (viewed view (unended c.splitter)) out after →
      Ends view c out at (record { at = to; full = false }) after
  unfolding finish_of
  ends_put e f w = (rw (e, f) (ap (λ n. record { at = n; full = false }) w.ends), rw (e, f) (w.holds ∙ rw w.ends))

-- the number of a line that is owed is at most 1,000,000
pub owing_line : (s : Splitter) → owing s ≡ true → s.line ≤ request_lines
unfolding owing
owing_line s e =
    by_test (leb s.line request_lines) (leb-true s.line request_lines)
    (λ f. by_test s.ended (λ t. not_both e (rw t)) (λ t. not_both e (rw (t, f))))

-- what is left of what is written last
abbrev pub Closes : View → Clerk → List ℕ → ℕ → Finished → List ℕ → Type 0
Closes view c out at f after = (f ≡ (close_of view c out at).finished) × (after ≡ (close_of view c out at).out)

module _ (view : View) (c : Clerk) (out : List ℕ) (at : ℕ) {r : Bool} {room : ℕ} (e : room ≡ closing_room view) (f : r ≡ leb (at + room) (length out)) where
  -- the test is that of the definition
  tests : r ≡ leb (at + closing_room view) (length out)
  tests = f ∙ ap (λ k. leb (at + k) (length out)) e

  -- where there is no room nothing is written
  pub closes_full : r ≡ false → Closes view c out at (record { at = at; full = true }) out
  unfolding close_of
  closes_full n = (rw (sym tests ∙ n), rw (sym tests ∙ n))

  -- where there is, it is as much as was asked for
  pub closes_room : r ≡ true → at + closing_room view ≤ length out
  closes_room y = leb-true (at + closing_room view) (length out) (sym tests ∙ y)

  -- and what is written stands there
  pub closes_put : {to : ℕ} {after : List ℕ} → r ≡ true → Wrote at to (closing view c) out after → Closes view c out at (record { at = to; full = false }) after
  unfolding close_of
  closes_put y w = (rw (sym tests ∙ y) (ap (λ n. record { at = n; full = false }) w.ends), rw (sym tests ∙ y) (w.holds ∙ rw w.ends))
