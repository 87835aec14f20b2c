-- The work, turn by turn: the chunk has ended, there is no room, or a line is cut and the work goes on behind it.
-- Assumes nothing.
use Prim.Native.Nat.{ℕ, zero, suc, ◌+◌, ◌≤◌, ◌<◌}
use mathlib.Core.Path.{◌≡◌, refl, sym, ◌∙◌, subst}
use mathlib.Core.Bool.{true, false}
use mathlib.Core.List.{List}
use native.Mathlib.Omega.{arith}
use lib.Dec.{leb}
use lib.ListN.{length}
use borrow.Author.Tests.{lt-ltb, le-ltb, leb-true}
use Rattle.std.specs.Prelude.{Err}
use Rattle.laws.specs.Choice.{by_test, not_both}
use Rattle.terms.specs.declared.letters.Letter.{Letter}
use Rattle.terms.specs.declared.refusals.Field.{Field}
use Rattle.terms.specs.Letters.{of_requests}
use Rattle.terms.specs.Limits.{request_lines}
use Rattle.text_rules.specs.declared.splitter.Splitter.{Splitter}
use Rattle.text_rules.specs.Lines.{read_line, good}
use Rattle.text_rules.specs.Split.{cut_of, found_at}
use Rattle.text_rules.specs.Wrote.{Wrote, put_from}
use Rattle.text_rules.proofs.Cuts.{cut_ahead}
use Rattle.desks.specs.Stepping.{Stepped}
use Rattle.program_rules.specs.declared.Clerk.{Clerk}
use Rattle.program_rules.specs.declared.Desks.{Desks}
use Rattle.program_rules.specs.declared.View.{View}
use Rattle.program_rules.specs.OverLines.{asked, told_by, answered, line_by}
use Rattle.program_rules.specs.Desks.{on_desks}
use Rattle.program_rules.specs.Work.{viewed, roomy, due, told_bad, Turn, answering, turning, cutting, stopped, work_by}

module _ (view : View) (c : Clerk) (chunk : List ℕ) (from : ℕ) (out : List ℕ) (at : ℕ) where
  -- at the chunk's end
  pub work_done : (n : ℕ) → length chunk ≤ from → work_by n view c chunk from out at ≡ stopped c from out at false
  unfolding work_by
  work_done zero h = refl
  work_done (suc n) h = rw (le-ltb from (length chunk) h)

  -- where there is no room
  pub work_full : (n : ℕ) → from < length chunk → length chunk ≤ from + n → roomy out at ≡ false → work_by n view c chunk from out at ≡ stopped c from out at true
  unfolding work_by
  work_full zero h l f = absurd (omega arith)
  work_full (suc n) h l f = rw (lt-ltb from (length chunk) h, f)

  -- what is left to do after a turn, and that it takes fewer turns
  pub record Rest (n : ℕ) (t : Turn) : Type 0 where
    pub turns : ℕ
    pub enough : length chunk ≤ (cut_of c.splitter chunk from).next + turns
    pub same : work_by n view c chunk from out at ≡ work_by turns view t.clerk chunk (cut_of c.splitter chunk from).next t.out t.at

  -- a turn
  pub work_on : (n : ℕ) → from < length chunk → length chunk ≤ from + n → roomy out at ≡ true → Rest n (turning view (cutting c chunk from) out at)
  unfolding work_by
  work_on zero h l f = absurd (omega arith)
  work_on (suc n) h l f =
      let p = cut_ahead c.splitter chunk from h in
      record { turns = n; enough = omega arith; same = rw (lt-ltb from (length chunk) h, f) }

-- bytes that were written are put there
pub put_is : {at to : ℕ} {bytes out after : List ℕ} → Wrote at to bytes out after → after ≡ put_from out at bytes
put_is w = w.holds ∙ rw w.ends

-- a turn whose records were written
turn_is : (c : Clerk) {at to : ℕ} {bytes out after : List ℕ} → Wrote at to bytes out after →
    ◌≡◌ {A = Turn} (record { clerk = c; at = at + length bytes; out = put_from out at bytes }) (record { clerk = c; at = to; out = after })
turn_is c w = λ i. record { clerk = c; at = sym w.ends i; out = sym (put_is w) i }

module _ (view : View) (c : Clerk) (out : List ℕ) (at : ℕ) where
  -- no line is to be answered: nothing changes
  pub turn_passes : due c.splitter ≡ false → turning view c out at ≡ record { clerk = c; at = at; out = out }
  unfolding turning
  turn_passes e = rw e

  -- a bad line
  pub turn_bad : {to : ℕ} {after : List ℕ} {field : Field} → due c.splitter ≡ true → read_line of_requests (found_at c.splitter).bytes ≡ Err field →
      Wrote at to (viewed view (told_bad c.splitter.line field)) out after →
      turning view c out at ≡ record { clerk = c; at = to; out = after }
  unfolding turning answering line_by answered told_bad
  turn_bad e f w = rw (e, f) (turn_is c w)

  -- a good line
  pub turn_good : {l : Letter} {job cell to : ℕ} {o : Stepped Desks} {after : List ℕ} → due c.splitter ≡ true → read_line of_requests (found_at c.splitter).bytes ≡ good l job cell →
      o ≡ on_desks c.desks (asked l job cell) → Wrote at to (viewed view (told_by c.splitter.line (asked l job cell) o)) out after →
      turning view c out at ≡ record { clerk = record { desks = o.desk; splitter = c.splitter }; at = to; out = after }
  unfolding turning answering line_by answered
  turn_good {l} {job} {cell} {to} {o} {after} e f s =
      subst
      (λ (x : Stepped Desks). Wrote at to (viewed view (told_by c.splitter.line (asked l job cell) x)) out after → turning view c out at ≡ record { clerk = record { desks = x.desk; splitter = c.splitter }; at = to; out = after })
      (sym s)
      (λ w. rw (e, f) (turn_is (record { desks = (on_desks c.desks (asked l job cell)).desk; splitter = c.splitter }) w))

-- the number of a line that is to be answered is at most 1,000,000
pub due_line : (s : Splitter) → due s ≡ true → s.line ≤ request_lines
unfolding due
due_line s e =
    by_test (leb s.line request_lines) (leb-true s.line request_lines)
    (λ f. by_test s.ended (λ t. not_both e (rw (t, f))) (λ t. not_both e (rw t)))
