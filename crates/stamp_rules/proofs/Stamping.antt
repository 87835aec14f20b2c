-- Each cell's two numbers are what the history says: the largest job number that has read it and the largest that has written it, whatever became of the jobs. Nothing lowers them (02, No. 6).
-- Assumes nothing.
use Prim.Native.Nat.{ℕ, ◌≤◌}
use mathlib.Core.Path.{◌≡◌, sym, ap, ◌∙◌, subst}
use mathlib.Core.Logic.{◌≢◌}
use mathlib.Core.Bool.{Bool, true, false, and-false}
use mathlib.Core.List.{[], ◌∷◌, ◌++◌, append-nil}
use lib.Dec.{eqb}
use borrow.Author.Tests.{eqb-true, eqb-false, ne_eqb}
use native.Mathlib.Omega.{arith}
use Rattle.laws.specs.Choice.{by_test}
use Rattle.laws.specs.Larger.{larger}
use Rattle.laws.proofs.Larger.{larger_is_second}
use Rattle.laws.proofs.Lists.{same_refl}
use Rattle.laws.proofs.Parts.{and_both}
use Rattle.terms.specs.declared.letters.Ask.{Ask}
use Rattle.terms.specs.declared.letters.Ask.TheVariants.{Read, Write, Increment, Update}
use Rattle.conflict.specs.declared.action.Kind.{Kind}
use Rattle.conflict.specs.declared.action.Action.{Action}
use Rattle.conflict.specs.declared.action.Event.TheVariants.{Does}
use Rattle.conflict.specs.Modes.{recorded}
use Rattle.conflict.specs.History.{History}
use Rattle.conflict.specs.Dirty.{changes}
use Rattle.conflict.specs.NumberOrder.{reads, largest}
use Rattle.conflict.proofs.Clauses.{records_read, records_write, records_update, records_increment, read_reads, write_reads_not, increment_reads, read_changes_not, write_changes, increment_changes}
use Rattle.conflict.proofs.Largest.{largest_none, largest_then_ends, largest_then_other, largest_then_does, largest_grows, largest_exactly}
use Rattle.desks.specs.Request.{Request}
use Rattle.desks.specs.Requests.{writes}
use Rattle.desks.specs.Started.StartedOn.{fresh, after}
use Rattle.desks.proofs.StartedThrough.{run_started}
use Rattle.stamp_rules.specs.Desk.{Desk, fresh_desk}
use Rattle.stamp_rules.specs.Rules.{late, done}
use Rattle.stamp_rules.specs.Step.{step, Started}
use Rattle.stamp_rules.specs.Course.{from}
use Rattle.stamp_rules.specs.Asked.{ReadBy, WrittenBy}
use Rattle.stamp_rules.specs.Stamped.{Stamped}
use Rattle.stamp_rules.proofs.Done.{read_done, update_done, write_done, increment_done}
use Rattle.stamp_rules.proofs.Late.{over_writer}
use Rattle.stamp_rules.proofs.Written.{asking, Wrote, nothing, action, mark, step_wrote}

-- these numbers are, cell by cell, the largest with an action of such a kind
abbrev Largest : (Kind → Bool) → (ℕ → ℕ) → History → Type 0
Largest f stamp h = (c : ℕ) → stamp c ≡ largest f c h

-- what holds for a desk and the history that it has written
pub record Matches (d : Desk) (h : History) : Type 0 where
  pub readers : Largest reads d.reader h
  pub writers : Largest changes d.writer h

module _ (f : Kind → Bool) (stamp : ℕ → ℕ) (h : History) (x : Action) (k : Largest f stamp h) where
  -- an action of another kind does not change this
  unacted : f x.kind ≡ false → Largest f stamp (h ++ Does x ∷ [])
  unacted n c = k c ∙ sym (largest_then_other f c h x (rw n (and-false (eqb x.cell c))))

  -- an action of such a kind: its cell's number is then the larger of what it was and the job, and no other cell's changes
  acted : (new : ℕ → ℕ) → f x.kind ≡ true → new x.cell ≡ larger (stamp x.cell) x.job → ((b : ℕ) → b ≢ x.cell → new b ≡ stamp b) → Largest f new (h ++ Does x ∷ [])
  acted new t there elsewhere c =
      by_test (eqb c x.cell)
      (λ e. subst (λ b. new b ≡ largest f b (h ++ Does x ∷ [])) (sym (eqb-true c x.cell e))
      (there ∙ ap (λ n. larger n x.job) (k x.cell) ∙ sym (largest_then_does f x.cell h x (and_both (eqb x.cell x.cell) (f x.kind) (same_refl x.cell) t))))
      (λ n. elsewhere c (eqb-false c x.cell n) ∙ k c ∙ sym (largest_then_other f c h x (rw (ne_eqb x.cell c (λ e. eqb-false c x.cell n (sym e))))))

module _ {d : Desk} (r : Request) {h : History} (k : Matches d h) where
  -- the reader numbers after an action that reads
  has_read_lem : (a : Ask) (e : Desk) → reads (recorded a) ≡ true → ReadBy d e r.job r.cell → Largest reads e.reader (h ++ Does (asking r a) ∷ [])
  has_read_lem a e t w = acted reads d.reader h (asking r a) k.readers e.reader t w.there w.elsewhere

  -- the writer numbers after an action that changes the cell, by a job not below the writer number
  has_written_lem : (a : Ask) (e : Desk) → changes (recorded a) ≡ true → d.writer r.cell ≤ r.job → WrittenBy d e r.job r.cell → Largest changes e.writer (h ++ Does (asking r a) ∷ [])
  has_written_lem a e t l w = acted changes d.writer h (asking r a) k.writers e.writer t (w.there ∙ sym (larger_is_second (d.writer r.cell) r.job l)) w.elsewhere

  -- a request that is not late keeps them so
  done_matches : (a : Ask) → late d r.job r.cell a ≡ false → Matches (done d r.job r.cell a) (h ++ Does (asking r a) ∷ [])
  done_matches Read f =
      let w = read_done d r.job r.cell in
      record { readers = has_read_lem Read _ (ap reads records_read ∙ read_reads) w.0; writers = rw w.1 (unacted changes d.writer h _ k.writers (ap changes records_read ∙ read_changes_not)) }
  done_matches Update f =
      let w = update_done d r.job r.cell in
      record { readers = has_read_lem Update _ (ap reads records_update ∙ read_reads) w.0; writers = rw w.1 (unacted changes d.writer h _ k.writers (ap changes records_update ∙ read_changes_not)) }
  done_matches Write f =
      let w = write_done d r.job r.cell in
      record {
        readers = rw w.1 (unacted reads d.reader h _ k.readers (ap reads records_write ∙ write_reads_not));
        writers = has_written_lem Write _ (ap changes records_write ∙ write_changes) (over_writer d r.job r.cell Write f) w.0;
      }
  done_matches Increment f =
      let w = increment_done d r.job r.cell in
      record {
        readers = has_read_lem Increment _ (ap reads records_increment ∙ increment_reads) w.0;
        writers = has_written_lem Increment _ (ap changes records_increment ∙ increment_changes) (over_writer d r.job r.cell Increment f) w.1;
      }

  -- and so does every step
  wrote_matches : {e : Desk} {g : History} → Wrote d r e g → Matches e (h ++ g)
  wrote_matches (nothing s) = rw (append-nil h) (record { readers = λ c. s.readers c ∙ k.readers c; writers = λ c. s.writers c ∙ k.writers c })
  wrote_matches (action a p f) = done_matches a f
  wrote_matches (mark m o) = record {
    readers = λ c. k.readers c ∙ sym (largest_then_ends reads c h m r.job);
    writers = λ c. k.writers c ∙ sym (largest_then_ends changes c h m r.job);
  }

-- so on every started desk they are what its history says
pub started_matches : {d : Desk} {h : History} → Started d h → Matches d h
started_matches (fresh n _ _) = unfold fresh_desk in record { readers = λ c. sym (largest_none reads c); writers = λ c. sym (largest_none changes c) }
started_matches (after {d = d} s r) = wrote_matches r (started_matches s) (step_wrote d r)

-- what is promised of them
pub stamped : {d : Desk} {h : History} → Started d h → Stamped h (from d)
stamped {d} {h} s =
    let k = started_matches s in
    record {
      readers = k.readers;
      readers_worded = λ c. (largest_exactly reads c h (d.reader c)).1 (sym (k.readers c));
      writers = k.writers;
      writers_worded = λ c. (largest_exactly changes c h (d.writer c)).1 (sym (k.writers c));
      readers_stay = λ rs c. omega (arith, k.readers c, (started_matches (run_started s rs)).readers c, largest_grows reads c h (writes step d rs));
      writers_stay = λ rs c. omega (arith, k.writers c, (started_matches (run_started s rs)).writers c, largest_grows changes c h (writes step d rs));
    }
