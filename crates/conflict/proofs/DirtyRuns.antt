-- A dirty read by runs is a dirty read in the request's words, and the other way round. So both accounts have the same first dirty read and the same latest writer (02, No. 2).
-- Assumes nothing.
use Prim.Native.Nat.{ℕ, suc, ◌+◌, ◌-◌, ◌<◌}
use mathlib.Core.Path.{◌≡◌, refl, sym, ap, ◌∙◌}
use mathlib.Core.Logic.{◌↔◌, ◌⊎◌, inl, inr, ⊎_elim}
use mathlib.Core.Bool.{true}
use mathlib.Core.List.{◌∷◌, ◌++◌, append_assoc}
use native.Mathlib.Omega.{arith}
use lib.Dec.{leb}
use lib.ListN.{length, get_or, take, drop, length-append, length-drop, get_or-append}
use lib.Seq.{split_at, length-take-le, get_or-drop}
use borrow.Author.Tests.{leb-true, leb-false}
use Rattle.laws.specs.Choice.{by_test, not_both}
use Rattle.conflict.specs.declared.action.Kind.{Kind}
use Rattle.conflict.specs.declared.action.Kind.TheVariants.{Read, Write, Increment}
use Rattle.conflict.specs.declared.action.Event.TheVariants.{Does, Ends}
use Rattle.conflict.specs.History.{History, commits}
use Rattle.conflict.specs.Dirty.{changes, DirtyRead, FirstDirty}
use Rattle.conflict.specs.DirtyRuns.{LineAt, DirtyByRuns, FirstByRuns}
use Rattle.conflict.proofs.RunLines.{shifted, mid_line, first_part, in_run}
use Rattle.conflict.proofs.RunEnds.{ended_none, none_ended, end_behind, run_commits}

-- a write or an increment changes a cell, and nothing else does
writes_changes : (k : Kind) → (k ≡ Write) ⊎ (k ≡ Increment) → changes k ≡ true
unfolding changes
writes_changes k c = ⊎_elim (λ e. rw e) (λ e. rw e) c

changes_writes : (k : Kind) → changes k ≡ true → (k ≡ Write) ⊎ (k ≡ Increment)
unfolding changes
changes_writes Read e = not_both e refl
changes_writes Write e = inl refl
changes_writes Increment e = inr refl

module _ (h : History) (p q i j : ℕ) where
  -- from the request's words to runs
  to_runs : DirtyRead h p q i j → DirtyByRuns h p q i j
  to_runs d =
      let ahead : History = d.before ++ Does d.write ∷ d.between in
      let rest : History = d.between ++ Does d.read ∷ d.after in
      let place : length ahead ≡ p = omega (arith, length-append d.before (Does d.write ∷ d.between), d.read_place) in
      let lines : h ≡ d.before ++ Does d.write ∷ rest = d.lines ∙ append_assoc d.before (Does d.write ∷ d.between) (Does d.read ∷ d.after) in
      let read_line : LineAt h p (Does d.read) = mid_line h ahead (Does d.read) d.after p d.lines place in
      let write_line : LineAt h q (Does d.write) = mid_line h d.before (Does d.write) rest q lines (sym d.write_place) in
      let r = in_run h i p d.read read_line in
      let w = in_run h j q d.write write_line in
      record {
        read = d.read;
        write = d.write;
        read_line = read_line;
        reads = d.reads;
        reads_by = d.reads_by;
        write_line = write_line;
        writes = changes_writes d.write.kind d.writes;
        writes_by = d.writes_by;
        one_cell = d.one_cell;
        two_jobs = d.two_jobs;
        earlier = omega (arith, d.read_place, d.write_place);
        kept = record {
          begin = r.0;
          end = r.1;
          stands = r.2;
          commit = (run_commits h ahead (Does d.read) d.after p i r.0 r.1 d.lines place r.2).0 d.reader_commits;
        };
        loose = record {
          begin = w.0;
          end = w.1;
          stands = w.2;
          never = λ a. not_both ((run_commits h d.before (Does d.write) rest q j w.0 w.1 lines (sym d.write_place) w.2).1 a) d.writer_does_not;
          later = by_test (leb p w.1) (λ t. leb-true p w.1 t)
              (λ f.
              let less : w.1 < p = leb-false p w.1 f in
              let n : ℕ = w.1 - suc q in
              ⊎_elim (λ e. absurd (omega (arith, read_line.0)))
              (λ m. absurd (none_ended j d.between d.not_ended n (
                m.0,
                first_part d.between (Does d.read ∷ d.after) n (Ends m.0 j) (omega (arith, d.read_place, d.write_place, w.2.before))
                    (end_behind h d.before (Does d.write) rest q j w.0 w.1 lines (sym d.write_place) w.2 m.0 m.1),
              )))
              w.2.run.ends);
        };
      }

  -- from runs to the request's words
  from_runs : DirtyByRuns h p q i j → DirtyRead h p q i j
  from_runs d =
      let n : ℕ = p - suc q in
      let before : History = take q h in
      let rest : History = drop (suc q) h in
      let between : History = take n rest in
      let after : History = drop (suc n) rest in
      let sooner : q < p = d.earlier in
      let inside : p < length h = d.read_line.0 in
      let size : length before ≡ q = length-take-le q h (omega arith) in
      let left : length rest ≡ length h - suc q = length-drop (suc q) h in
      let gap : length between ≡ n = length-take-le n rest (omega arith) in
      let one' : h ≡ before ++ Does d.write ∷ rest = split_at h q (Does d.write) (omega arith) ∙ ap (λ e. before ++ e ∷ rest) d.write_line.1 in
      let here' : suc q + n ≡ p = omega arith in
      let at_read : get_or rest n (Does d.read) ≡ Does d.read = get_or-drop (suc q) h n (Does d.read) ∙ ap (λ k. get_or h k (Does d.read)) here' ∙ d.read_line.1 in
      let two' : rest ≡ between ++ Does d.read ∷ after = split_at rest n (Does d.read) (omega arith) ∙ ap (λ e. between ++ e ∷ after) at_read in
      let lines : h ≡ before ++ Does d.write ∷ (between ++ Does d.read ∷ after) = one' ∙ ap (λ l. before ++ Does d.write ∷ l) two' in
      let whole : h ≡ (before ++ Does d.write ∷ between) ++ Does d.read ∷ after = lines ∙ sym (append_assoc before (Does d.write ∷ between) (Does d.read ∷ after)) in
      let ahead : length (before ++ Does d.write ∷ between) ≡ p = omega (arith, length-append before (Does d.write ∷ between)) in
      let w = d.loose in
      let r = d.kept in
      record {
        before = before;
        write = d.write;
        between = between;
        read = d.read;
        after = after;
        lines = whole;
        write_place = sym size;
        read_place = omega arith;
        reads = d.reads;
        reads_by = d.reads_by;
        writes = writes_changes d.write.kind d.writes;
        writes_by = d.writes_by;
        one_cell = d.one_cell;
        two_jobs = d.two_jobs;
        reader_commits = (run_commits h (before ++ Does d.write ∷ between) (Does d.read) after p i r.begin r.end whole ahead r.stands).1 r.commit;
        writer_does_not = by_test (commits j (between ++ Does d.read ∷ after))
            (λ t. absurd (w.never ((run_commits h before (Does d.write) (between ++ Does d.read ∷ after) q j w.begin w.end lines size w.stands).0 t)))
            (λ f. f);
        not_ended = ended_none j between (λ k m. w.stands.run.unbroken (suc (q + k)) (omega (arith, w.stands.behind)) (omega (arith, w.later, m.1.0)) (
          m.0,
          shifted h before (Does d.write) (between ++ Does d.read ∷ after) q lines size k (Ends m.0 j)
              (omega (arith, m.1.0, length-append between (Does d.read ∷ after)), get_or-append between (Does d.read ∷ after) (Ends m.0 j) k m.1.0 ∙ m.1.1),
        ));
      }

  -- THE TWO ACCOUNTS: they have the same dirty reads
  pub dirty_by_runs : DirtyRead h p q i j ↔ DirtyByRuns h p q i j
  dirty_by_runs = (to_runs, from_runs)

-- so they have the same first one, with the same latest writer
pub first_by_runs : (h : History) (i j : ℕ) → FirstDirty h i j ↔ FirstByRuns h i j
first_by_runs h i j = (
  λ f. record {
    p = f.read_at;
    q = f.write_at;
    dirty = (dirty_by_runs h f.read_at f.write_at i j).0 f.dirty_read;
    first = λ x y k l d. f.first x y k l ((dirty_by_runs h x y k l).1 d);
    latest = λ y k l d. f.latest y k l ((dirty_by_runs h f.read_at y k l).1 d);
  },
  λ f. record {
    read_at = f.p;
    write_at = f.q;
    dirty_read = (dirty_by_runs h f.p f.q i j).1 f.dirty;
    first = λ x y k l d. f.first x y k l ((dirty_by_runs h x y k l).0 d);
    latest = λ y k l d. f.latest y k l ((dirty_by_runs h f.p y k l).0 d);
  },
)
