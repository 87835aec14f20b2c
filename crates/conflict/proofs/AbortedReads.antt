-- What Adya calls an aborted read is dirty. A dirty read need not be an aborted one: a committed write in between overwrites the value, but the read stays dirty (02, No. 2).
-- Assumes nothing.
use Prim.Native.Nat.{ℕ, zero, suc, ◌≤◌, ◌<◌}
use mathlib.Core.Path.{◌≡◌, refl, sym, ap, ◌∙◌, subst, subst₂}
use mathlib.Core.Logic.{◌⊎◌, inl, inr}
use mathlib.Core.List.{[], ◌∷◌}
use native.Mathlib.Omega.{arith}
use lib.Dec.{leb, ltb}
use borrow.Author.Tests.{leb-true, leb-false, ltb-true, ltb-false}
use Rattle.laws.specs.Choice.{by_test}
use Rattle.conflict.specs.declared.action.Kind.TheVariants.{Read, Write}
use Rattle.conflict.specs.declared.action.Action.{Action}
use Rattle.conflict.specs.declared.action.Mark.TheVariants.{Commit, GiveUp}
use Rattle.conflict.specs.declared.action.Event.{Event}
use Rattle.conflict.specs.declared.action.Event.TheVariants.{Does, Ends}
use Rattle.conflict.specs.History.{History, is_commit, marked, commits}
use Rattle.conflict.specs.Runs.{is_end, ended}
use Rattle.conflict.specs.Dirty.{changes, DirtyRead}
use Rattle.conflict.specs.DirtyRuns.{LineAt, MarkAt, Standing, AbortedRead}
use Rattle.conflict.proofs.RunLines.{act_no_mark}
use Rattle.conflict.proofs.DirtyRuns.{dirty_by_runs}

-- ONE WAY: an aborted read is dirty
pub aborted_dirty : (h : History) (p q i j : ℕ) → AbortedRead h p q i j → DirtyRead h p q i j
aborted_dirty h p q i j a =
    let w = a.from in
    (dirty_by_runs h p q i j).1
    (record {
      read = a.read;
      write = w.write;
      read_line = a.read_line;
      reads = a.reads;
      reads_by = a.reads_by;
      write_line = w.line;
      writes = w.writes;
      writes_by = w.by;
      one_cell = sym w.on;
      two_jobs = a.two_jobs;
      earlier = a.earlier;
      kept = a.kept;
      loose = record {
        begin = w.begin;
        end = w.end;
        stands = w.stands;
        never = a.never;
        later = by_test (leb p w.end) (λ t. leb-true p w.end t) (λ f. absurd (a.never (w.still (leb-false p w.end f))));
      };
    })

-- 1 writes, 3 writes the same cell and commits, 2 reads it and commits, and 1 gives up
abbrev pub overwritten : History
overwritten =
    Does (record { kind = Write; job = 1; cell = 0 })
    ∷ Does (record { kind = Write; job = 3; cell = 0 })
    ∷ Ends Commit 3
    ∷ Does (record { kind = Read; job = 2; cell = 0 })
    ∷ Ends Commit 2
    ∷ Ends GiveUp 1
    ∷ []

-- NOT THE OTHER WAY: the read in that history is dirty, with writer 1
pub overwritten_dirty : DirtyRead overwritten 3 0 2 1
unfolding changes commits is_commit ended marked is_end
overwritten_dirty = record {
  before = [];
  write = record { kind = Write; job = 1; cell = 0 };
  between = Does (record { kind = Write; job = 3; cell = 0 }) ∷ Ends Commit 3 ∷ [];
  read = record { kind = Read; job = 2; cell = 0 };
  after = Ends Commit 2 ∷ Ends GiveUp 1 ∷ [];
  lines = refl;
  write_place = refl;
  read_place = refl;
  reads = refl;
  reads_by = refl;
  writes = refl;
  writes_by = refl;
  one_cell = refl;
  two_jobs = λ (e : ◌≡◌ {A = ℕ} 2 1). omega arith;
  reader_commits = refl;
  writer_does_not = refl;
  not_ended = refl;
}

-- only line 3 is a read, of cell 0
only_read : (p : ℕ) (a : Action) → LineAt overwritten p (Does a) → a.kind ≡ Read → (p ≡ 3) × (a.cell ≡ 0)
only_read zero a l r = let q = l.1 in let z : ◌≡◌ {A = ℕ} 0 1 = cc in absurd (omega arith)
only_read (suc zero) a l r = let q = l.1 in let z : ◌≡◌ {A = ℕ} 0 1 = cc in absurd (omega arith)
only_read (suc (suc zero)) a l r = act_no_mark (sym l.1)
only_read (suc (suc (suc zero))) a l r = (refl, let q = l.1 in cc)
only_read (suc (suc (suc (suc zero)))) a l r = act_no_mark (sym l.1)
only_read (suc (suc (suc (suc (suc zero))))) a l r = act_no_mark (sym l.1)
only_read (suc (suc (suc (suc (suc (suc p)))))) a l r = absurd (omega (arith, l.0))

-- of lines 1 and 2 only line 1 is an action, and it is 3's
only_write : (q : ℕ) (a : Action) → LineAt overwritten q (Does a) → 1 ≤ q → q < 3 → (q ≡ 1) × (a.job ≡ 3)
only_write zero a l low high = absurd (omega arith)
only_write (suc zero) a l low high = (refl, let q = l.1 in cc)
only_write (suc (suc zero)) a l low high = act_no_mark (sym l.1)
only_write (suc (suc (suc q))) a l low high = absurd (omega arith)

-- before its commit in line 2 job 3 has no mark
none_of_three : (k : ℕ) → k < 2 → MarkAt overwritten k 3 → ⊥
none_of_three zero h m = act_no_mark m.1.1
none_of_three (suc zero) h m = act_no_mark m.1.1
none_of_three (suc (suc k)) h m = omega arith

-- 3's write still stands at line 3
stands_three : Standing overwritten 3 1 3 0
stands_three = record {
  write = record { kind = Write; job = 3; cell = 0 };
  line = (omega arith, refl);
  writes = inl refl;
  by = refl;
  on = refl;
  begin = 0;
  end = 2;
  stands = record { run = record { begins = inl refl; unbroken = λ k b l m. none_of_three k l m; ends = inr (Commit, (omega arith, refl)) }; behind = omega arith; before = omega arith };
  still = λ l. (omega arith, refl);
}

-- and no read in that history is an aborted one
pub overwritten_not_aborted : (p q i j : ℕ) → AbortedRead overwritten p q i j → ⊥
overwritten_not_aborted p q i j a =
    let r = only_read p a.read a.read_line a.reads in
    let w = a.from in
    let low : 1 ≤ q = a.latest 1 3 (omega (arith, r.0)) (subst₂ (λ x c. Standing overwritten x 1 3 c) (sym r.0) (sym r.1) stands_three) in
    let s = only_write q w.write w.line low (omega (arith, r.0, a.earlier)) in
    let three : 3 ≡ j = sym s.1 ∙ w.by in
    let commit : LineAt overwritten 2 (Ends Commit j) = subst (λ x. LineAt overwritten 2 (Ends Commit x)) three (omega arith, refl) in
    let end : 2 ≡ w.end =
    by_test (ltb 2 w.end) (λ t. absurd (w.stands.run.unbroken 2 (omega (arith, w.stands.behind, s.0)) (ltb-true 2 w.end t) (Commit, commit)))
    (λ f. omega (arith, ltb-false 2 w.end f, w.stands.before)) in
    a.never (subst (λ x. LineAt overwritten x (Ends Commit j)) end commit)
