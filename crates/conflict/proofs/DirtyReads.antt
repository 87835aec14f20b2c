-- A dirty read by its two places in the history: what must stand there, and what makes a read dirty (02, No. 2).
-- Assumes nothing.
use Prim.Native.Nat.{ℕ, ◌+◌, ◌<◌}
use mathlib.Core.Path.{◌≡◌, refl, sym, ◌∙◌}
use mathlib.Core.Bool.{Bool, true, false, not, ◌&&◌}
use mathlib.Core.List.{List, [], ◌∷◌, ◌++◌, append_assoc}
use native.Mathlib.Omega.{arith}
use lib.Dec.{eqb}
use lib.ListN.{length, length-append}
use borrow.Author.Tests.{eqb-true, eqb-false, eq-eqb, ne_eqb, not-true}
use Rattle.laws.specs.Choice.{not_both}
use Rattle.laws.proofs.Parts.{and_first, and_second}
use Rattle.conflict.specs.declared.action.Kind.{Kind}
use Rattle.conflict.specs.declared.action.Kind.TheVariants.{Read, Write, Increment}
use Rattle.conflict.specs.declared.action.Action.{Action}
use Rattle.conflict.specs.declared.action.Event.{Event}
use Rattle.conflict.specs.declared.action.Event.TheVariants.{Does}
use Rattle.conflict.specs.History.{History, commits}
use Rattle.conflict.specs.Runs.{ended}
use Rattle.conflict.specs.Dirty.{changes, DirtyRead, spoils}

-- a list splits at a given place in only one way
pub parted_once : {A : Type 0} (x y : List A) (a b : A) (s t : List A) → x ++ a ∷ s ≡ y ++ b ∷ t → length x ≡ length y → (x ≡ y) × (a ≡ b) × (s ≡ t)
parted_once [] [] a b s t e l = (refl, cc, cc)
parted_once [] (d ∷ y) a b s t e l = absurd (omega arith)
parted_once (c ∷ x) [] a b s t e l = absurd (omega arith)
parted_once (c ∷ x) (d ∷ y) a b s t e l =
    let rest' : x ++ a ∷ s ≡ y ++ b ∷ t = cc in
    let r = parted_once x y a b s t rest' (omega arith) in
    let one' : c ≡ d = cc in
    let two' : x ≡ y = r.0 in
    (cc, r.1, r.2)

-- a read does not change a cell, and an action that does not change a cell is a read
pub read_keeps : (k : Kind) → k ≡ Read → changes k ≡ false
unfolding changes
read_keeps k e = rw e

pub keeps_read : (k : Kind) → changes k ≡ false → k ≡ Read
unfolding changes
keeps_read Read e = refl
keeps_read Write e = not_both refl e
keeps_read Increment e = not_both refl e

module _ {h : History} {p q i j : ℕ} (d : DirtyRead h p q i j) where
  -- the place of the read is within the history, and after that of the write
  pub read_within : p < length h
  read_within =
      rw d.lines
      (omega (arith, d.read_place, length-append (d.before ++ Does d.write ∷ d.between) (Does d.read ∷ d.after), length-append d.before (Does d.write ∷ d.between)))

  pub write_ahead : q < p
  write_ahead = omega (arith, d.read_place, d.write_place)

  -- what stands at the place of the read
  pub read_parts : (ahead : History) (e : Event) (after : History) → h ≡ ahead ++ e ∷ after → length ahead ≡ p → (Does d.read ≡ e) × (d.after ≡ after)
  read_parts ahead e after l s =
      let r = parted_once (d.before ++ Does d.write ∷ d.between) ahead (Does d.read) e d.after after
      (sym d.lines ∙ l)
      (omega (arith, length-append d.before (Does d.write ∷ d.between), d.read_place)) in
      (r.1, r.2)

  -- what stands at both places, between them and after them
  pub parts : (ahead : History) (e : Event) (between : History) (f : Event) (after : History) → h ≡ ahead ++ e ∷ (between ++ f ∷ after) → length ahead ≡ q → p ≡ q + 1 + length between →
      (Does d.write ≡ e) × (d.between ≡ between) × (Does d.read ≡ f) × (d.after ≡ after)
  parts ahead e between f after l s t =
      let r = parted_once d.before ahead (Does d.write) e (d.between ++ Does d.read ∷ d.after) (between ++ f ∷ after)
      (sym (append_assoc d.before (Does d.write ∷ d.between) (Does d.read ∷ d.after)) ∙ sym d.lines ∙ l) (omega (arith, d.write_place)) in
      let u = parted_once d.between between (Does d.read) f d.after after r.2 (omega (arith, d.read_place, d.write_place)) in
      (r.1, u.0, u.1, u.2)

  -- the write makes the read dirty by the test
  pub write_spoils : spoils d.write d.between d.read d.after ≡ true
  unfolding spoils
  write_spoils =
      let w : commits d.write.job (d.between ++ Does d.read ∷ d.after) ≡ false = rw d.writes_by d.writer_does_not in
      let o : ended d.write.job d.between ≡ false = rw d.writes_by d.not_ended in
      let t : eqb d.write.job d.read.job ≡ false = ne_eqb d.write.job d.read.job (λ e. d.two_jobs (sym (sym d.writes_by ∙ e ∙ d.reads_by))) in
      rw (d.writes, eq-eqb d.write.cell d.read.cell (sym d.one_cell), t, w, o)

  -- it is a read
  pub is_read : changes d.read.kind ≡ false
  is_read = read_keeps d.read.kind d.reads

  -- in a run that commits
  pub read_commits : commits d.read.job d.after ≡ true
  read_commits = rw d.reads_by d.reader_commits

-- an action that makes a read dirty by the test makes a dirty read
pub spoils_read : (h : History) (p q : ℕ) (before : History) (a : Action) (between : History) (read : Action) (after : History) → h ≡ before ++ Does a ∷ between ++ Does read ∷ after → q ≡ length before → p ≡ length before + 1 + length between →
    spoils a between read after ≡ true → changes read.kind ≡ false → commits read.job after ≡ true → DirtyRead h p q read.job a.job
unfolding spoils
spoils_read h p q before a between read after l u v s k c =
    let fate : Bool = not (commits a.job (between ++ Does read ∷ after)) && not (ended a.job between) in
    let jobs : Bool = not (eqb a.job read.job) in
    let cells : Bool = eqb a.cell read.cell in
    let one' = and_second (changes a.kind) (cells && (jobs && fate)) s in
    let two' = and_second cells (jobs && fate) one' in
    let three' = and_second jobs fate two' in
    record {
      before = before;
      write = a;
      between = between;
      read = read;
      after = after;
      lines = l;
      write_place = u;
      read_place = v;
      reads = keeps_read read.kind k;
      reads_by = refl;
      writes = and_first (changes a.kind) (cells && (jobs && fate)) s;
      writes_by = refl;
      one_cell = sym (eqb-true a.cell read.cell (and_first cells (jobs && fate) one'));
      two_jobs = λ e. eqb-false a.job read.job (not-true (eqb a.job read.job) (and_first jobs fate two')) (sym e);
      reader_commits = c;
      writer_does_not = not-true (commits a.job (between ++ Does read ∷ after)) (and_first (not (commits a.job (between ++ Does read ∷ after))) (not (ended a.job between)) three');
      not_ended = not-true (ended a.job between) (and_second (not (commits a.job (between ++ Does read ∷ after))) (not (ended a.job between)) three');
    }
