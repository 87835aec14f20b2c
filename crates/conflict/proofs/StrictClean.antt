-- A strict history is not dirty: while the run of a write or an increment has not ended, no other job reads its cell (02, No. 2).
-- Assumes nothing.
use Prim.Native.Nat.{ℕ}
use mathlib.Core.Path.{◌≡◌, refl, sym, ap, ◌∙◌}
use mathlib.Core.Bool.{true, false, not, ◌&&◌, ◌||◌}
use mathlib.Core.List.{◌∷◌, ◌++◌, append_assoc}
use borrow.Author.Tests.{eq-eqb, ne_eqb, not-true}
use Rattle.laws.specs.Choice.{not_both}
use Rattle.laws.proofs.Parts.{and_first, and_second, or_either}
use Rattle.conflict.specs.declared.action.Kind.{Kind}
use Rattle.conflict.specs.declared.action.Kind.TheVariants.{Read, Write, Increment}
use Rattle.conflict.specs.declared.action.Action.{Action}
use Rattle.conflict.specs.declared.action.Event.TheVariants.{Does}
use Rattle.conflict.specs.Schedule.{agree, conflicts}
use Rattle.conflict.specs.History.{History, undisturbed, strict}
use Rattle.conflict.specs.Runs.{ended}
use Rattle.conflict.specs.Dirty.{changes, DirtyRead, IsDirty}
use Rattle.conflict.proofs.Calm.{calm, undisturbed_append, strict_append}

-- a write or an increment does not agree with a read
changes_disagrees : (k l : Kind) → changes k ≡ true → l ≡ Read → agree k l ≡ false
unfolding changes agree
changes_disagrees Read l c e = not_both refl (sym c)
changes_disagrees Write l c e = refl
changes_disagrees Increment l c e = rw e

-- a dirty read conflicts with its write
pub dirty_conflicts : {h : History} {p q i j : ℕ} (d : DirtyRead h p q i j) → conflicts d.write d.read ≡ true
unfolding conflicts
dirty_conflicts d =
    let c = eq-eqb d.write.cell d.read.cell (sym d.one_cell) in
    let j = ne_eqb d.write.job d.read.job (λ e. d.two_jobs (sym (sym d.writes_by ∙ e ∙ d.reads_by))) in
    let k = changes_disagrees d.write.kind d.read.kind d.writes d.reads in
    rw (c, j, k)

-- in a strict history, an action comes only after the run of every earlier action that conflicts with it has ended
pub strict_ended : (h : History) → strict h ≡ true → (before : History) (a : Action) (between : History) (b : Action) (after : History) → h ≡ before ++ Does a ∷ between ++ Does b ∷ after → conflicts a b ≡ true → ended a.job between ≡ true
unfolding strict undisturbed
strict_ended h s before a between b after l c =
    let rest : History = between ++ Does b ∷ after in
    let whole : strict (before ++ Does a ∷ rest) ≡ true = ap strict (sym (append_assoc before (Does a ∷ between) (Does b ∷ after)) ∙ sym l) ∙ s in
    let later' : (undisturbed a rest && strict rest) ≡ true = and_second (strict before && calm before (Does a ∷ rest)) (undisturbed a rest && strict rest) (sym (strict_append before (Does a ∷ rest)) ∙ whole) in
    let until : (undisturbed a between && (ended a.job between || undisturbed a (Does b ∷ after))) ≡ true = sym (undisturbed_append a between (Does b ∷ after)) ∙ and_first (undisturbed a rest) (strict rest) later' in
    or_either (ended a.job between) (undisturbed a (Does b ∷ after)) (and_second (undisturbed a between) (ended a.job between || undisturbed a (Does b ∷ after)) until) (λ t. t)
    (λ u. not_both c (not-true (conflicts a b) (and_first (not (conflicts a b)) (undisturbed a after) u)))

-- NOT DIRTY: a strict history is not dirty
pub strict_clean : (h : History) → strict h ≡ true → IsDirty h → ⊥
strict_clean h s dirty =
    let d = dirty.dirty_read in
    let over : ended d.write.job d.between ≡ true = strict_ended h s d.before d.write d.between d.read d.after d.lines (dirty_conflicts d) in
    not_both over (rw d.writes_by d.not_ended)

-- nor was it dirty at any earlier moment: every beginning of a strict history is strict
pub strict_part : (x y : History) → strict (x ++ y) ≡ true → strict x ≡ true
strict_part x y s = and_first (strict x) (calm x y) (and_first (strict x && calm x y) (strict y) (sym (strict_append x y) ∙ s))
