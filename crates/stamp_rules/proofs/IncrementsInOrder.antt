-- After a write or an increment of a cell no job with a smaller number acts on it. So two jobs' increments of one cell, which do not conflict, stand in number order too (02, No. 6).
-- Assumes nothing.
use Prim.Native.Nat.{ℕ, ◌<◌, ◌≤◌}
use mathlib.Core.Path.{◌≡◌, sym, ap, ◌∙◌, subst}
use mathlib.Core.Logic.{◌≢◌}
use mathlib.Core.Bool.{true}
use mathlib.Core.List.{◌∷◌, ◌++◌, append-nil}
use native.Mathlib.Omega.{arith}
use Rattle.laws.proofs.Joined.{not_empty_mid, last_split}
use Rattle.conflict.specs.declared.action.Kind.TheVariants.{Increment}
use Rattle.conflict.specs.declared.action.Action.{Action}
use Rattle.conflict.specs.declared.action.Event.TheVariants.{Does}
use Rattle.conflict.specs.History.{History}
use Rattle.conflict.specs.Dirty.{changes}
use Rattle.conflict.specs.NumberOrder.{largest}
use Rattle.conflict.proofs.Clauses.{increment_changes}
use Rattle.conflict.proofs.Largest.{largest_over}
use Rattle.conflict.proofs.OneEvent.{same_action}
use Rattle.desks.specs.Request.{Request}
use Rattle.desks.specs.Started.StartedOn.{fresh, after}
use Rattle.stamp_rules.specs.Desk.{Desk}
use Rattle.stamp_rules.specs.Step.{Started}
use Rattle.stamp_rules.proofs.Late.{over_writer}
use Rattle.stamp_rules.proofs.Written.{asking, Wrote, nothing, action, mark, step_wrote}
use Rattle.stamp_rules.proofs.Stamping.{Matches, started_matches}

-- a job that acts on a cell after a write or an increment of it does not have a smaller number
abbrev NoneSmaller : History → Type 0
NoneSmaller h = (before : History) (a : Action) (between : History) (b : Action) (rest : History) → h ≡ before ++ Does a ∷ between ++ Does b ∷ rest → a.cell ≡ b.cell → changes a.kind ≡ true → a.job ≤ b.job

-- a step keeps this, if the cells' numbers are what the history says
wrote_none_smaller : {d : Desk} {r : Request} {e : Desk} {h g : History} → Matches d h → NoneSmaller h → Wrote d r e g → NoneSmaller (h ++ g)
wrote_none_smaller {h = h} k o (nothing s) = rw (append-nil h) o
wrote_none_smaller {d = d} {r = r} {h = h} k o (action x p f) = λ before a between b rest q c w.
    last_split h (Does (asking r x)) (before ++ Does a ∷ between) (Does b) rest q
    (λ p e.
    let s : asking r x ≡ b = same_action e in
    let m : a.job ≤ largest changes r.cell h = largest_over changes r.cell h before a between p (c ∙ ap (λ y. y.cell) (sym s)) w in
    let n : a.job ≤ r.job = omega (arith, m, k.writers r.cell, over_writer d r.job r.cell x f) in
    subst (λ y. a.job ≤ y.job) s n)
    (λ u p. o before a between b u p c w)
wrote_none_smaller {r = r} {h = h} k o (mark m q) = λ before a between b rest e c w.
    last_split h _ (before ++ Does a ∷ between) (Does b) rest e
    (λ p x. let z : ◌≡◌ {A = ℕ} 0 1 = cc in absurd (omega arith))
    (λ u p. o before a between b u p c w)

-- so it is in every history that the desk writes
none_smaller : {d : Desk} {h : History} → Started d h → NoneSmaller h
none_smaller (fresh n _ _) = λ before a between b rest e c w. not_empty_mid (before ++ Does a ∷ between) (Does b) rest e
none_smaller (after {d = d} s r) = wrote_none_smaller (started_matches s) (none_smaller s) (step_wrote d r)

-- TWO JOBS' INCREMENTS OF ONE CELL STAND IN NUMBER ORDER
pub increments_in_order : {d : Desk} {h : History} → Started d h → (before : History) (a : Action) (between : History) (b : Action) (rest : History) → h ≡ before ++ Does a ∷ between ++ Does b ∷ rest → a.cell ≡ b.cell → a.kind ≡ Increment → b.kind ≡ Increment → a.job ≢ b.job → a.job < b.job
increments_in_order s before a between b rest e c i j n =
    let l : a.job ≤ b.job = none_smaller s before a between b rest e c (ap changes i ∙ increment_changes) in
    omega arith
