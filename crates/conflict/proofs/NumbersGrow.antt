-- A history in number order stays so with one more event: with any mark, and with an action whose job is not below the numbers it is compared with (02, No. 6).
-- Assumes nothing.
use Prim.Native.Nat.{ℕ, ◌≤◌, ◌<◌}
use mathlib.Core.Path.{◌≡◌, refl, sym, subst}
use mathlib.Core.Logic.{◌≢◌}
use mathlib.Core.Bool.{true, false}
use mathlib.Core.List.{[], ◌∷◌, ◌++◌}
use native.Mathlib.Omega.{arith}
use borrow.Author.Tests.{eqb-false}
use Rattle.laws.specs.Choice.{not_both}
use Rattle.laws.proofs.Joined.{not_empty_mid, last_split}
use Rattle.conflict.specs.declared.action.Kind.{Kind}
use Rattle.conflict.specs.declared.action.Kind.TheVariants.{Read, Write, Increment}
use Rattle.conflict.specs.declared.action.Action.{Action}
use Rattle.conflict.specs.declared.action.Mark.{Mark}
use Rattle.conflict.specs.declared.action.Event.{Event}
use Rattle.conflict.specs.declared.action.Event.TheVariants.{Does, Ends}
use Rattle.conflict.specs.Schedule.{agree, conflicts}
use Rattle.conflict.specs.History.{History}
use Rattle.conflict.specs.Dirty.{changes}
use Rattle.conflict.specs.NumberOrder.{ActsInNumberOrder, reads, largest}
use Rattle.conflict.proofs.Edges.{conflicts_other}
use Rattle.conflict.proofs.Conflicting.{conflict_cell, conflict_kinds}
use Rattle.conflict.proofs.Largest.{largest_over}

-- of two kinds that do not agree, the first changes the cell, or it reads and the second changes the cell
by_disagreeing : {P : Type 0} (k l : Kind) → agree k l ≡ false → (changes k ≡ true → P) → (reads k ≡ true → changes l ≡ true → P) → P
unfolding agree changes reads
by_disagreeing Read Read f one' two' = not_both refl f
by_disagreeing Read Write f one' two' = two' refl refl
by_disagreeing Read Increment f one' two' = two' refl refl
by_disagreeing Write l f one' two' = one' refl
by_disagreeing Increment l f one' two' = one' refl

-- an empty history is in number order
pub number_order_none : ActsInNumberOrder []
number_order_none = record { rises = λ before a between b after e c. not_empty_mid (before ++ Does a ∷ between) (Does b) after e }

-- a history in number order stays so with one more event, unless that is an action that conflicts with an earlier one of a job whose number is not smaller
one_more : (h : History) (e : Event) → ActsInNumberOrder h → ((before : History) (a : Action) (after : History) (b : Action) → h ≡ before ++ Does a ∷ after → e ≡ Does b → conflicts a b ≡ true → a.job < b.job) → ActsInNumberOrder (h ++ e ∷ [])
one_more h e o new =
    record {
      rises = λ before a between b after q c. last_split h e (before ++ Does a ∷ between) (Does b) after q
          (λ p r. new before a between b p r c)
          (λ w p. o.rises before a between b w p c);
    }

-- with any mark
pub number_order_ends : (h : History) (m : Mark) (j : ℕ) → ActsInNumberOrder h → ActsInNumberOrder (h ++ Ends m j ∷ [])
number_order_ends h m j o = one_more h (Ends m j) o (λ before a after b p r c. let z : ◌≡◌ {A = ℕ} 0 1 = cc in absurd (omega arith))

-- with an action whose job is not below the largest that has changed its cell, nor, if the action changes the cell, below the largest that has read it
pub number_order_grows : (h : History) (b : Action) → ActsInNumberOrder h → largest changes b.cell h ≤ b.job → (changes b.kind ≡ true → largest reads b.cell h ≤ b.job) → ActsInNumberOrder (h ++ Does b ∷ [])
number_order_grows h b o over-writers over-readers =
    one_more h (Does b) o
    (λ before a after d p r c. let e : b ≡ d = cc in subst (λ x. a.job < x.job) e (below before a after p (subst (λ x. conflicts a x ≡ true) (sym e) c)))
  where
    below : (before : History) (a : Action) (after : History) → h ≡ before ++ Does a ∷ after → conflicts a b ≡ true → a.job < b.job
    below before a after p c =
        let other' : a.job ≢ b.job = eqb-false a.job b.job (conflicts_other a b c) in
        let most : a.job ≤ b.job =
        by_disagreeing a.kind b.kind (conflict_kinds a b c)
        (λ w. omega (arith, largest_over changes b.cell h before a after p (conflict_cell a b c) w))
        (λ r w. omega (arith, over-readers w, largest_over reads b.cell h before a after p (conflict_cell a b c) r)) in
        omega arith
