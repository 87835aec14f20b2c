-- The largest job number that has acted on a cell: with one more event, over two joined histories, and that it is the only number that fits its description (02, No. 6).
-- Crates above use these laws in place of the definitions.
-- Assumes nothing.
use Prim.Native.Nat.{ℕ, ◌≤◌}
use mathlib.Core.Path.{◌≡◌, refl, sym, ap, ◌∙◌, subst}
use mathlib.Core.Logic.{◌⊎◌, inl, inr, ⊎_elim, ◌↔◌}
use mathlib.Core.Bool.{Bool, true, false, ◌&&◌}
use mathlib.Core.List.{[], ◌∷◌, ◌++◌}
use native.Mathlib.Omega.{arith}
use lib.Dec.{eqb}
use borrow.Author.Tests.{eqb-true, eq-eqb}
use Rattle.laws.specs.Choice.{pick, by_test}
use Rattle.laws.specs.Larger.{larger}
use Rattle.laws.proofs.Parts.{and_first, and_second}
use Rattle.laws.proofs.Larger.{by_larger, larger_first, larger_second, larger_is_first, larger_is_second, larger_assoc}
use Rattle.conflict.specs.declared.action.Kind.{Kind}
use Rattle.conflict.specs.declared.action.Action.{Action}
use Rattle.conflict.specs.declared.action.Mark.{Mark}
use Rattle.conflict.specs.declared.action.Event.{Event}
use Rattle.conflict.specs.declared.action.Event.TheVariants.{Does, Ends}
use Rattle.conflict.specs.History.{History}
use Rattle.conflict.specs.NumberOrder.{largest, HasActed, IsLargest}

module _ (f : Kind → Bool) (c : ℕ) where
  -- in an empty history no job has acted
  pub largest_none : largest f c [] ≡ 0
  unfolding largest
  largest_none = refl

  -- an action in front counts if it is on the cell and of such a kind
  pub largest_does : (a : Action) (h : History) → largest f c (Does a ∷ h) ≡ pick (eqb a.cell c && f a.kind) (larger a.job (largest f c h)) (largest f c h)
  unfolding largest
  largest_does a h = refl

  -- a mark in front does not
  pub largest_ends : (m : Mark) (j : ℕ) (h : History) → largest f c (Ends m j ∷ h) ≡ largest f c h
  unfolding largest
  largest_ends m j h = refl

  -- over two histories, one after the other, it is the larger of the two
  pub largest_append : (h g : History) → largest f c (h ++ g) ≡ larger (largest f c h) (largest f c g)
  unfolding largest
  largest_append [] g = sym (larger_is_second 0 (largest f c g) (omega arith))
  largest_append (Does a ∷ h) g =
      by_test (eqb a.cell c && f a.kind)
      (λ t. rw t (ap (larger a.job) (largest_append h g) ∙ larger_assoc a.job (largest f c h) (largest f c g)))
      (λ n. rw n (largest_append h g))
  largest_append (Ends m j ∷ h) g = largest_append h g

  -- no event lowers it
  pub largest_grows : (h g : History) → largest f c h ≤ largest f c (h ++ g)
  largest_grows h g = omega (arith, largest_append h g, larger_first (largest f c h) (largest f c g))

  -- a mark at the end does not change it
  pub largest_then_ends : (h : History) (m : Mark) (j : ℕ) → largest f c (h ++ Ends m j ∷ []) ≡ largest f c h
  unfolding largest
  largest_then_ends h m j = largest_append h (Ends m j ∷ []) ∙ larger_is_first (largest f c h) 0 (omega arith)

  -- nor does an action at the end that is on another cell, or of another kind
  pub largest_then_other : (h : History) (a : Action) → (eqb a.cell c && f a.kind) ≡ false → largest f c (h ++ Does a ∷ []) ≡ largest f c h
  unfolding largest
  largest_then_other h a n = largest_append h (Does a ∷ []) ∙ rw n (larger_is_first (largest f c h) 0 (omega arith))

  -- after an action of such a kind on the cell it is the larger of what it was and the action's job
  pub largest_then_does : (h : History) (a : Action) → (eqb a.cell c && f a.kind) ≡ true → largest f c (h ++ Does a ∷ []) ≡ larger (largest f c h) a.job
  unfolding largest
  largest_then_does h a t = largest_append h (Does a ∷ []) ∙ rw t (ap (larger (largest f c h)) (larger_is_first a.job 0 (omega arith)))

  -- no job that has acted so has a larger number
  pub largest_most : (h : History) (k : ℕ) → HasActed f c h k → k ≤ largest f c h
  unfolding largest
  largest_most h k d =
      let t : (eqb d.act.cell c && f d.act.kind) ≡ true = rw (eq-eqb d.act.cell c d.on_cell, d.of_kind) in
      let one : larger d.act.job (largest f c d.after) ≡ largest f c (Does d.act ∷ d.after) = rw t in
      let all : largest f c h ≡ larger (largest f c d.before) (largest f c (Does d.act ∷ d.after)) =
      ap (largest f c) d.lines ∙ largest_append d.before (Does d.act ∷ d.after) in
      omega (arith, d.by_job, larger_first d.act.job (largest f c d.after), larger_second (largest f c d.before) (largest f c (Does d.act ∷ d.after)))

  -- the same for an action at its place in the history
  pub largest_over : (h before : History) (a : Action) (after : History) → h ≡ before ++ Does a ∷ after → a.cell ≡ c → f a.kind ≡ true → a.job ≤ largest f c h
  largest_over h before a after e on' of' =
      largest_most h a.job (record { before = before; act = a; after = after; lines = e; on_cell = on'; of_kind = of'; by_job = refl })

  -- a job that has acted so still has with one more event in front
  acted_later : (e : Event) (h : History) (n : ℕ) → HasActed f c h n → HasActed f c (e ∷ h) n
  acted_later e h n d =
      record { before = e ∷ d.before; act = d.act; after = d.after; lines = ap (λ g. e ∷ g) d.lines; on_cell = d.on_cell; of_kind = d.of_kind; by_job = d.by_job }

  -- a number that is 0 or has acted so still is or has with one more event in front
  attained_later : (e : Event) (h : History) (n : ℕ) → (n ≡ 0) ⊎ HasActed f c h n → (n ≡ 0) ⊎ HasActed f c (e ∷ h) n
  attained_later e h n (inl z) = inl z
  attained_later e h n (inr d) = inr (acted_later e h n d)

  -- it has acted so itself, or it is 0
  pub largest_attained : (h : History) → (largest f c h ≡ 0) ⊎ HasActed f c h (largest f c h)
  unfolding largest
  largest_attained [] = inl refl
  largest_attained (Does a ∷ h) =
      let rest = attained_later (Does a) h (largest f c h) (largest_attained h) in
      by_test (eqb a.cell c && f a.kind)
      (λ t. rw t (by_larger a.job (largest f c h)
      (λ e l. inr (record { before = []; act = a; after = h; lines = refl; on_cell = eqb-true a.cell c (and_first (eqb a.cell c) (f a.kind) t); of_kind = and_second (eqb a.cell c) (f a.kind) t; by_job = sym e }))
      (λ e l. rw e rest)))
      (λ n. rw n rest)
  largest_attained (Ends m j ∷ h) = attained_later (Ends m j) h (largest f c h) (largest_attained h)

  -- it fits the description of the largest, and no second number does
  pub largest_exactly : (h : History) (n : ℕ) → IsLargest f c h n ↔ (largest f c h ≡ n)
  largest_exactly h n = (
    λ l.
        let up : n ≤ largest f c h = ⊎_elim (λ z. omega arith) (λ d. largest_most h n d) l.attained in
        let down : largest f c h ≤ n = ⊎_elim (λ z. omega arith) (λ d. l.most (largest f c h) d) (largest_attained h) in
        omega arith,
    λ e. subst (IsLargest f c h) e (record { most = largest_most h; attained = largest_attained h }),
  )
