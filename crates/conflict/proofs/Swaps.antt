-- Swaps are the book's: two neighbours anywhere in a schedule change places. A swap can be undone, so equivalence is symmetric; it is transitive, and holds behind any other actions.
-- Assumes nothing.
use mathlib.Core.Path.{◌≡◌, refl, sym, ap, ◌∙◌, subst₂}
use mathlib.Core.Logic.{◌≢◌}
use mathlib.Core.Bool.{false}
use mathlib.Core.List.{[], ◌∷◌, ◌++◌}
use Rattle.laws.proofs.Lists.{same_sym}
use Rattle.conflict.specs.declared.action.Kind.{Kind}
use Rattle.conflict.specs.declared.action.Kind.TheVariants.{Read, Write, Increment}
use Rattle.conflict.specs.declared.action.Action.{Action}
use Rattle.conflict.specs.Schedule.{Schedule, agree, conflicts, Swap, Equivalent}
use Rattle.conflict.specs.Schedule.Swap.{here, later}
use Rattle.conflict.specs.Schedule.Equivalent.{done, after}

-- the book's swap: the schedules are alike except for two neighbours of different jobs that do not conflict and change places (000, 18.2.1)
pub record Neighbours (s t : Schedule) : Type 0 where
  pub before : Schedule
  pub first : Action
  pub second : Action
  pub behind : Schedule
  pub was : s ≡ before ++ first ∷ second ∷ behind
  pub becomes : t ≡ before ++ second ∷ first ∷ behind
  pub others : first.job ≢ second.job
  pub agreeing : conflicts first second ≡ false

-- a swap behind any other actions
pub swap_behind : (before : Schedule) {s t : Schedule} → Swap s t → Swap (before ++ s) (before ++ t)
swap_behind [] w = w
swap_behind (a ∷ before) w = later (swap_behind before w)

-- each swap is of two neighbours
pub swap_splits : {s t : Schedule} → Swap s t → Neighbours s t
swap_splits (here {a} {b} {s} o f) = record { before = []; first = a; second = b; behind = s; was = refl; becomes = refl; others = o; agreeing = f }
swap_splits (later {a} w) = one_more a (swap_splits w)
  where
    one_more : (a : Action) {s t : Schedule} → Neighbours s t → Neighbours (a ∷ s) (a ∷ t)
    one_more a n = record { before = a ∷ n.before; first = n.first; second = n.second; behind = n.behind; was = ap (λ s. a ∷ s) n.was; becomes = ap (λ s. a ∷ s) n.becomes; others = n.others; agreeing = n.agreeing }

-- two such neighbours can be swapped
pub swap_joins : {s t : Schedule} → Neighbours s t → Swap s t
swap_joins n = subst₂ Swap (sym n.was) (sym n.becomes) (swap_behind n.before (here n.others n.agreeing))

-- agreeing does not depend on which kind comes first
pub agree_sym : (k l : Kind) → agree k l ≡ agree l k
unfolding agree
agree_sym Read Read = refl
agree_sym Read Write = refl
agree_sym Read Increment = refl
agree_sym Write Read = refl
agree_sym Write Write = refl
agree_sym Write Increment = refl
agree_sym Increment Read = refl
agree_sym Increment Write = refl
agree_sym Increment Increment = refl

-- conflicting does not depend on which action comes first
pub conflicts_sym : (a b : Action) → conflicts a b ≡ conflicts b a
unfolding conflicts
conflicts_sym a b = simp (same_sym a.cell b.cell, same_sym a.job b.job, agree_sym a.kind b.kind)

-- a swap is undone by a swap
pub swap_back : {s t : Schedule} → Swap s t → Swap t s
swap_back (here {a} {b} o f) = here (λ e. o (sym e)) (conflicts_sym b a ∙ f)
swap_back (later w) = later (swap_back w)

-- equivalence is transitive
pub equivalent_trans : {s t u : Schedule} → Equivalent s t → Equivalent t u → Equivalent s u
equivalent_trans done f = f
equivalent_trans (after w e) f = after w (equivalent_trans e f)

-- equivalence is symmetric
pub equivalent_sym : {s t : Schedule} → Equivalent s t → Equivalent t s
equivalent_sym done = done
equivalent_sym (after w e) = equivalent_trans (equivalent_sym e) (after (swap_back w) done)

-- equivalent schedules are equivalent behind one more action
pub equivalent_later : {a : Action} {s t : Schedule} → Equivalent s t → Equivalent (a ∷ s) (a ∷ t)
equivalent_later done = done
equivalent_later (after w e) = after (later w) (equivalent_later e)

-- and behind any others
pub equivalent_behind : (before : Schedule) {s t : Schedule} → Equivalent s t → Equivalent (before ++ s) (before ++ t)
equivalent_behind [] e = e
equivalent_behind (a ∷ before) e = equivalent_later (equivalent_behind before e)
