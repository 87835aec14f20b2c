-- The arrays that keep a history: one more line put behind those kept so far.
-- Assumes nothing.
use Prim.Native.Nat.{ℕ, zero, suc, ◌+◌, ◌≤◌, ◌<◌}
use mathlib.Core.Path.{◌≡◌, refl}
use mathlib.Core.List.{List, [], ◌∷◌, ◌++◌}
use native.Mathlib.Numerals.{add-one}
use native.Mathlib.Omega.{arith}
use borrow.Author.Tests.{eqb-true, eqb-false}
use lib.Dec.{eqb}
use lib.ListN.{length, get_or, set}
use lib.Seq.{get_or-set_same, get_or-set_other}
use Rattle.laws.specs.Choice.{by_test}
use Rattle.judge_rules.specs.Arrays.{event_by, history_by}

module _ (codes jobs cells : List ℕ) (n code job cell : ℕ) where
  -- what is put behind the first lines leaves them
  history_before : (k : ℕ) → k ≤ n → history_by (set codes n code) (set jobs n job) (set cells n cell) k ≡ history_by codes jobs cells k
  unfolding history_by
  history_before zero h = refl
  history_before (suc k) h =
      let other : k ≡ n → ⊥ = omega arith in
      rw (history_before k (omega arith), get_or-set_other codes n k code 0 other, get_or-set_other jobs n k job 0 other, get_or-set_other cells n k cell 0 other)

  -- with one more line its event is behind the others
  pub history_more : n < length codes → n < length jobs → n < length cells →
      history_by (set codes n code) (set jobs n job) (set cells n cell) (n + 1) ≡ history_by codes jobs cells n ++ event_by code job cell ∷ []
  unfolding history_by
  history_more h g k =
      rw (add-one, history_by, history_before n (omega arith), get_or-set_same codes n code 0 h, get_or-set_same jobs n job 0 g, get_or-set_same cells n cell 0 k)

-- with one more line whose job is not 0, no line's is
pub named_more : (jobs : List ℕ) (n job : ℕ) → n < length jobs → 0 < job → ((p : ℕ) → p < n → get_or jobs p 0 ≡ 0 → ⊥) → (p : ℕ) → p < n + 1 → get_or (set jobs n job) p 0 ≡ 0 → ⊥
named_more jobs n job h g a p m =
    by_test (eqb p n)
    (λ t. rw (eqb-true p n t, get_or-set_same jobs n job 0 h) (omega arith))
    (λ f. let other : p ≡ n → ⊥ = eqb-false p n f in rw (get_or-set_other jobs n p job 0 other) (a p (omega arith)))
