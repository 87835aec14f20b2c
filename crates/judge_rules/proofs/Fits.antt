-- Which jobs may stand next in an order: those without a predecessor left, whether the jobs that already stand are counted as placed or as gone.
-- Assumes nothing.
use Prim.Native.Nat.{ℕ}
use mathlib.Core.Path.{◌≡◌, refl, sym, ◌∙◌}
use mathlib.Core.Bool.{true, false}
use mathlib.Core.List.{List, [], ◌∷◌}
use borrow.Author.Tests.{eqb-true}
use lib.Dec.{eqb}
use Rattle.laws.specs.Choice.{by_test, not_both}
use Rattle.laws.specs.Lists.{member}
use Rattle.laws.proofs.Lists.{member_first, member_later, member_more}
use Rattle.laws.proofs.Parts.{nor_first, nor_second}
use Rattle.judge_rules.specs.Order.{Edges, preceded, without}
use Rattle.judge_rules.specs.Meant.{Fits}
use Rattle.judge_rules.proofs.Without.{left_before, left_other}
use Rattle.judge_rules.proofs.Preceded.{preceded_by, precedes}
use Rattle.judge_rules.proofs.Orders.{still}

-- a job that is not in a longer list is not the one added
member_none : (j k : ℕ) (ks : List ℕ) → member k (j ∷ ks) ≡ false → (eqb j k ≡ false) × (member k ks ≡ false)
unfolding member
member_none j k ks h = (nor_first (eqb j k) (member k ks) h, nor_second (eqb j k) (member k ks) h)

module _ (e : Edges) where
  -- a job that may stand first has no predecessor left
  pub fits_first : (left : List ℕ) (k : ℕ) → Fits e left [] k → preceded e left k ≡ false
  unfolding member
  fits_first left k f =
      by_test (preceded e left k)
      (λ p. let by = preceded_by e left k p in not_both (f.behind by.0 by.1 by.2) refl) (λ g. g)

  -- a job without a predecessor left may stand first
  pub first_fits : (left : List ℕ) (k : ℕ) → member k left ≡ true → preceded e left k ≡ false → Fits e left [] k
  unfolding member
  first_fits left k m f = record { job = m; free = refl; behind = λ i mi h. not_both (precedes e left i k mi h) f }

  -- a job that may stand next among the others may stand next after the first
  pub fits_more : (j : ℕ) (left placed : List ℕ) (k : ℕ) → Fits e (without j left) placed k → Fits e left (j ∷ placed) k
  fits_more j left placed k f =
      record {
        job = left_before j left k f.job;
        free = member_later j placed k (left_other j left k f.job) ∙ f.free;
        behind = λ i m h. by_test (eqb j i) (λ s. rw (← eqb-true j i s) (member_first j placed))
            (λ g. member_more j placed i (f.behind i (still j left i m g) h));
      }

  -- a job that may stand next after the first may stand next among the others
  pub fits_less : (j : ℕ) (left placed : List ℕ) (k : ℕ) → Fits e left (j ∷ placed) k → Fits e (without j left) placed k
  fits_less j left placed k f =
      let other' = member_none j k placed f.free in
      record {
        job = still j left k f.job other'.0;
        free = other'.1;
        behind = λ i m h. sym (member_later j placed i (left_other j left i m)) ∙ f.behind i (left_before j left i m) h;
      }
