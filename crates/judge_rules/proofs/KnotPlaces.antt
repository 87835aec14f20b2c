-- The paper's walk by its places: the jobs visited, from the first to the one that comes again, are those of the knot in words.
-- Assumes nothing.
use Prim.Native.Nat.{ℕ, zero, suc, ◌+◌, ◌-◌, ◌<◌}
use mathlib.Core.Path.{◌≡◌, refl, sym, ◌∙◌, subst, subst₂}
use mathlib.Core.Logic.{◌↔◌}
use mathlib.Core.Bool.{Bool, true}
use mathlib.Core.List.{List, [], ◌∷◌, reverse_aux}
use native.Mathlib.Omega.{arith}
use lib.ListN.{length, get_or, length-reverse_aux}
use Rattle.laws.specs.Lists.{member, pos}
use Rattle.judge_rules.specs.Order.{Edges, stuck}
use Rattle.judge_rules.specs.Meant.{Smallest, Walk, Cycle}
use Rattle.judge_rules.specs.Meant.Walk.{starts, goes}
use Rattle.judge_rules.specs.KnotWorded.{Remains, SmallestOf, ComesAgain}
use Rattle.judge_rules.proofs.Preceded.{preceded_by, precedes}
use Rattle.judge_rules.proofs.Taking.{order_taken}
use Rattle.judge_rules.proofs.Orders.{rest_only}
use Rattle.judge_rules.proofs.Remains.{rest_preceded, never_taken}
use Rattle.judge_rules.proofs.Walking.{walk_once}
use Rattle.judge_rules.proofs.Places.{once_places, pos_at, round_at}

module _ (e : Edges) (jobs : List ℕ) where
  -- the jobs that remain are those of a set in which each has a predecessor, and no others
  pub remains_exactly : (j : ℕ) → Remains e jobs j ↔ (member j (stuck e jobs) ≡ true)
  remains_exactly j = (
    λ r. never_taken e (order_taken e jobs) r.part
        (λ i m. let b = r.each i m in precedes e r.part b.0 i b.1 b.2) r.only j r.named,
    λ m. record {
      part = stuck e jobs;
      named = m;
      only = rest_only e (order_taken e jobs);
      each = λ i n. preceded_by e (stuck e jobs) i (rest_preceded e (order_taken e jobs) i n);
    },
  )

  -- the smallest of those that remain and pass a test
  smallest_worded : (f : ℕ → Bool) {j : ℕ} → Smallest f (stuck e jobs) j → SmallestOf (λ i. Remains e jobs i × (f i ≡ true)) j
  smallest_worded f {j} s = record {
    among = ((remains_exactly j).1 s.job, s.passes);
    below = λ k p. s.least k ((remains_exactly k).0 p.0) p.1;
  }

  -- the walk starts at the smallest that remains
  walk_start : {js : List ℕ} → Walk e (stuck e jobs) js → (k : ℕ) → suc k ≡ length js → SmallestOf (Remains e jobs) (get_or js k 0)
  walk_start (starts s) zero h = record { among = (remains_exactly _).1 s.job; below = λ k p. s.least k ((remains_exactly k).0 p) refl }
  walk_start (starts s) (suc k) h = absurd (omega arith)
  walk_start (goes w f s) zero h = absurd (omega arith)
  walk_start (goes w f s) (suc k) h = walk_start w k (omega arith)

  -- and goes from each to its smallest predecessor that remains
  walk_next : {js : List ℕ} → Walk e (stuck e jobs) js → (k : ℕ) → suc k < length js → SmallestOf (λ i. Remains e jobs i × (e i (get_or js (suc k) 0) ≡ true)) (get_or js k 0)
  walk_next (starts s) k h = absurd (omega arith)
  walk_next (goes {j = j} w f s) zero h = smallest_worded (λ i. e i j) s
  walk_next (goes w f s) (suc k) h = walk_next w k (omega arith)

  module _ {round : List ℕ} (c : Cycle e (stuck e jobs) round) where
    -- the jobs visited, the last place, how far back the same job is, and the place where it came first
    abbrev pub way : List ℕ
    way = reverse_aux (c.job ∷ c.seen) []

    abbrev pub last : ℕ
    last = length c.seen

    abbrev pub apart : ℕ
    apart = pos c.seen c.job

    abbrev pub first : ℕ
    first = last - suc apart

    -- a place counted back from the last
    pub from_last : (k m : ℕ) → k + m ≡ last → get_or way k 0 ≡ get_or (c.job ∷ c.seen) m 0
    from_last k m h = round_at (c.job ∷ c.seen) [] k m (omega arith)

    -- one job comes again at the last place, and none before
    pub comes_again : ComesAgain e jobs way first last
    comes_again =
        let p = pos_at c.seen c.job c.again in
        record {
          size = omega (arith, length-reverse_aux (c.job ∷ c.seen) []);
          start = subst (SmallestOf (Remains e jobs)) (sym (from_last 0 last (omega arith))) (walk_start c.walked last refl);
          next = λ k h. subst₂ (λ i j. SmallestOf (λ x. Remains e jobs x × (e x j ≡ true)) i)
              (sym (from_last (suc k) (last - suc k) (omega arith))) (sym (from_last k (suc (last - suc k)) (omega arith)))
              (walk_next c.walked (last - suc k) (omega arith));
          earlier = omega (arith, p.0);
          again = from_last first (suc apart) (omega (arith, p.0)) ∙ p.1 ∙ sym (from_last last 0 (omega arith));
          once = λ i k l h s. once_places c.seen (walk_once e (stuck e jobs) c.walked) (last - suc k) (last - suc i) (omega arith) (omega arith)
              (sym (from_last k (suc (last - suc k)) (omega arith)) ∙ sym s ∙ from_last i (suc (last - suc i)) (omega arith));
        }
