-- Each job's smallest remaining predecessor: kept while jobs are taken away, searched further, and known for the jobs passed.
-- Assumes nothing.
use Prim.Native.Nat.{ℕ, ◌+◌, ◌≤◌, ◌<◌}
use mathlib.Core.Path.{◌≡◌, sym, ap, ◌∙◌, subst}
use mathlib.Core.Bool.{Bool, true, false, not}
use mathlib.Core.List.{List}
use native.Mathlib.Omega.{arith}
use lib.Dec.{eqb}
use lib.ListN.{length, get_or, set, replicate, length-set, length-replicate}
use lib.Seq.{get_or-set_same, get_or-set_other}
use borrow.Author.Tests.{eqb-true, eqb-false}
use Rattle.laws.specs.Choice.{by_test, not_both}
use Rattle.judge_rules.specs.Order.{Edges, first, preceded, ready}
use Rattle.judge_rules.specs.Knot.{predecessor}
use Rattle.judge_rules.proofs.Firsts.{by_one, first_is, first_none, first_least}
use Rattle.judge_rules.proofs.Preceded.{preceded_by, precedes}
use Rattle.std.specs.Prelude.{None, Some}
use Rattle.judge_core.specs.Left.{left_of, left_from, or_nobody}
use Rattle.judge_core.specs.Preceding.{predecessor_from, Preceding, Known}
use Rattle.judge_core.proofs.Listing.{listed_ascending}
use Rattle.judge_core.proofs.Counting.{zero_everywhere}
use Rattle.judge_core.proofs.Seeking.{seek_start, seek_gone, seek_past, seek_some, seek_nobody, seek_behind, left_small, left_has, found_left, none_left}

-- a job found is one of 256, and nobody is one more
found_low : (left : List Bool) (test : ℕ → Bool) → or_nobody (first test (left_of left)) ≤ 256
unfolding or_nobody
found_low left test =
    by_one (first test (left_of left)) (λ q. rw q (omega arith))
    (λ i q. rw q (omega (arith, left_small left i (first_is test (left_of left) i q).0)))

-- a job that remains after another is taken away remained before
was_left : (left : List Bool) (k : ℕ) → length left ≡ 256 → k < 256 → (i : ℕ) → get_or (set left k false) i false ≡ true → get_or left i false ≡ true
was_left left k w b i t =
    by_test (eqb i k)
    (λ q. not_both t (rw (eqb-true i k q) (get_or-set_same left k false false (omega (arith, w)))))
    (λ q. sym (get_or-set_other left k i false false (eqb-false i k q)) ∙ t)

-- so job 0 is not, where it was not
pub never_left : (left : List Bool) (k : ℕ) → length left ≡ 256 → k < 256 → get_or left 0 false ≡ false → get_or (set left k false) 0 false ≡ false
never_left left k w b z =
    by_test (get_or (set left k false) 0 false) (λ t. not_both (was_left left k w b 0 t) z) (λ f. f)

module _ (e : Edges) (left : List Bool) where
  -- at first nobody is passed
  pub preceding_none : get_or left 0 false ≡ false → Preceding e left (replicate 256 0)
  preceding_none z =
      record {
        wide = length-replicate {A = ℕ} 256 0;
        low = λ j. omega (arith, zero_everywhere 256 j);
        passed = λ i j l h t. absurd (omega (arith, zero_everywhere 256 j));
        there = λ j l b t. not_both t (ap (λ k. get_or left k false) (zero_everywhere 256 j) ∙ z);
      }

  -- a job without a predecessor is not preceded
  none_known : (j r : ℕ) → r ≡ or_nobody (predecessor e (left_of left) j) → r ≡ 256 → not (preceded e (left_of left) j) ≡ true
  unfolding predecessor
  none_known j r h n =
      by_test (preceded e (left_of left) j)
      (λ t.
      let by = preceded_by e (left_of left) j t in
      not_both by.2 (first_none (λ i. e i j) (left_of left) (none_left left (λ i. e i j) r h n) by.0 by.1))
      (λ f. ap not f)

  -- and one with one is
  some_known : (j r : ℕ) → r ≡ or_nobody (predecessor e (left_of left) j) → (r ≡ 256 → ⊥) → not (preceded e (left_of left) j) ≡ false
  unfolding predecessor
  some_known j r h n =
      let is = first_is (λ i. e i j) (left_of left) r (found_left left (λ i. e i j) r h n).0 in
      ap not (precedes e (left_of left) r j is.0 is.1)

  module _ (predecessors : List ℕ) (p : Preceding e left predecessors) where
    -- one job less
    pub preceding_less : (k : ℕ) → length left ≡ 256 → k < 256 → Preceding e (set left k false) predecessors
    preceding_less k w b =
        record {
          wide = p.wide;
          low = p.low;
          passed = λ i j l h t. p.passed i j (was j l) h (was i t);
          there = λ j l h t. p.there j (was j l) h (was (get_or predecessors j 0) t);
        }
      where
        was : (i : ℕ) → get_or (set left k false) i false ≡ true → get_or left i false ≡ true
        was i t = was_left left k w b i t

    -- nobody is known yet
    known_none : Known e left predecessors 0
    known_none j b l = absurd (omega arith)

    -- of a job that is not left nothing is to be known
    known_skip : (j : ℕ) → get_or left j false ≡ false → Known e left predecessors j → Known e left predecessors (j + 1)
    known_skip j f h k b l =
        by_test (eqb k j) (λ t. not_both l (rw (eqb-true k j t) f)) (λ g. h k (omega (arith, eqb-false k j g)) l)

    module _ (j r : ℕ) (b : j < 256) (l : get_or left j false ≡ true) (looked : r ≡ predecessor_from e left (get_or predecessors j 0) j) where
      -- a job that looks on from its place finds its smallest predecessor
      looked_known : r ≡ or_nobody (predecessor e (left_of left) j)
      unfolding predecessor_from predecessor
      looked_known =
          looked ∙ ap or_nobody (sym (seek_behind left (λ i. e i j) (get_or predecessors j 0) (p.low j) (λ i h t. p.passed i j l h t)))

      -- the place of job j, and of the others
      its_place : get_or (set predecessors j r) j 0 ≡ r
      its_place = get_or-set_same predecessors j r 0 (omega (arith, p.wide))

      other_place : (k : ℕ) → eqb k j ≡ false → get_or (set predecessors j r) k 0 ≡ get_or predecessors k 0
      other_place k f = get_or-set_other predecessors j k r 0 (eqb-false k j f)

      -- none smaller that is left has an edge to it
      smaller_not : (i : ℕ) → i < r → get_or left i false ≡ true → e i j ≡ false
      unfolding predecessor left_of
      smaller_not i h t =
          by_test (eqb r 256)
          (λ q. first_none (λ k. e k j) (left_of left) (none_left left (λ k. e k j) r looked_known (eqb-true r 256 q)) i (left_has left i (omega (arith, eqb-true r 256 q)) t))
          (λ q. by_test (e i j)
          (λ y.
          let by = found_left left (λ k. e k j) r looked_known (eqb-false r 256 q) in
          let least' : r ≤ i = first_least (λ k. e k j) (left_of left) (listed_ascending (λ k. get_or left k false) 0 256) r by.0 i (left_has left i (omega (arith, by.1)) t) y in
          absurd (omega arith))
          (λ f. f))

      -- it is put at its place
      preceding_more : Preceding e left (set predecessors j r)
      unfolding predecessor
      preceding_more =
          record {
            wide = length-set predecessors j r ∙ p.wide;
            low = λ k. by_test (eqb k j)
                (λ t. rw (eqb-true k j t, its_place) (subst (λ x. x ≤ 256) (sym looked_known) (found_low left (λ i. e i j))))
                (λ f. rw (other_place k f) (p.low k));
            passed = λ i k o h t. by_test (eqb k j)
                (λ q. let s : k ≡ j = eqb-true k j q in rw s (smaller_not i (rw (s, its_place) at h) t))
                (λ f. p.passed i k o (rw (other_place k f) at h) t);
            there = λ k o h t. by_test (eqb k j)
                (λ q.
                let s : k ≡ j = eqb-true k j q in
                let low : r < 256 = rw (s, its_place) at h in
                rw (s, its_place) (first_is (λ i. e i j) (left_of left) r (found_left left (λ i. e i j) r looked_known (λ n. omega arith)).0).1)
                (λ f. rw (other_place k f) (p.there k o (rw (other_place k f) at h) (rw (other_place k f) at t)));
          }

      -- and is known then
      known_more : Known e left predecessors j → Known e left (set predecessors j r) (j + 1)
      known_more h k c o =
          by_test (eqb k j)
          (λ t. rw (eqb-true k j t, its_place) looked_known)
          (λ f. other_place k f ∙ h k (omega (arith, eqb-false k j f)) o)

-- the jobs before j are passed: none of them is ready, and their smallest predecessors are known
pub record Passed (e : Edges) (left : List Bool) (predecessors : List ℕ) (j : ℕ) : Type 0 where
  pub low : j ≤ 256
  pub kept : Preceding e left predecessors
  pub known : Known e left predecessors j
  pub next : ready e (left_of left) ≡ first (λ k. not (preceded e (left_of left) k)) (left_from left j)

module _ (e : Edges) (left : List Bool) (predecessors : List ℕ) where
  -- nobody is passed
  pub passed_none : Preceding e left predecessors → Passed e left predecessors 0
  unfolding ready
  passed_none p =
      record { low = omega arith; kept = p; known = known_none e left predecessors p; next = seek_start left (λ k. not (preceded e (left_of left) k)) }

  module _ (j : ℕ) (b : j < 256) (s : Passed e left predecessors j) where
    -- a job that is not left is passed
    pub passed_skip : get_or left j false ≡ false → Passed e left predecessors (j + 1)
    passed_skip f =
        record {
          low = omega arith;
          kept = s.kept;
          known = known_skip e left predecessors s.kept j f s.known;
          next = seek_gone left (λ k. not (preceded e (left_of left) k)) j (ready e (left_of left)) b f s.next;
        }

    module _ (r : ℕ) (l : get_or left j false ≡ true) (looked : r ≡ predecessor_from e left (get_or predecessors j 0) j) where
      -- its smallest predecessor
      found : r ≡ or_nobody (predecessor e (left_of left) j)
      found = looked_known e left predecessors s.kept j r b l looked

      -- one that has a predecessor is passed
      pub passed_more : (r ≡ 256 → ⊥) → Passed e left (set predecessors j r) (j + 1)
      passed_more n =
          record {
            low = omega arith;
            kept = preceding_more e left predecessors s.kept j r b l looked;
            known = known_more e left predecessors s.kept j r b l looked s.known;
            next = seek_past left (λ k. not (preceded e (left_of left) k)) j (ready e (left_of left)) b (some_known e left j r found n) s.next;
          }

      -- one that has none is ready
      pub passed_ready : r ≡ 256 → (Some j ≡ ready e (left_of left)) × Preceding e left (set predecessors j r)
      passed_ready n =
          (sym (seek_some left (λ k. not (preceded e (left_of left) k)) j (ready e (left_of left)) b l (none_known e left j r found n) s.next), preceding_more e left predecessors s.kept j r b l looked)

  -- when all are passed nobody is ready
  pub passed_all : (j : ℕ) → 256 ≤ j → Passed e left predecessors j → (None ≡ ready e (left_of left)) × (Preceding e left predecessors × Known e left predecessors 256)
  passed_all j h s =
      (sym (seek_nobody left (λ k. not (preceded e (left_of left) k)) j (ready e (left_of left)) h s.next), (s.kept, λ k c o. s.known k (omega arith) o))
