-- Tables that a pass makes line by line: which jobs have a c, from where on each job's actions count, and who owns each line.
-- Assumes nothing.
use Prim.Native.Nat.{ℕ, suc, ◌+◌, ◌≤◌, ◌<◌}
use mathlib.Core.Path.{◌≡◌, refl, sym, ◌∙◌}
use mathlib.Core.Bool.{Bool, true, false, ◌&&◌}
use mathlib.Core.List.{List}
use native.Mathlib.Numerals.{add-one}
use native.Mathlib.Omega.{arith}
use lib.Dec.{ltb, eqb}
use lib.ListN.{get_or, set, replicate}
use borrow.Author.Tests.{eq-eqb, ne_eqb, ltb-true, ltb-false, lt-ltb, le-ltb, le-leb, lt-leb}
use Rattle.laws.specs.Choice.{by_test}
use Rattle.judge_core.specs.Lists.{values_of}
use Rattle.judge_core.specs.Counted.{has_commit, counted_from, owner_at, owners_by}
use Rattle.judge_core.proofs.Tabled.{tab_same, tab_all, tab_set}

-- nothing with what is not
and_none : (a : Bool) → (a && false) ≡ false
and_none true = refl
and_none false = refl

module _ (codes jobs : List ℕ) where
  -- before the first line nobody has a c
  pub commits_none : replicate 256 false ≡ values_of (has_commit codes jobs 0) 256
  unfolding has_commit
  commits_none = tab_all 256 false

  -- a c is its job's
  pub commits_set : (p j : ℕ) (done : List Bool) → done ≡ values_of (has_commit codes jobs p) 256 → j ≡ get_or jobs p 0 → j < 256 → get_or codes p 0 ≡ 3 → set done j true ≡ values_of (has_commit codes jobs (p + 1)) 256
  unfolding has_commit
  commits_set p j done e q b c =
      rw (e, add-one p)
      (tab_set (has_commit codes jobs p) (has_commit codes jobs (suc p)) 256 false j true b
      (rw (eq-eqb (get_or jobs p 0) j (sym q), eq-eqb (get_or codes p 0) 3 c))
      (λ i l o. rw (ne_eqb (get_or jobs p 0) i (λ r. o (sym r ∙ sym q)))))

  -- any other line changes nothing
  pub commits_keep : (p : ℕ) (done : List Bool) → done ≡ values_of (has_commit codes jobs p) 256 → (get_or codes p 0 ≡ 3 → ⊥) → done ≡ values_of (has_commit codes jobs (p + 1)) 256
  unfolding has_commit
  commits_keep p done e c =
      rw (e, add-one p)
      (tab_same (has_commit codes jobs p) (has_commit codes jobs (suc p)) 256 false
      (λ i l. rw (ne_eqb (get_or codes p 0) 3 c, and_none (eqb (get_or jobs p 0) i))))

  -- before the first line all lines count
  pub since_none : replicate 256 0 ≡ values_of (counted_from codes jobs 0) 256
  unfolding counted_from
  since_none = tab_all 256 0

  -- after a k its job's lines count from the next on
  pub since_set : (p j : ℕ) (since : List ℕ) → since ≡ values_of (counted_from codes jobs p) 256 → j ≡ get_or jobs p 0 → j < 256 → 4 < get_or codes p 0 → set since j (p + 1) ≡ values_of (counted_from codes jobs (p + 1)) 256
  unfolding counted_from
  since_set p j since e q b c =
      rw (e, add-one p)
      (tab_set (counted_from codes jobs p) (counted_from codes jobs (suc p)) 256 0 j (suc p) b
      (rw (eq-eqb (get_or jobs p 0) j (sym q), lt-ltb 4 (get_or codes p 0) c))
      (λ i l o. rw (ne_eqb (get_or jobs p 0) i (λ r. o (sym r ∙ sym q)))))

  -- any other line changes nothing
  pub since_keep : (p : ℕ) (since : List ℕ) → since ≡ values_of (counted_from codes jobs p) 256 → get_or codes p 0 ≤ 4 → since ≡ values_of (counted_from codes jobs (p + 1)) 256
  unfolding counted_from
  since_keep p since e c =
      rw (e, add-one p)
      (tab_same (counted_from codes jobs p) (counted_from codes jobs (suc p)) 256 0
      (λ i l. rw (le-ltb 4 (get_or codes p 0) c, and_none (eqb (get_or jobs p 0) i))))

  module _ (since : List ℕ) where
    -- a mark is nobody's action
    pub owner_mark : (p : ℕ) → 3 ≤ get_or codes p 0 → 0 ≡ owner_at codes jobs since p
    unfolding owner_at
    owner_mark p h = rw (le-ltb (get_or codes p 0) 3 h)

    -- an action from before where its job's count is nobody's
    pub owner_early : (p j : ℕ) → get_or codes p 0 < 3 → j ≡ get_or jobs p 0 → p < get_or since j 0 → 0 ≡ owner_at codes jobs since p
    unfolding owner_at
    owner_early p j h q b = rw (lt-ltb (get_or codes p 0) 3 h, ← q, lt-leb (get_or since j 0) p b)

    -- any other is its job's
    pub owner_job : (p j : ℕ) → get_or codes p 0 < 3 → j ≡ get_or jobs p 0 → get_or since j 0 ≤ p → get_or jobs p 0 ≡ owner_at codes jobs since p
    unfolding owner_at
    owner_job p j h q b = rw (lt-ltb (get_or codes p 0) 3 h, ← q, le-leb (get_or since j 0) p b)

    -- before the first line nobody owns one
    pub owners_none : replicate 4096 0 ≡ values_of (owners_by codes jobs since 0) 4096
    unfolding owners_by
    owners_none = tab_all 4096 0 ∙ tab_same (λ p. 0) (owners_by codes jobs since 0) 4096 0 (λ p b. rw (le-ltb p 0 (omega arith)))

    -- one line more with its owner
    pub owners_set : (p : ℕ) (all : List ℕ) (v : ℕ) → all ≡ values_of (owners_by codes jobs since p) 4096 → p < 4096 → v ≡ owner_at codes jobs since p → set all p v ≡ values_of (owners_by codes jobs since (p + 1)) 4096
    unfolding owners_by
    owners_set p all v e b h =
        rw (e, add-one p)
        (tab_set (owners_by codes jobs since p) (owners_by codes jobs since (suc p)) 4096 0 p v b
        (rw (lt-ltb p (suc p) (omega arith)) h)
        (λ i l o.
        by_test (ltb i p)
        (λ t. rw (t, lt-ltb i (suc p) (omega (arith, ltb-true i p t))))
        (λ f. rw (f, le-ltb i (suc p) (omega (arith, ltb-false i p f, o))))))
