-- The tables of the passes that look for the first dirty read, one line at a time: where runs end, and for each cell the latest end of the runs that changed it.
-- Assumes nothing.
use Prim.Native.Nat.{ℕ, suc, ◌+◌, ◌-◌, ◌≤◌, ◌<◌}
use mathlib.Core.Path.{◌≡◌, refl, sym, ap, ◌∙◌}
use mathlib.Core.Bool.{Bool, true, false}
use mathlib.Core.List.{List}
use native.Mathlib.Numerals.{add-one}
use native.Mathlib.Omega.{arith}
use lib.Dec.{eqb}
use lib.ListN.{length, get_or, set, replicate, length-set, length-replicate}
use lib.Seq.{get_or-set_same, get_or-set_other}
use borrow.Author.Tests.{eqb-true, eqb-false, eq-eqb, ne_eqb}
use Rattle.laws.specs.Choice.{by_test, not_both}
use Rattle.judge_core.specs.Lists.{values_of}
use Rattle.judge_core.specs.RunEnds.{end_by, run_end, end_at, later_end, latest_end, reads_dirt, dirty_at, spoils_at, LastWrite}
use Rattle.judge_core.proofs.Tabled.{tab_at, tab_all, tab_set}

-- the ends are there of the lines from p on
pub record EndsFrom (codes jobs : List ℕ) (n p : ℕ) (ends : List ℕ) : Type 0 where
  pub wide : length ends ≡ 4096
  pub there : (q : ℕ) → p ≤ q → q < n → get_or ends q 0 ≡ end_at codes jobs n q

module _ (codes jobs : List ℕ) (n : ℕ) where
  -- behind the last line each run that is open ends there
  pub seen_none : (m : ℕ) → m ≡ n → replicate 256 m ≡ values_of (λ j. run_end codes jobs j n (n - n)) 256
  unfolding run_end
  seen_none m e =
      let none' : n - n ≡ 0 = omega arith in
      rw (e, none') (tab_all 256 n)

  pub ends_none : EndsFrom codes jobs n n (replicate 4096 0)
  ends_none = record { wide = length-replicate {A = ℕ} 4096 0; there = λ q a b. absurd (omega arith) }

  module _ (p q j : ℕ) (seen : List ℕ) (l : p ≡ q + 1) (h : p ≤ n) (e : seen ≡ values_of (λ i. run_end codes jobs i p (n - p)) 256) (s : j ≡ get_or jobs q 0) (b : j < 256) where
    -- what is seen of a job's run from behind a line
    seen_at : get_or seen j 0 ≡ run_end codes jobs j (suc q) (n - suc q)
    seen_at =
        let one' : p ≡ suc q = omega arith in
        rw (e, tab_at (λ i. run_end codes jobs i p (n - p)) 256 0 j b, one')

    -- is its line's end
    pub ends_more : (ends : List ℕ) → n ≤ 4096 → EndsFrom codes jobs n p ends → EndsFrom codes jobs n q (set ends q (get_or seen j 0))
    unfolding end_at
    ends_more ends f t =
        record {
          wide = length-set ends q (get_or seen j 0) ∙ t.wide;
          there = λ k a c. by_test (eqb k q)
              (λ y. rw (eqb-true k q y) (get_or-set_same ends q (get_or seen j 0) 0 (omega (arith, t.wide)) ∙ seen_at ∙ rw (← s)))
              (λ y. get_or-set_other ends q k (get_or seen j 0) 0 (eqb-false k q y) ∙ t.there k (omega (arith, eqb-false k q y)) c);
        }

    -- and the line may end one
    pub seen_more : (v : ℕ) → v ≡ end_by (get_or codes q 0) q (get_or seen j 0) → set seen j v ≡ values_of (λ i. run_end codes jobs i q (n - q)) 256
    unfolding run_end
    seen_more v d =
        let one' : p ≡ suc q = omega arith in
        let two' : n - q ≡ suc (n - suc q) = omega arith in
        rw (e, two')
        (tab_set (λ i. run_end codes jobs i p (n - p)) (λ i. run_end codes jobs i q (suc (n - suc q))) 256 0 j v b
        (d ∙ rw (seen_at, eq-eqb (get_or jobs q 0) j (sym s)))
        (λ i a o. rw (one', ne_eqb (get_or jobs q 0) i (λ r. o (sym r ∙ sym s)))))

module _ (codes cells ends : List ℕ) where
  -- before the first line nobody has changed a cell
  pub latest_none : replicate 256 0 ≡ values_of (λ c. latest_end codes cells ends c 0) 256
  unfolding latest_end
  latest_none = tab_all 256 0

  module _ (p c : ℕ) (latest : List ℕ) (e : latest ≡ values_of (λ x. latest_end codes cells ends x p) 256) (s : c ≡ get_or cells p 0) (b : c < 256) where
    -- the latest end of the runs that have changed a line's cell
    latest_at : get_or latest c 0 ≡ latest_end codes cells ends (get_or cells p 0) p
    latest_at = rw (e, tab_at (λ x. latest_end codes cells ends x p) 256 0 c b, s)

    -- decides whether it is a dirty read
    pub dirty_by : (r : Bool) → r ≡ reads_dirt (get_or codes p 0) (get_or ends p 0) (get_or latest c 0) p → r ≡ dirty_at codes cells ends p
    unfolding dirty_at
    dirty_by r d = d ∙ ap (λ x. reads_dirt (get_or codes p 0) (get_or ends p 0) x p) latest_at

    -- and the line may change the cell
    pub latest_more : (v : ℕ) → v ≡ later_end (get_or codes p 0) (get_or ends p 0) (get_or latest c 0) → set latest c v ≡ values_of (λ x. latest_end codes cells ends x (p + 1)) 256
    unfolding latest_end
    latest_more v d =
        rw (e, add-one p)
        (tab_set (λ x. latest_end codes cells ends x p) (λ x. latest_end codes cells ends x (suc p)) 256 0 c v b
        (d ∙ rw (latest_at, ← s, eq-eqb c c refl))
        (λ x a o. rw (ne_eqb (get_or cells p 0) x (λ r. o (sym r ∙ sym s)))))

  module _ (p : ℕ) where
    -- no line from q on makes a read on line p dirty
    unfoldable pub NoneFrom : ℕ → Type 0
    NoneFrom q = (x : ℕ) → x < p → spoils_at codes cells ends p x ≡ true → x < q

    -- none from p on does
    pub back_none : NoneFrom p
    unfolding NoneFrom
    back_none x l s = l

    -- a line that does not is passed
    pub back_past : (q : ℕ) → 0 < q → spoils_at codes cells ends p (q - 1) ≡ false → NoneFrom q → NoneFrom (q - 1)
    unfolding NoneFrom
    back_past q z f n x l s =
        by_test (eqb x (q - 1)) (λ t. not_both (rw (eqb-true x (q - 1) t) at s) f) (λ t. omega (arith, eqb-false x (q - 1) t, n x l s))

    -- a line that does is the last
    pub back_found : (q : ℕ) → 0 < q → q ≤ p → spoils_at codes cells ends p (q - 1) ≡ true → NoneFrom q → LastWrite codes cells ends p (q - 1)
    unfolding NoneFrom
    back_found q z b t n =
        record { within = omega arith; spoils = λ l. t; later = λ x l s. (omega (arith, n x l s), omega arith) }

    -- when all are passed there is none
    pub back_all : (q : ℕ) → q ≡ 0 → NoneFrom q → LastWrite codes cells ends p p
    unfolding NoneFrom
    back_all q e n =
        record { within = omega arith; spoils = λ l. absurd (omega arith); later = λ x l s. absurd (omega (arith, n x l s)) }
