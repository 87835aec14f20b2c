-- Everything from which the edges are worked out, as the passes over the lines leave it.
-- Assumes nothing.
use Prim.Native.Nat.{ℕ, ◌-◌, ◌≤◌, ◌<◌}
use mathlib.Core.Path.{◌≡◌, sym, ◌∙◌, subst}
use mathlib.Core.Bool.{true, false}
use mathlib.Core.List.{List}
use native.Mathlib.Omega.{arith}
use lib.Dec.{eqb, ltb, leb}
use lib.ListN.{get_or}
use borrow.Author.Tests.{eqb-true, eqb-false, eq-eqb, ltb-true}
use Rattle.laws.specs.Choice.{by_test}
use Rattle.laws.specs.Lists.{member}
use Rattle.conflict.specs.Schedule.{agree}
use Rattle.conflict.specs.Cells.{in_set, acts_on, can_conflict}
use Rattle.conflict.proofs.Conflicting.{conflict_kinds}
use Rattle.conflict.proofs.CellSets.{can_conflict_lem, acts_read, acts_write, acts_increment}
use Rattle.judge_core.specs.Lists.{values_of}
use Rattle.judge_core.specs.Counted.{owner_at, owners_by, ByteJobs}
use Rattle.judge_core.specs.Meeting.{kind_by, action_by, action_at, clashing}
use Rattle.judge_core.specs.Grouped.{owned_lines, part_at, Parted}
use Rattle.judge_core.specs.Reaching.{Acting, Covered, set_key, touched_at, last_key, Lasts, Reach, Masked, Worked}
use Rattle.judge_core.proofs.Listing.{listed_is, listed_has}
use Rattle.judge_core.proofs.Assembled.{owned}
use Rattle.judge_core.proofs.Reaching.{one_cell}

-- a line is nobody's, or its own job's and an action
owner_by : {P : Type 0} (codes jobs since : List ℕ) (p : ℕ) → (owner_at codes jobs since p ≡ 0 → P) → (owner_at codes jobs since p ≡ get_or jobs p 0 → get_or codes p 0 < 3 → P) → P
unfolding owner_at
owner_by codes jobs since p no' yes' =
    by_test (ltb (get_or codes p 0) 3)
    (λ t. by_test (leb (get_or since (get_or jobs p 0) 0) p) (λ u. yes' (rw (t, u)) (ltb-true (get_or codes p 0) 3 t)) (λ u. no' (rw (t, u))))
    (λ f. no' (rw f))

-- the lines that somebody owns are actions of their jobs on cells
pub acting : (codes jobs cells since owners : List ℕ) (n : ℕ) → n ≤ 4096 → ByteJobs jobs n → ((p : ℕ) → p < n → get_or codes p 0 < 3 → get_or cells p 0 < 64) → owners ≡ values_of (owners_by codes jobs since n) 4096 → Acting codes jobs cells owners n
acting codes jobs cells since owners n h b low o =
    let is = owned codes jobs since owners n h o in
    record {
      small = λ p l. owner_by codes jobs since p (λ z. omega (arith, is p l)) (λ e a. omega (arith, is p l, b.bytes p l));
      job = λ p l s. owner_by codes jobs since p (λ z. absurd (s (is p l ∙ z))) (λ e a. sym (is p l ∙ e));
      code = λ p l s. owner_by codes jobs since p (λ z. absurd (s (is p l ∙ z))) (λ e a. a);
      cell = λ p l s. owner_by codes jobs since p (λ z. absurd (s (is p l ∙ z))) (λ e a. low p l a);
    }

-- the kinds of lines that clash do not agree
kinds_clash : (codes jobs cells : List ℕ) (x y : ℕ) → clashing codes jobs cells x y ≡ true → agree (kind_by (get_or codes x 0)) (kind_by (get_or codes y 0)) ≡ false
unfolding clashing action_at action_by
kinds_clash codes jobs cells x y t = conflict_kinds (action_at codes jobs cells x) (action_at codes jobs cells y) t

module _ (codes jobs cells owners : List ℕ) (n : ℕ) (act : Acting codes jobs cells owners n) where
  -- a line of job j is one of the n, and it owns it
  its_line : (j y : ℕ) → member y (owned_lines owners n j) ≡ true → (y < n) × (get_or owners y 0 ≡ j)
  unfolding owned_lines
  its_line j y m = let r = listed_is (λ p. eqb (get_or owners p 0) j) 0 n y m in (omega (arith, r.1), eqb-true (get_or owners y 0) j r.2)

  -- the last lines of job j stand in the table
  reaches : (lasts : List ℕ) → Lasts codes cells owners n lasts → (j : ℕ) → j < 256 → (j ≡ 0 → ⊥) → Reach codes jobs cells lasts j (owned_lines owners n j)
  unfolding owned_lines
  reaches lasts s j b z =
      record {
        job = λ y m. let r = its_line j y m in act.job y r.0 (λ q. z (sym r.1 ∙ q)) ∙ r.1;
        code = λ y m. let r = its_line j y m in act.code y r.0 (λ q. z (sym r.1 ∙ q));
        cell = λ y m. let r = its_line j y m in act.cell y r.0 (λ q. z (sym r.1 ∙ q));
        far = λ y m. let r = its_line j y m in subst (λ o. y < get_or lasts (last_key o (get_or codes y 0) (get_or cells y 0)) 0) r.1 (s.far y r.0 (λ q. z (sym r.1 ∙ q)));
        any = λ y m. let r = its_line j y m in subst (λ o. y < get_or lasts (last_key o 3 (get_or cells y 0)) 0) r.1 (s.any y r.0 (λ q. z (sym r.1 ∙ q)));
        there = λ k c l d h. listed_has (λ p. eqb (get_or owners p 0) j) 0 n (get_or lasts (last_key j k c) 0 - 1) (omega arith) (omega (arith, s.line j k c b l d h)) (eq-eqb (get_or owners (get_or lasts (last_key j k c) 0 - 1) 0) j (s.owner j k c b l d h));
        there_code = λ k c l d h. s.code j k c b l d h;
        there_cell = λ k c l d h. s.cell j k c b l d h;
      }

  module _ (sets : List ℕ) (cover : Covered codes cells owners n sets) where
    -- a line of job i is on a cell of its set
    acts_there : (i x : ℕ) → (i ≡ 0 → ⊥) → member x (owned_lines owners n i) ≡ true → acts_on (touched_at sets i) (kind_by (get_or codes x 0)) (get_or cells x 0) ≡ true
    unfolding kind_by touched_at
    acts_there i x z m =
        let r = its_line i x m in
        let some' : get_or owners x 0 ≡ 0 → ⊥ = λ q. z (sym r.1 ∙ q) in
        let low = act.code x r.0 some' in
        let has : in_set (get_or sets (set_key i (get_or codes x 0)) 0) (get_or cells x 0) ≡ true = subst (λ o. in_set (get_or sets (set_key o (get_or codes x 0)) 0) (get_or cells x 0) ≡ true) r.1 (cover.has x r.0 low (act.cell x r.0 some')) in
        let of : (k : ℕ) → get_or codes x 0 ≡ k → in_set (get_or sets (set_key i k) 0) (get_or cells x 0) ≡ true = λ k e. subst (λ o. in_set (get_or sets (set_key i o) 0) (get_or cells x 0) ≡ true) e has in
        by_test (eqb (get_or codes x 0) 0)
        (λ t. rw t (acts_read (touched_at sets i) (get_or cells x 0) ∙ of 0 (eqb-true (get_or codes x 0) 0 t)))
        (λ f. by_test (eqb (get_or codes x 0) 1)
        (λ t. rw (f, t) (acts_write (touched_at sets i) (get_or cells x 0) ∙ of 1 (eqb-true (get_or codes x 0) 1 t)))
        (λ g. rw (f, g) (acts_increment (touched_at sets i) (get_or cells x 0) ∙ of 2 (omega (arith, eqb-false (get_or codes x 0) 0 f, eqb-false (get_or codes x 0) 1 g)))))

    -- two jobs' lines conflict on the cells where their sets meet
    masks_them : (i j m : ℕ) → (i ≡ 0 → ⊥) → (j ≡ 0 → ⊥) → ((c : ℕ) → in_set m c ≡ can_conflict (touched_at sets i) (touched_at sets j) c) → Masked codes jobs cells m (owned_lines owners n i) (owned_lines owners n j)
    masks_them i j m zi zj h x y mx my t =
        h (get_or cells x 0)
        ∙ can_conflict_lem (touched_at sets i) (touched_at sets j) (kind_by (get_or codes x 0)) (kind_by (get_or codes y 0)) (get_or cells x 0) (acts_there i x zi mx)
        (subst (λ c. acts_on (touched_at sets j) (kind_by (get_or codes y 0)) c ≡ true) (sym (one_cell codes jobs cells x y t)) (acts_there j y zj my))
        (kinds_clash codes jobs cells x y t)

    -- all of it
    pub worked : (lines starts lasts : List ℕ) → Parted lines starts → ((j : ℕ) → j < 256 → part_at lines starts j ≡ owned_lines owners n j) → Lasts codes cells owners n lasts → Worked codes jobs cells lines starts lasts sets
    worked lines starts lasts p same' s =
        record {
          parts = p;
          reach = λ j l z. subst (λ ys. Reach codes jobs cells lasts j ys) (sym (same' j l)) (reaches lasts s j l z);
          masks = λ i j m li lj zi zj h.
              subst (λ xs. Masked codes jobs cells m xs (part_at lines starts j)) (sym (same' i li))
              (subst (λ ys. Masked codes jobs cells m (owned_lines owners n i) ys) (sym (same' j lj)) (masks_them i j m zi zj h));
        }
