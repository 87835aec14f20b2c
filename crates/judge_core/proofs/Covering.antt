-- The sets of a job, and the table of last lines as a pass over the lines makes it, one line at a time.
-- Assumes nothing.
use Prim.Native.Nat.{ℕ, ◌+◌, ◌-◌, ◌<◌}
use mathlib.Core.Path.{◌≡◌, ap, ◌∙◌}
use mathlib.Core.List.{List}
use native.Mathlib.Omega.{arith}
use lib.Dec.{eqb}
use lib.ListN.{get_or, set, replicate, length-set, length-replicate, get_or-replicate}
use lib.Seq.{get_or-set_same, get_or-set_other}
use borrow.Author.Tests.{eqb-true, eqb-false}
use Rattle.laws.specs.Choice.{by_test}
use Rattle.conflict.specs.declared.cells.Touched.{Touched}
use Rattle.judge_core.specs.Reaching.{set_key, touched_at, last_key, Lasts}

-- the sets of a job, by their places
pub touched_is : (sets : List ℕ) (j a b c : ℕ) → a ≡ set_key j 0 → b ≡ set_key j 1 → c ≡ set_key j 2 → ◌≡◌ {A = Touched} (record { reads = get_or sets a 0; writes = get_or sets b 0; increments = get_or sets c 0 }) (touched_at sets j)
unfolding touched_at
touched_is sets j a b c ea eb ec = rw (ea, eb, ec)

-- a table of zeros has nothing
nothing : (n i : ℕ) → i < n → 0 < get_or (replicate {A = ℕ} n 0) i 0 → ⊥
nothing n i h g = omega (arith, get_or-replicate {A = ℕ} n i 0 0 h)

-- every key has its place
key_low : (j k c : ℕ) → j < 256 → k < 3 → c < 64 → last_key j k c < 65536
key_low j k c a b d = omega arith

module _ (codes cells owners : List ℕ) where
  -- no line stands in the table yet
  pub lasts_none : Lasts codes cells owners 0 (replicate 65536 0)
  lasts_none =
      record {
        wide = length-replicate {A = ℕ} 65536 0;
        far = λ p h. absurd (omega arith);
        any = λ p h. absurd (omega arith);
        line = λ j k c a b d h. absurd (nothing 65536 (last_key j k c) (key_low j k c a b d) h);
        owner = λ j k c a b d h. absurd (nothing 65536 (last_key j k c) (key_low j k c a b d) h);
        code = λ j k c a b d h. absurd (nothing 65536 (last_key j k c) (key_low j k c a b d) h);
        cell = λ j k c a b d h. absurd (nothing 65536 (last_key j k c) (key_low j k c a b d) h);
      }

  module _ (p : ℕ) (lasts : List ℕ) (s : Lasts codes cells owners p lasts) where
    -- a line that nobody owns changes nothing
    pub lasts_keep : get_or owners p 0 ≡ 0 → Lasts codes cells owners (p + 1) lasts
    lasts_keep z =
        record {
          wide = s.wide;
          far = λ q h n. by_test (eqb q p) (λ t. absurd (n (ap (λ y. get_or owners y 0) (eqb-true q p t) ∙ z))) (λ g. s.far q (omega (arith, eqb-false q p g)) n);
          any = λ q h n. by_test (eqb q p) (λ t. absurd (n (ap (λ y. get_or owners y 0) (eqb-true q p t) ∙ z))) (λ g. s.any q (omega (arith, eqb-false q p g)) n);
          line = λ j k c a b d h. omega (arith, s.line j k c a b d h);
          owner = s.owner;
          code = s.code;
          cell = s.cell;
        }

    -- a line in the place for any kind: it stands there, and the table has what it had
    pub lasts_any : (j i v : ℕ) → get_or owners p 0 < 256 → get_or cells p 0 < 64 → j ≡ get_or owners p 0 → i ≡ last_key j 3 (get_or cells p 0) → v ≡ p + 1 →
        Lasts codes cells owners p (set lasts i v) × (p < get_or (set lasts i v) (last_key (get_or owners p 0) 3 (get_or cells p 0)) 0)
    lasts_any j i v small low o e f =
        let there : get_or (set lasts i v) i 0 ≡ v = get_or-set_same lasts i v 0 (omega (arith, s.wide)) in
        let here' : i ≡ last_key (get_or owners p 0) 3 (get_or cells p 0) = omega arith in
        let same' : (j k c : ℕ) → k < 3 → get_or (set lasts i v) (last_key j k c) 0 ≡ get_or lasts (last_key j k c) 0 = λ j k c b. get_or-set_other lasts i (last_key j k c) v 0 (λ q. omega arith) in
        let far' : (q y : ℕ) → q < p → q < get_or lasts y 0 → q < get_or (set lasts i v) y 0 =
        λ q y h l. by_test (eqb y i) (λ t. rw (eqb-true y i t) (omega (arith, there))) (λ g. rw (get_or-set_other lasts i y v 0 (eqb-false y i g)) l) in (
          record {
            wide = length-set lasts i v ∙ s.wide;
            far = λ q h n. far' q (last_key (get_or owners q 0) (get_or codes q 0) (get_or cells q 0)) h (s.far q h n);
            any = λ q h n. far' q (last_key (get_or owners q 0) 3 (get_or cells q 0)) h (s.any q h n);
            line = λ j k c a b d. rw (same' j k c b) (s.line j k c a b d);
            owner = λ j k c a b d. rw (same' j k c b) (s.owner j k c a b d);
            code = λ j k c a b d. rw (same' j k c b) (s.code j k c a b d);
            cell = λ j k c a b d. rw (same' j k c b) (s.cell j k c a b d);
          },
          rw (← here') (omega (arith, there)),
        )

    module _ (small : get_or owners p 0 < 256) (act : get_or codes p 0 < 3) (low : get_or cells p 0 < 64) where
      -- one key stands for one job, kind and cell
      one_key : (j k c : ℕ) → j < 256 → k < 3 → c < 64 → last_key j k c ≡ last_key (get_or owners p 0) (get_or codes p 0) (get_or cells p 0) → (get_or owners p 0 ≡ j) × (get_or codes p 0 ≡ k) × (get_or cells p 0 ≡ c)
      one_key j k c a b d e = (omega arith, omega arith, omega arith)

      -- what stands in the table with this line
      at_key : (i : ℕ) → i ≡ last_key (get_or owners p 0) (get_or codes p 0) (get_or cells p 0) → get_or (set lasts (last_key (get_or owners p 0) (get_or codes p 0) (get_or cells p 0)) (p + 1)) i 0 ≡ p + 1
      at_key i e = rw e (get_or-set_same lasts (last_key (get_or owners p 0) (get_or codes p 0) (get_or cells p 0)) (p + 1) 0 (omega (arith, s.wide)))

      at_other : (i : ℕ) → (i ≡ last_key (get_or owners p 0) (get_or codes p 0) (get_or cells p 0) → ⊥) → get_or (set lasts (last_key (get_or owners p 0) (get_or codes p 0) (get_or cells p 0)) (p + 1)) i 0 ≡ get_or lasts i 0
      at_other i n = get_or-set_other lasts (last_key (get_or owners p 0) (get_or codes p 0) (get_or cells p 0)) i (p + 1) 0 n

      -- at a place of the table with this line: what holds of the line, and of every line before
      at_place : (of : List ℕ) (x : ℕ) (j k c : ℕ) → (last_key j k c ≡ last_key (get_or owners p 0) (get_or codes p 0) (get_or cells p 0) → get_or of p 0 ≡ x) →
          (0 < get_or lasts (last_key j k c) 0 → get_or of (get_or lasts (last_key j k c) 0 - 1) 0 ≡ x) →
          0 < get_or (set lasts (last_key (get_or owners p 0) (get_or codes p 0) (get_or cells p 0)) (p + 1)) (last_key j k c) 0 →
          get_or of (get_or (set lasts (last_key (get_or owners p 0) (get_or codes p 0) (get_or cells p 0)) (p + 1)) (last_key j k c) 0 - 1) 0 ≡ x
      at_place of x j k c new old h =
          by_test (eqb (last_key j k c) (last_key (get_or owners p 0) (get_or codes p 0) (get_or cells p 0)))
          (λ t.
          let e = eqb-true (last_key j k c) (last_key (get_or owners p 0) (get_or codes p 0) (get_or cells p 0)) t in
          let back' : p + 1 - 1 ≡ p = omega arith in
          ap (λ v. get_or of (v - 1) 0) (at_key (last_key j k c) e) ∙ ap (λ q. get_or of q 0) back' ∙ new e)
          (λ g.
          let same' = at_other (last_key j k c) (eqb-false (last_key j k c) (last_key (get_or owners p 0) (get_or codes p 0) (get_or cells p 0)) g) in
          ap (λ v. get_or of (v - 1) 0) same' ∙ old (omega (arith, same')))

      -- one line more, where the place for any kind has it
      pub lasts_more : p < get_or lasts (last_key (get_or owners p 0) 3 (get_or cells p 0)) 0 → (j i v : ℕ) → j ≡ get_or owners p 0 → i ≡ last_key j (get_or codes p 0) (get_or cells p 0) → v ≡ p + 1 → Lasts codes cells owners (p + 1) (set lasts i v)
      lasts_more after j i v q e f =
          rw (e, q, f)
          (record {
            wide = length-set lasts (last_key (get_or owners p 0) (get_or codes p 0) (get_or cells p 0)) (p + 1) ∙ s.wide;
            far = λ q h n.
                by_test (eqb (last_key (get_or owners q 0) (get_or codes q 0) (get_or cells q 0)) (last_key (get_or owners p 0) (get_or codes p 0) (get_or cells p 0)))
                (λ t. rw (at_key (last_key (get_or owners q 0) (get_or codes q 0) (get_or cells q 0)) (eqb-true (last_key (get_or owners q 0) (get_or codes q 0) (get_or cells q 0)) (last_key (get_or owners p 0) (get_or codes p 0) (get_or cells p 0)) t)) h)
                (λ g.
                let other' = eqb-false (last_key (get_or owners q 0) (get_or codes q 0) (get_or cells q 0)) (last_key (get_or owners p 0) (get_or codes p 0) (get_or cells p 0)) g in
                let less : q < p = by_test (eqb q p) (λ u. absurd (other' (ap (λ y. last_key (get_or owners y 0) (get_or codes y 0) (get_or cells y 0)) (eqb-true q p u)))) (λ u. omega (arith, eqb-false q p u)) in
                rw (at_other (last_key (get_or owners q 0) (get_or codes q 0) (get_or cells q 0)) other') (s.far q less n));
            any = λ q h n.
                rw (at_other (last_key (get_or owners q 0) 3 (get_or cells q 0)) (λ e. omega arith))
                (by_test (eqb q p) (λ t. rw (eqb-true q p t) after) (λ g. s.any q (omega (arith, eqb-false q p g)) n));
            line = λ j k c a b d h.
                by_test (eqb (last_key j k c) (last_key (get_or owners p 0) (get_or codes p 0) (get_or cells p 0)))
                (λ t. omega (arith, at_key (last_key j k c) (eqb-true (last_key j k c) (last_key (get_or owners p 0) (get_or codes p 0) (get_or cells p 0)) t)))
                (λ g.
                let same' = at_other (last_key j k c) (eqb-false (last_key j k c) (last_key (get_or owners p 0) (get_or codes p 0) (get_or cells p 0)) g) in
                omega (arith, same', s.line j k c a b d (omega (arith, same'))));
            owner = λ j k c a b d h. at_place owners j j k c (λ q. (one_key j k c a b d q).0) (s.owner j k c a b d) h;
            code = λ j k c a b d h. at_place codes k j k c (λ q. (one_key j k c a b d q).1) (s.code j k c a b d) h;
            cell = λ j k c a b d h. at_place cells c j k c (λ q. (one_key j k c a b d q).2) (s.cell j k c a b d) h;
          })
