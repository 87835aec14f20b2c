-- The first line that is a dirty read by the run ends, with the last line that makes it dirty, is the first dirty read of the history (02, No. 2).
-- Assumes nothing.
use Prim.Native.Nat.{ℕ, zero, suc, ◌≤◌, ◌<◌}
use mathlib.Core.Path.{◌≡◌, refl, sym, ◌∙◌}
use mathlib.Core.Bool.{Bool, true, ◌&&◌}
use mathlib.Core.List.{List}
use native.Mathlib.Omega.{arith}
use lib.Dec.{eqb, ltb, leb}
use lib.ListN.{get_or}
use borrow.Author.Tests.{eqb-true, eqb-false, eq-eqb, ltb-true, lt-ltb, leb-true, leb-false}
use Rattle.laws.specs.Choice.{by_test, not_both}
use Rattle.laws.proofs.Parts.{and_first, and_second}
use Rattle.conflict.specs.Dirty.{IsDirty, FirstDirty, dirty_of}
use Rattle.conflict.proofs.DirtyFound.{dirty_exactly, clean_exactly}
use Rattle.judge_rules.specs.Arrays.{history_by}
use Rattle.std.specs.Prelude.{None, Some}
use Rattle.judge_core.specs.RunEnds.{RunEnds, changing, later_end, latest_end, reads_dirt, dirty_at, spoils_at, FirstRead, LastWrite, dirt_of}
use Rattle.judge_core.proofs.DirtyLines.{Placed, dirty_placed, placed_dirty}

-- the later of two ends is below neither
later_is : (code end latest : ℕ) → (latest ≤ later_end code end latest) × (changing code ≡ true → end ≤ later_end code end latest)
unfolding later_end
later_is code end latest =
    by_test (changing code)
    (λ t. rw t (by_test (leb end latest) (λ s. rw s (omega arith, λ c. leb-true end latest s)) (λ s. rw s (let g = leb-false end latest s in (omega arith, λ c. omega arith)))))
    (λ f. rw f (omega arith, λ c. not_both c refl))

-- and one of the two
later_one : {P : Type 0} (code end latest x : ℕ) → x < later_end code end latest → (x < latest → P) → (changing code ≡ true → x < end → P) → P
unfolding later_end
later_one code end latest x l one' two' =
    by_test (changing code)
    (λ t. by_test (leb end latest) (λ s. one' (rw (t, s) at l)) (λ s. two' t (rw (t, s) at l)))
    (λ f. one' (rw f at l))

module _ (codes cells ends : List ℕ) where
  -- a line before p that makes a read there dirty
  record Spoilt (p : ℕ) : Type 0 where
    at : ℕ
    ahead : at < p
    spoils : spoils_at codes cells ends p at ≡ true

  -- the latest end is below none
  latest_above : (c p q : ℕ) → q < p → changing (get_or codes q 0) ≡ true → get_or cells q 0 ≡ c → get_or ends q 0 ≤ latest_end codes cells ends c p
  unfolding latest_end
  latest_above c zero q l t e = absurd (omega arith)
  latest_above c (suc p) q l t e =
      let b = later_is (get_or codes p 0) (get_or ends p 0) (latest_end codes cells ends c p) in
      by_test (eqb q p)
      (λ s. let here' : q ≡ p = eqb-true q p s in rw (here', eq-eqb (get_or cells p 0) c (rw here' at e)) (b.1 (rw here' at t)))
      (λ s.
      let r = latest_above c p q (omega (arith, eqb-false q p s)) t e in
      by_test (eqb (get_or cells p 0) c) (λ y. rw y (omega (arith, b.0))) (λ y. rw y r))

  -- and one of them
  latest_one : {P : Type 0} (c p x : ℕ) → x < latest_end codes cells ends c p → ((q : ℕ) → q < p → changing (get_or codes q 0) ≡ true → get_or cells q 0 ≡ c → x < get_or ends q 0 → P) → P
  unfolding latest_end
  latest_one c zero x l f = absurd (omega arith)
  latest_one c (suc p) x l f =
      by_test (eqb (get_or cells p 0) c)
      (λ y. later_one (get_or codes p 0) (get_or ends p 0) (latest_end codes cells ends c p) x (rw y at l)
      (λ s. latest_one c p x s (λ q b t e u. f q (omega arith) t e u))
      (λ t u. f p (omega arith) t (eqb-true (get_or cells p 0) c y) u))
      (λ y. latest_one c p x (rw y at l) (λ q b t e u. f q (omega arith) t e u))

  -- a dirty read has such a line
  spoilt : (p : ℕ) → dirty_at codes cells ends p ≡ true → Spoilt p
  unfolding dirty_at reads_dirt spoils_at
  spoilt p d =
      let open' : Bool = ltb p (latest_end codes cells ends (get_or cells p 0) p) in
      let two' = and_second (eqb (get_or codes p 0) 0) (eqb (get_or ends p 0) 0 && open') d in
      latest_one (get_or cells p 0) p p (ltb-true p (latest_end codes cells ends (get_or cells p 0) p) (and_second (eqb (get_or ends p 0) 0) open' two'))
      (λ q b t e u. record { at = q; ahead = b; spoils = rw (eq-eqb (get_or cells q 0) (get_or cells p 0) e, t) (lt-ltb p (get_or ends q 0) u) })

  module _ (jobs : List ℕ) (n : ℕ) (r : RunEnds codes jobs n ends) where
    -- a line that makes another a dirty read, by the tests
    tested_placed : (p q : ℕ) → p < n → q < p → dirty_at codes cells ends p ≡ true → spoils_at codes cells ends p q ≡ true → Placed codes jobs cells n p q
    unfolding dirty_at reads_dirt spoils_at
    tested_placed p q w l d s =
        let open' : Bool = ltb p (latest_end codes cells ends (get_or cells p 0) p) in
        let two' = and_second (eqb (get_or codes p 0) 0) (eqb (get_or ends p 0) 0 && open') d in
        let late : Bool = ltb p (get_or ends q 0) in
        let same : Bool = eqb (get_or cells q 0) (get_or cells p 0) in
        let change : Bool = changing (get_or codes q 0) in
        let rest = and_second same (change && late) s in
        let e = r.there q (omega arith) in
        record {
          later = l;
          within = w;
          reads = eqb-true (get_or codes p 0) 0 (and_first (eqb (get_or codes p 0) 0) (eqb (get_or ends p 0) 0 && open') d);
          changes = and_first change late rest;
          one_cell = eqb-true (get_or cells q 0) (get_or cells p 0) (and_first same (change && late) s);
          commits = sym (r.there p w) ∙ eqb-true (get_or ends p 0) 0 (and_first (eqb (get_or ends p 0) 0) open' two');
          still = rw (← e) (ltb-true p (get_or ends q 0) (and_second change late rest));
        }

    -- and the other way round
    placed_tested : (p q : ℕ) → Placed codes jobs cells n p q → (dirty_at codes cells ends p ≡ true) × (spoils_at codes cells ends p q ≡ true)
    unfolding dirty_at reads_dirt spoils_at
    placed_tested p q d =
        let w = d.within in
        let l = d.later in
        let e = r.there q (omega arith) in
        let s : p < get_or ends q 0 = rw e d.still in
        let a = latest_above (get_or cells p 0) p q l d.changes d.one_cell in (
          rw (eq-eqb (get_or codes p 0) 0 d.reads, eq-eqb (get_or ends p 0) 0 (r.there p w ∙ d.commits)) (lt-ltb p (latest_end codes cells ends (get_or cells p 0) p) (omega arith)),
          rw (eq-eqb (get_or cells q 0) (get_or cells p 0) d.one_cell, d.changes) (lt-ltb p (get_or ends q 0) s),
        )

    -- where no line is a dirty read, the history is clean
    pub none_dirty : FirstRead codes cells ends n n → None ≡ dirt_of (dirty_of (history_by codes jobs cells n))
    unfolding dirt_of
    none_dirty f =
        let clean' : IsDirty (history_by codes jobs cells n) → ⊥ = λ d.
        let x = (dirty_placed codes jobs cells n d.read_at d.write_at d.reader d.writer d.dirty_read).0 in
        not_both (placed_tested d.read_at d.write_at x).0 (f.clean d.read_at x.within) in
        rw ((clean_exactly (history_by codes jobs cells n)).0 clean')

    -- else reader and writer of the first that is and of the last that makes it so are told
    pub first_dirty : (p q : ℕ) → (p < n) × FirstRead codes cells ends n p → LastWrite codes cells ends p q → Some (record { reader = get_or jobs p 0; writer = get_or jobs q 0 }) ≡ dirt_of (dirty_of (history_by codes jobs cells n))
    unfolding dirt_of
    first_dirty p q a g =
        let w = a.0 in
        let f = a.1 in
        let s = spoilt p (f.dirty w) in
        let l : q < p = (g.later s.at s.ahead s.spoils).1 in
        let found : FirstDirty (history_by codes jobs cells n) (get_or jobs p 0) (get_or jobs q 0) = record {
          read_at = p;
          write_at = q;
          dirty_read = placed_dirty codes jobs cells n p q (tested_placed p q w l (f.dirty w) (g.spoils l));
          first = λ y x i j d.
              let t = (placed_tested y x (dirty_placed codes jobs cells n y x i j d).0).0 in
              by_test (leb p y) (λ c. leb-true p y c) (λ c. not_both t (f.clean y (leb-false p y c)));
          latest = λ x i j d.
              let a = (dirty_placed codes jobs cells n p x i j d).0 in
              (g.later x a.later (placed_tested p x a).1).0;
        } in
        rw ((dirty_exactly (history_by codes jobs cells n) (get_or jobs p 0) (get_or jobs q 0)).0 found)
