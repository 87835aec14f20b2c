-- Along a chain: it begins with the job and ends with a running one, each next job is in the way of the one before, numbers rise, and there are at most 32 jobs (02, No. 3).
-- Assumes nothing.
use Prim.Native.Nat.{ℕ, suc, ◌<◌, ◌≤◌}
use mathlib.Core.Path.{◌≡◌, refl, sym, ap, subst, ◌∙◌}
use mathlib.Core.Bool.{true}
use mathlib.Core.List.{List, [], ◌∷◌, ◌++◌}
use native.Mathlib.Omega.{arith}
use lib.ListN.{length}
use Rattle.laws.specs.Lists.{member}
use Rattle.laws.proofs.Lists.{member_split, member_none}
use Rattle.laws.proofs.Joined.{head_same, tail_same, not_empty, not_empty_mid}
use Rattle.terms.specs.declared.letters.Ask.{Ask}
use Rattle.desk_rules.specs.Desk.{running, waiting, Desk}
use Rattle.desks.specs.Requests.{Rising}
use Rattle.desk_rules.specs.Invariant.{Inv}
use Rattle.desk_rules.specs.Chain.{younger_than, Next, IsChain, runs, waits}
use Rattle.desk_rules.specs.Chains.{Followed, Along}
use Rattle.desk_rules.proofs.Statuses.{live_open}
use Rattle.desks.proofs.Numbers.{rising_distinct}
use Rattle.desk_rules.proofs.InTheWay.{way_younger}
use Rattle.desk_rules.proofs.Younger.{younger_short}
use Rattle.desk_rules.proofs.ChainIs.{fewer_younger, chain_live}

-- it begins with the job
pub chain_begins : {d : Desk} {j : ℕ} {js : List ℕ} → IsChain d j js → (rest : List ℕ) × (js ≡ j ∷ rest)
chain_begins (runs e) = ([], refl)
chain_begins (waits {js = js} c a e n k) = (js, refl)

-- it ends with a running one
chain_ends : {d : Desk} {j : ℕ} {js : List ℕ} → IsChain d j js → (before : List ℕ) × (i : ℕ) × (js ≡ before ++ i ∷ []) × (d.stat i ≡ running)
chain_ends (runs {j} e) = ([], j, refl, e)
chain_ends (waits {j} c a e n k) = let (before, i, q, r) = chain_ends k in (j ∷ before, i, ap (λ l. j ∷ l) q, r)

module _ {d : Desk} (v : Inv d) where
  -- the first job of a waiter's chain and the job after it
  first_followed : {j i : ℕ} {js : List ℕ} (c : ℕ) (a : Ask) → d.stat j ≡ waiting c a → Next d c (record { job = j; ask = a }) i → IsChain d i js →
      (m k : ℕ) (after : List ℕ) → ◌≡◌ {A = List ℕ} (j ∷ js) (m ∷ k ∷ after) → Followed d m k × (m < k)
  first_followed {j} {i} {js} c a e n y m k after p =
      let (rest, q) = chain_begins y in
      let s : i ≡ k = head_same (sym q ∙ tail_same p) in
      let l : j < i = way_younger v c (record { job = j; ask = a }) e i n.way in
      subst (λ x. Followed d x k × (x < k)) (head_same p)
      (subst (λ x. Followed d j x × (j < x)) s (record { cell = c; ask = a; waits = e; next = n }, l))

  -- every job but the last waits, and the next is next after it
  chain_followed : {j : ℕ} {js : List ℕ} → IsChain d j js → (before : List ℕ) (i k : ℕ) (after : List ℕ) → js ≡ before ++ i ∷ k ∷ after → Followed d i k × (i < k)
  chain_followed (runs e) [] i k after p = not_empty (tail_same p)
  chain_followed (runs e) (b ∷ before) i k after p = not_empty_mid before i (k ∷ after) (tail_same p)
  chain_followed (waits c a e n y) [] i k after p = first_followed c a e n y i k after p
  chain_followed (waits c a e n y) (b ∷ before) i k after p = chain_followed y before i k after (tail_same p)

  -- no job in it is older than the first
  chain_above : {j : ℕ} {js : List ℕ} → IsChain d j js → (m : ℕ) → member m js ≡ true → j ≤ m
  chain_above (runs {j} e) m h = member_split j [] m h (λ p. omega (arith, p)) (member_none m)
  chain_above (waits {j} {i} {js} c a e n y) m h =
      let l : j < i = way_younger v c (record { job = j; ask = a }) e i n.way in
      member_split j js m h (λ p. omega (arith, p)) (λ t. let g = chain_above y m t in omega arith)

  -- so numbers rise
  chain_rises : {j : ℕ} {js : List ℕ} → IsChain d j js → Rising js
  chain_rises (runs e) = (λ m h. member_none m h, tt)
  chain_rises (waits {j} {i} c a e n y) =
      let l : j < i = way_younger v c (record { job = j; ask = a }) e i n.way in
      (λ m h. let g = chain_above y m h in omega arith, chain_rises y)

  -- it has at most one job more than there are younger ones
  chain_short : {j : ℕ} {js : List ℕ} → IsChain d j js → length js ≤ suc (younger_than j d.jobs)
  chain_short (runs e) = omega arith
  chain_short (waits {j} {i} c a e n y) =
      let f = fewer_younger v c (record { job = j; ask = a }) e i n in
      let r = chain_short y in
      omega arith

  -- and so at most 32
  chain_at_most : {j : ℕ} {js : List ℕ} → IsChain d j js → length js ≤ 32
  chain_at_most {j} k =
      let l = chain_short k in
      let s = younger_short j d.jobs (v.seats j (live_open (d.stat j) (chain_live k))) in
      let z = v.size in
      omega arith

  -- all that is promised along a chain
  pub along_chain : {j : ℕ} {js : List ℕ} → IsChain d j js → Along d j js
  along_chain {j} {js} k =
      record {
        begins = chain_begins k;
        ends = chain_ends k;
        followed = chain_followed k;
        rises = chain_rises k;
        once = rising_distinct js (chain_rises k);
        at_most_32 = chain_at_most k;
      }
