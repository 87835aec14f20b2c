-- The edges of the listed knot (specs/JudgedSet.antt), by the words alone: two cycles, a job ahead of one and a job behind it. The words have 4 and 5, and no other list, and no search is computed.
-- Assumes nothing.
use Prim.Native.Nat.{ℕ, zero, suc, ◌-◌, ◌≤◌, ◌<◌}
use mathlib.Core.Path.{◌≡◌, refl, subst}
use mathlib.Core.Logic.{◌≢◌}
use mathlib.Core.Bool.{true}
use mathlib.Core.List.{List, [], ◌∷◌}
use native.Mathlib.Omega.{arith}
use lib.Dec.{eqb}
use lib.ListN.{get_or}
use Rattle.laws.specs.Choice.{not_both, pick}
use Rattle.laws.specs.Lists.{member}
use Rattle.laws.proofs.Lists.{member_split, member_none}
use Rattle.judge_rules.specs.Order.{Edges}
use Rattle.judge_rules.specs.KnotWorded.{Remains, SmallestOf, KnotTold}
use Rattle.judge_rules.proofs.OneWorded.{told_only}

-- to whom a job gives: 2 and 6 to each other, and so 4 and 5; 3 to 4, 5 and 1, and both 4 and 5 to 1
abbrev pub given : ℕ → List ℕ
given i =
    pick (eqb i 2) (6 ∷ []) (pick (eqb i 3) (1 ∷ 4 ∷ 5 ∷ []) (pick (eqb i 4) (1 ∷ 5 ∷ []) (pick (eqb i 5) (1 ∷ 4 ∷ []) (pick (eqb i 6) (2 ∷ []) []))))

-- these edges
abbrev pub listed : Edges
listed i j = member j (given i)

-- the jobs
abbrev pub six : List ℕ
six = 1 ∷ 2 ∷ 3 ∷ 4 ∷ 5 ∷ 6 ∷ []

-- those that remain
abbrev five : List ℕ
five = 1 ∷ 2 ∷ 4 ∷ 5 ∷ 6 ∷ []

-- what holds of the first and of the rest holds of the list
each : (P : ℕ → Type 0) (j : ℕ) (js : List ℕ) → P j → ((k : ℕ) → member k js ≡ true → P k) → (k : ℕ) → member k (j ∷ js) ≡ true → P k
each P j js h rest k m = member_split j js k m (λ e. subst P e h) (rest k)

-- what holds of six jobs
of_six : (P : ℕ → Type 0) → P 1 → P 2 → P 3 → P 4 → P 5 → P 6 → (k : ℕ) → member k six ≡ true → P k
of_six P a b c d e f = each P 1 _ a (each P 2 _ b (each P 3 _ c (each P 4 _ d (each P 5 _ e (each P 6 _ f (λ k m. member_none k m))))))

-- and of the five
of_five : (P : ℕ → Type 0) → P 1 → P 2 → P 4 → P 5 → P 6 → (k : ℕ) → member k five ≡ true → P k
of_five P a b d e f = each P 1 _ a (each P 2 _ b (each P 4 _ d (each P 5 _ e (each P 6 _ f (λ k m. member_none k m)))))

-- each of the five has a predecessor among them
stays : (j : ℕ) → member j five ≡ true → Remains listed six j
unfolding member
stays j m = record {
  part = five;
  named = m;
  only = of_five (λ i. member i six ≡ true) refl refl refl refl refl;
  each = of_five (λ i. (k : ℕ) × (member k five ≡ true) × (listed k i ≡ true)) (4, refl, refl) (6, refl, refl) (5, refl, refl) (4, refl, refl) (2, refl, refl);
}

-- 3 has none
gone : Remains listed six 3 → ⊥
unfolding member
gone r =
    let by = r.each 3 r.named in
    of_six (λ k. listed k 3 ≡ true → ⊥) (λ t. not_both t refl) (λ t. not_both t refl) (λ t. not_both t refl) (λ t. not_both t refl) (λ t. not_both t refl) (λ t. not_both t refl)
    by.0 (r.only by.0 by.1) by.2

-- who remains is one of the jobs, and not 3
of_left : (P : ℕ → Type 0) → P 1 → P 2 → P 4 → P 5 → P 6 → (k : ℕ) → Remains listed six k → P k
of_left P a b d e f k r = of_six (λ i. Remains listed six i → P i) (λ x. a) (λ x. b) (λ x. absurd (gone x)) (λ x. d) (λ x. e) (λ x. f) k (r.only k r.named) r

-- a predecessor that remains
abbrev Before : ℕ → ℕ → Type 0
Before j i = Remains listed six i × (listed i j ≡ true)

-- 1 is the smallest that remains, 4 its smallest predecessor that does, 5 that of 4, and 4 that of 5
starts_at_1 : SmallestOf (Remains listed six) 1
unfolding member
starts_at_1 = record { among = stays 1 refl; below = of_left (λ k. 1 ≤ k) (omega arith) (omega arith) (omega arith) (omega arith) (omega arith) }

4-before-1 : SmallestOf (Before 1) 4
unfolding member
4-before-1 = record {
  among = (stays 4 refl, refl);
  below = λ k p. of_left (λ i. listed i 1 ≡ true → 4 ≤ i) (λ t. not_both t refl) (λ t. not_both t refl) (λ t. omega arith) (λ t. omega arith) (λ t. omega arith) k p.0 p.1;
}

5-before-4 : SmallestOf (Before 4) 5
unfolding member
5-before-4 = record {
  among = (stays 5 refl, refl);
  below = λ k p. of_left (λ i. listed i 4 ≡ true → 5 ≤ i) (λ t. not_both t refl) (λ t. not_both t refl) (λ t. not_both t refl) (λ t. omega arith) (λ t. omega arith) k p.0 p.1;
}

4-before-5 : SmallestOf (Before 5) 4
unfolding member
4-before-5 = record {
  among = (stays 4 refl, refl);
  below = λ k p. of_left (λ i. listed i 5 ≡ true → 4 ≤ i) (λ t. not_both t refl) (λ t. not_both t refl) (λ t. omega arith) (λ t. omega arith) (λ t. omega arith) k p.0 p.1;
}

-- the jobs come to
abbrev came : List ℕ
came = 1 ∷ 4 ∷ 5 ∷ 4 ∷ []

-- each next is the smallest predecessor that remains
nexts : (k : ℕ) → k < 3 → SmallestOf (Before (get_or came k 0)) (get_or came (suc k) 0)
nexts zero h = 4-before-1
nexts (suc zero) h = 5-before-4
nexts (suc (suc zero)) h = 4-before-5
nexts (suc (suc (suc k))) h = absurd (omega arith)

-- before the last of them none comes again
first_three : (i k : ℕ) → i < k → k < 3 → get_or came i 0 ≢ get_or came k 0
first_three zero (suc zero) l h = λ (e : ◌≡◌ {A = ℕ} 1 4). omega arith
first_three zero (suc (suc zero)) l h = λ (e : ◌≡◌ {A = ℕ} 1 5). omega arith
first_three (suc zero) (suc (suc zero)) l h = λ (e : ◌≡◌ {A = ℕ} 4 5). omega arith
first_three i zero l h = absurd (omega arith)
first_three i (suc (suc (suc k))) l h = absurd (omega arith)
first_three (suc i) (suc zero) l h = absurd (omega arith)
first_three (suc (suc i)) (suc (suc zero)) l h = absurd (omega arith)

-- of the two of the cycle 4 is the smaller
smaller : (k : ℕ) → 1 < k → k ≤ 3 → 4 ≤ get_or came k 0
smaller zero l h = absurd (omega arith)
smaller (suc zero) l h = absurd (omega arith)
smaller (suc (suc zero)) l h = omega arith
smaller (suc (suc (suc zero))) l h = omega arith
smaller (suc (suc (suc (suc k)))) l h = absurd (omega arith)

-- told backwards from the last
backwards : (k : ℕ) → k < 2 → get_or (4 ∷ 5 ∷ []) k 0 ≡ get_or came (3 - k) 0
backwards zero h = refl
backwards (suc zero) h = refl
backwards (suc (suc k)) h = absurd (omega arith)

-- THE LISTED KNOT: the words have 4 and 5
pub listed_told : KnotTold listed six (4 ∷ 5 ∷ [])
listed_told = record {
  way = came;
  first = 1;
  last = 3;
  comes = record { size = refl; start = starts_at_1; next = nexts; earlier = omega arith; again = refl; once = first_three };
  from = 3;
  behind = omega arith;
  within = omega arith;
  smallest = smaller;
  size = refl;
  back = backwards;
  on = λ k h. absurd (omega arith);
}

-- and no other list
pub listed_only : (js : List ℕ) → KnotTold listed six js → js ≡ 4 ∷ 5 ∷ []
listed_only js t = told_only t listed_told
