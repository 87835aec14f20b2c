-- Sets of cells as bits: which cells the union and the intersection of two sets have, and the set of one cell.
-- Assumes nothing.
use Prim.Native.Nat.{ℕ, zero, suc, ◌+◌, ◌-◌, ◌*◌, ◌/◌, ◌%◌, ◌^◌, ◌≤◌, ◌<◌}
use mathlib.Core.Path.{◌≡◌, refl, ap, ◌∙◌}
use mathlib.Core.Bool.{Bool, true, false, not, ◌&&◌, ◌||◌, and-true, and-false, or-false, or_comm}
use native.Mathlib.Omega.{arith}
use native.Mathlib.Nat.{zero-div, div-eq_of_lt, div_self, div-one, one-mul, one-le-pow, pow-suc}
use lib.Dec.{eqb, ltb}
use lib.Bits.{bit_and, bit_or, and_step, or_step, and_shr, or_shr, and_mask}
use lib.Pow.{pow-lt, pow-add, shl-shr, shr-shr, shl_exact}
use borrow.Author.Tests.{eqb-true, eqb-false, eq-eqb, ne_eqb, ltb-true, ltb-false, lt-ltb, le-ltb}
use Rattle.laws.specs.Choice.{by_test}
use Rattle.laws.proofs.Parts.{or_second}
use Rattle.conflict.specs.declared.action.Kind.{Kind}
use Rattle.conflict.specs.declared.action.Kind.TheVariants.{Read, Write, Increment}
use Rattle.conflict.specs.declared.cells.Touched.{Touched}
use Rattle.conflict.specs.Schedule.{agree}
use Rattle.conflict.specs.Cells.{in_set, acts_on, some_kind, can_conflict}

-- the last bit of the bitwise and of two numbers
low_and : (x y : ℕ) → eqb (bit_and x y % 2) 1 ≡ (eqb (x % 2) 1 && eqb (y % 2) 1)
low_and x y =
    by_test (eqb (x % 2) 1)
    (λ t. by_test (eqb (y % 2) 1)
    (λ u. rw (t, u) (eq-eqb (bit_and x y % 2) 1 (omega (arith, rw (eqb-true (x % 2) 1 t, eqb-true (y % 2) 1 u) at (and_step x y)))))
    (λ g.
    let z : y % 2 ≡ 0 = omega (arith, eqb-false (y % 2) 1 g) in
    rw (t, g) (ne_eqb (bit_and x y % 2) 1 (λ e. omega (arith, rw (eqb-true (x % 2) 1 t, z) at (and_step x y))))))
    (λ f.
    let w : x % 2 ≡ 0 = omega (arith, eqb-false (x % 2) 1 f) in
    rw f (by_test (eqb (y % 2) 1)
    (λ u. ne_eqb (bit_and x y % 2) 1 (λ e. omega (arith, rw (w, eqb-true (y % 2) 1 u) at (and_step x y))))
    (λ g.
    let z : y % 2 ≡ 0 = omega (arith, eqb-false (y % 2) 1 g) in
    ne_eqb (bit_and x y % 2) 1 (λ e. omega (arith, rw (w, z) at (and_step x y))))))

-- the last bit of the bitwise or of two numbers
low_or : (x y : ℕ) → eqb (bit_or x y % 2) 1 ≡ (eqb (x % 2) 1 || eqb (y % 2) 1)
low_or x y =
    by_test (eqb (x % 2) 1)
    (λ t. rw t (by_test (eqb (y % 2) 1)
    (λ u. eq-eqb (bit_or x y % 2) 1 (omega (arith, rw (eqb-true (x % 2) 1 t, eqb-true (y % 2) 1 u) at (or_step x y))))
    (λ g.
    let z : y % 2 ≡ 0 = omega (arith, eqb-false (y % 2) 1 g) in
    eq-eqb (bit_or x y % 2) 1 (omega (arith, rw (eqb-true (x % 2) 1 t, z) at (or_step x y))))))
    (λ f.
    let w : x % 2 ≡ 0 = omega (arith, eqb-false (x % 2) 1 f) in
    by_test (eqb (y % 2) 1)
    (λ u. rw (f, u) (eq-eqb (bit_or x y % 2) 1 (omega (arith, rw (w, eqb-true (y % 2) 1 u) at (or_step x y)))))
    (λ g.
    let z : y % 2 ≡ 0 = omega (arith, eqb-false (y % 2) 1 g) in
    rw (f, g) (ne_eqb (bit_or x y % 2) 1 (λ e. omega (arith, rw (w, z) at (or_step x y))))))

-- a cell is in the intersection of two sets exactly if it is in both
pub in_both : (a b c : ℕ) → in_set (bit_and a b) c ≡ (in_set a c && in_set b c)
unfolding in_set
in_both a b c = ap (λ n. eqb (n % 2) 1) (and_shr a b c) ∙ low_and (a / 2 ^ c) (b / 2 ^ c)

-- a cell is in the union of two sets exactly if it is in one of them
pub in_either : (a b c : ℕ) → in_set (bit_or a b) c ≡ (in_set a c || in_set b c)
unfolding in_set
in_either a b c = ap (λ n. eqb (n % 2) 1) (or_shr a b c) ∙ low_or (a / 2 ^ c) (b / 2 ^ c)

-- the set of one cell has it and no other
pub in_one : (k c : ℕ) → in_set (2 ^ k) c ≡ eqb k c
unfolding in_set
in_one k c =
    by_test (eqb k c)
    (λ t. rw (t, eqb-true k c t, div_self (one-le-pow c 2 (omega arith))))
    (λ f. rw f
    (by_test (ltb k c)
    (λ t. rw (div-eq_of_lt (pow-lt (ltb-true k c t))))
    (λ g.
    let q : k ≡ suc (k - c - 1) + c = omega (arith, ltb-false k c g, eqb-false k c f) in
    let even' : 2 ^ k / 2 ^ c ≡ 2 ^ (k - c - 1) * 2 =
    ap (λ n. 2 ^ n / 2 ^ c) q ∙ ap (λ n. n / 2 ^ c) (pow-add 2 (suc (k - c - 1)) c) ∙ shl-shr (2 ^ suc (k - c - 1)) c ∙ pow-suc 2 (k - c - 1) in
    ne_eqb (2 ^ k / 2 ^ c % 2) 1 (λ e. omega arith))))

-- and distributes over or
both_either : (a b c : Bool) → (a && (b || c)) ≡ ((a && b) || (a && c))
both_either true b c = refl
both_either false b c = refl

-- the cells on which two jobs can conflict, as the code finds them
pub meeting_tells : (a b : Touched) (c : ℕ) →
    in_set (bit_or (bit_and a.reads (bit_or b.writes b.increments)) (bit_or (bit_and a.writes (bit_or b.reads (bit_or b.writes b.increments))) (bit_and a.increments (bit_or b.reads b.writes)))) c ≡ can_conflict a b c
unfolding can_conflict some_kind acts_on agree
meeting_tells a b c = simp (in_either, in_both, both_either, and-true, and-false, or-false)

-- a set with one more cell
pub cell_more : (set cell : ℕ) → cell < 64 → (c : ℕ) → in_set (bit_or set ((1 * 2 ^ cell) % 2 ^ 64)) c ≡ ((eqb cell c && ltb cell 64) || in_set set c)
cell_more set cell h c =
    rw (shl_exact {a = 1} 1 cell 64 (omega arith) (omega arith), lt-ltb cell 64 h, in_either set (1 * 2 ^ cell) c, one-mul (2 ^ cell), in_one cell c, and-true (eqb cell c))
    (or_comm (in_set set c) (eqb cell c))

-- a number that is not a cell changes nothing
pub cell_none : (set cell : ℕ) → 64 ≤ cell → (c : ℕ) → in_set set c ≡ ((eqb cell c && ltb cell 64) || in_set set c)
cell_none set cell h c = rw (le-ltb cell 64 h, and-false (eqb cell c))

-- a cell is in a set exactly if its bit is set
pub cell_there : (set cell : ℕ) → cell < 64 → eqb (bit_and (set / 2 ^ cell) 1) 1 ≡ (ltb cell 64 && in_set set cell)
unfolding in_set
cell_there set cell h = rw (lt-ltb cell 64 h) (ap (λ n. eqb n 1) (and_mask (set / 2 ^ cell) 1))

-- a number that is not a cell is in no set
pub cell_nowhere : (set cell : ℕ) → 64 ≤ cell → false ≡ (ltb cell 64 && in_set set cell)
cell_nowhere set cell h = rw (le-ltb cell 64 h)

-- sets with the same cells are equal, however many bits are looked at
same_set : (n a b : ℕ) → a ≤ n → b ≤ n → ((c : ℕ) → in_set a c ≡ in_set b c) → a ≡ b
unfolding in_set
same_set zero a b h g e = omega arith
same_set (suc n) a b h g e =
    let half : a / 2 ≡ b / 2 =
    same_set n (a / 2) (b / 2) (omega arith) (omega arith)
    (λ c. rw (shr-shr a 1 c, shr-shr b 1 c) (e (1 + c))) in
    let first : eqb (a % 2) 1 ≡ eqb (b % 2) 1 = rw (div-one a, div-one b) at (e 0) in
    by_test (eqb (b % 2) 1)
    (λ t. omega (arith, eqb-true (b % 2) 1 t, eqb-true (a % 2) 1 (first ∙ t)))
    (λ f. omega (arith, eqb-false (b % 2) 1 f, eqb-false (a % 2) 1 (first ∙ f)))

pub same_cells : (a b : ℕ) → ((c : ℕ) → in_set a c ≡ in_set b c) → a ≡ b
same_cells a b e = same_set (a + b) a b (omega arith) (omega arith) e

-- if one kind passes a test, some kind does
some_kind_lem : (f : Kind → Bool) (k : Kind) → f k ≡ true → some_kind f ≡ true
unfolding some_kind
some_kind_lem f Read t = rw t
some_kind_lem f Write t = or_second (f Read) (f Write || f Increment) (rw t)
some_kind_lem f Increment t = or_second (f Read) (f Write || f Increment) (or_second (f Write) (f Increment) t)

-- jobs with actions of kinds that do not agree on a cell can conflict there
pub can_conflict_lem : (a b : Touched) (k l : Kind) (c : ℕ) → acts_on a k c ≡ true → acts_on b l c ≡ true → agree k l ≡ false → can_conflict a b c ≡ true
unfolding can_conflict
can_conflict_lem a b k l c p q n =
    some_kind_lem (λ k'. some_kind (λ l'. (acts_on a k' c && acts_on b l' c) && not (agree k' l'))) k
    (some_kind_lem (λ l'. (acts_on a k c && acts_on b l' c) && not (agree k l')) l (rw (p, q, n)))

-- no cell is in the empty set
pub in_none : (c : ℕ) → in_set 0 c ≡ false
unfolding in_set
in_none c = rw (zero-div (2 ^ c))

-- the sets of a job, kind by kind
pub acts_read : (t : Touched) (c : ℕ) → acts_on t Read c ≡ in_set t.reads c
unfolding acts_on
acts_read t c = refl

pub acts_write : (t : Touched) (c : ℕ) → acts_on t Write c ≡ in_set t.writes c
unfolding acts_on
acts_write t c = refl

pub acts_increment : (t : Touched) (c : ℕ) → acts_on t Increment c ≡ in_set t.increments c
unfolding acts_on
acts_increment t c = refl
