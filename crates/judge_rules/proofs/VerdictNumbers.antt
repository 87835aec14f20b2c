-- The four numbers of a verdict: what they are, as literals, and that they tell verdicts apart (01, The judge's rules; 01, Refusals by number; 02, No. 5).
-- Assumes nothing.
use Prim.Native.Nat.{ℕ}
use mathlib.Core.Path.{◌≡◌, refl, ap, ap₂}
use mathlib.Core.List.{[], ◌∷◌, map}
use native.Mathlib.Omega.{arith}
use Rattle.terms.specs.declared.refusals.Field.TheVariants.{Second}
use Rattle.terms.specs.declared.refusals.Refusal.TheVariants.{BadLine, Ended}
use Rattle.terms.specs.Refusals.{number_of, field_of}
use Rattle.terms.proofs.Numbers.{same_number}
use Rattle.judge_rules.specs.declared.verdict.Verdict.{Verdict}
use Rattle.judge_rules.specs.declared.verdict.Verdict.TheVariants.{Orderly, Knot, Dirty, No}
use Rattle.judge_rules.specs.Judgement.{in_numbers}

-- the numbers of the words, and those beside them: 0 orderly, 1 knot, 2 a refusal (line 5 with 9 at the second field, line 6 with 13), 3 dirty (6 read what 1 had written)
pub verdicts_are :
    map in_numbers (Orderly 4 ∷ Knot 2 ∷ No 5 (BadLine Second) ∷ No 6 Ended ∷ Dirty 6 1 ∷ [])
    ≡ (0 ∷ 4 ∷ 0 ∷ 0 ∷ []) ∷ (1 ∷ 2 ∷ 0 ∷ 0 ∷ []) ∷ (2 ∷ 9 ∷ 5 ∷ 2 ∷ []) ∷ (2 ∷ 13 ∷ 6 ∷ 0 ∷ []) ∷ (3 ∷ 6 ∷ 1 ∷ 0 ∷ []) ∷ []
unfolding in_numbers
verdicts_are = refl

-- verdicts with equal numbers are equal
pub same_verdict : (v w : Verdict) → in_numbers v ≡ in_numbers w → v ≡ w
unfolding in_numbers
same_verdict (Orderly n) (Orderly m) e = let q : n ≡ m = cc in ap Orderly q
same_verdict (Knot n) (Knot m) e = let q : n ≡ m = cc in ap Knot q
same_verdict (Dirty i j) (Dirty k l) e = let p : i ≡ k = cc in let q : j ≡ l = cc in ap₂ Dirty p q
same_verdict (No l x) (No k y) e =
    let p : l ≡ k = cc in
    let q : number_of x ≡ number_of y = cc in
    let f : field_of x ≡ field_of y = cc in
    ap₂ No p (same_number x y q f)
same_verdict (Orderly n) (Knot m) e = let z : ◌≡◌ {A = ℕ} 0 1 = cc in absurd (omega arith)
same_verdict (Orderly n) (Dirty k l) e = let z : ◌≡◌ {A = ℕ} 0 1 = cc in absurd (omega arith)
same_verdict (Orderly n) (No k y) e = let z : ◌≡◌ {A = ℕ} 0 1 = cc in absurd (omega arith)
same_verdict (Knot n) (Orderly m) e = let z : ◌≡◌ {A = ℕ} 0 1 = cc in absurd (omega arith)
same_verdict (Knot n) (Dirty k l) e = let z : ◌≡◌ {A = ℕ} 0 1 = cc in absurd (omega arith)
same_verdict (Knot n) (No k y) e = let z : ◌≡◌ {A = ℕ} 0 1 = cc in absurd (omega arith)
same_verdict (Dirty i j) (Orderly m) e = let z : ◌≡◌ {A = ℕ} 0 1 = cc in absurd (omega arith)
same_verdict (Dirty i j) (Knot m) e = let z : ◌≡◌ {A = ℕ} 0 1 = cc in absurd (omega arith)
same_verdict (Dirty i j) (No k y) e = let z : ◌≡◌ {A = ℕ} 0 1 = cc in absurd (omega arith)
same_verdict (No l x) (Orderly m) e = let z : ◌≡◌ {A = ℕ} 0 1 = cc in absurd (omega arith)
same_verdict (No l x) (Knot m) e = let z : ◌≡◌ {A = ℕ} 0 1 = cc in absurd (omega arith)
same_verdict (No l x) (Dirty i j) e = let z : ◌≡◌ {A = ℕ} 0 1 = cc in absurd (omega arith)
