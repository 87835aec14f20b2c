-- The verdict on faultless lines: a dirty read, whose two jobs fill the buffer's first two places, else the order or the knot (02, No. 2).
-- Assumes nothing.
use Prim.Native.Nat.{ℕ}
use mathlib.Core.Path.{◌≡◌, refl, sym}
use mathlib.Core.List.{List, [], ◌∷◌, ◌++◌}
use native.Mathlib.Omega.{arith}
use lib.ListN.{drop}
use Rattle.std.specs.Prelude.{None, Some, Option}
use Rattle.conflict.specs.History.{History}
use Rattle.conflict.specs.Dirty.{ReadOf, dirty_of}
use Rattle.judge_rules.specs.declared.verdict.Verdict.{Verdict}
use Rattle.judge_rules.specs.declared.verdict.Verdict.TheVariants.{Dirty}
use Rattle.judge_rules.specs.Judged.{finding_of}
use Rattle.laws.specs.Lists.{filled}
use Rattle.judge_rules.specs.Judgement.{say_finding, say_history}
use Rattle.judge_core.specs.declared.dirty.Dirt.{Dirt}
use Rattle.judge_core.specs.RunEnds.{dirt_of}

-- clean is said where there is no dirty read
none_is : (o : Option ReadOf) → None ≡ dirt_of o → o ≡ None
unfolding dirt_of
none_is None e = refl
none_is (Some d) e = absurd (let z : ◌≡◌ {A = ℕ} 0 1 = cc in omega arith)

-- and else its reader and its writer
some_is : (o : Option ReadOf) (d : Dirt) → Some d ≡ dirt_of o → o ≡ Some (record { reader = d.reader; writer = d.writer })
unfolding dirt_of
some_is None d e = absurd (let z : ◌≡◌ {A = ℕ} 0 1 = cc in omega arith)
some_is (Some r) d e =
    let q : d ≡ record { reader = r.reader; writer = r.writer } = cc in
    λ t. Some (record { reader = (sym q t).reader; writer = (sym q t).writer })

module _ (buffer : List ℕ) (h : History) where
  -- of a clean history the order or the knot is told
  pub clean_said : None ≡ dirt_of (dirty_of h) → (said : Verdict) (last : List ℕ) → said ≡ (say_finding buffer (finding_of h)).said → last ≡ (say_finding buffer (finding_of h)).order →
      (said ≡ (say_history buffer h (dirty_of h)).said) × (last ≡ (say_history buffer h (dirty_of h)).order)
  unfolding say_history
  clean_said c said last a b = rw (none_is (dirty_of h) c) (a, b)

  -- of any other reader and writer, and they are put in first
  pub dirty_said : (d : Dirt) → Some d ≡ dirt_of (dirty_of h) → (pair : List ℕ) → pair ≡ d.reader ∷ d.writer ∷ [] →
      (Dirty d.reader d.writer ≡ (say_history buffer h (dirty_of h)).said) × (pair ++ drop 2 buffer ≡ (say_history buffer h (dirty_of h)).order)
  unfolding say_history filled
  dirty_said d e pair p = rw (some_is (dirty_of h) d e) (refl, rw p)
