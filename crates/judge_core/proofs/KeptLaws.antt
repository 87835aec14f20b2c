-- The judge on lines kept as numbers: a short buffer, then the first faulty line, else the verdict.
-- Assumes nothing.
use Prim.Native.Nat.{ℕ, ◌≤◌, ◌<◌}
use mathlib.Core.Path.{◌≡◌, refl, sym, ap, ◌∙◌}
use mathlib.Core.List.{List, []}
use borrow.Author.Tests.{lt-ltb, le-ltb}
use lib.ListN.{length}
use Rattle.std.specs.Prelude.{Ok, Err}
use Rattle.terms.specs.declared.refusals.Refusal.TheVariants.{ShortOrder}
use Rattle.terms.specs.Limits.{judged_jobs}
use Rattle.judge_rules.specs.declared.verdict.Verdict.{Verdict}
use Rattle.judge_rules.specs.declared.verdict.Verdict.TheVariants.{No}
use Rattle.conflict.specs.Dirty.{dirty_of}
use Rattle.judge_rules.specs.Judgement.{say_history}
use Rattle.judge_rules.specs.Arrays.{history_by}
use Rattle.judge_core.specs.declared.kept.FaultyLine.{FaultyLine}
use Rattle.judge_core.specs.Kept.{first_fault, refused_at, say_found, kept_judgement}

module _ (codes jobs cells buffer : List ℕ) (n : ℕ) where
  -- a short buffer is refused first
  pub kept_short : length buffer < judged_jobs → (No 0 ShortOrder ≡ (kept_judgement codes jobs cells buffer n).said) × (buffer ≡ (kept_judgement codes jobs cells buffer n).order)
  unfolding kept_judgement refused_at
  kept_short h = rw (lt-ltb (length buffer) judged_jobs h) (refl, refl)

  module _ (h : judged_jobs ≤ length buffer) where
    -- for any other the lines decide: a faulty one
    pub kept_faulty : (f : FaultyLine) → Err f ≡ first_fault 1 [] (history_by codes jobs cells n) → (No f.line f.why ≡ (kept_judgement codes jobs cells buffer n).said) × (buffer ≡ (kept_judgement codes jobs cells buffer n).order)
    unfolding kept_judgement say_found refused_at
    kept_faulty f q = rw (le-ltb (length buffer) judged_jobs h, sym q) (refl, refl)

    module _ (q : Ok tt ≡ first_fault 1 [] (history_by codes jobs cells n)) where
      -- or else the verdict
      pub kept_decided : kept_judgement codes jobs cells buffer n ≡ say_history buffer (history_by codes jobs cells n) (dirty_of (history_by codes jobs cells n))
      unfolding kept_judgement say_found
      kept_decided = rw (le-ltb (length buffer) judged_jobs h, sym q)

      -- with the jobs that fill the buffer
      pub kept_said : (r : Verdict) (last : List ℕ) → r ≡ (say_history buffer (history_by codes jobs cells n) (dirty_of (history_by codes jobs cells n))).said →
          last ≡ (say_history buffer (history_by codes jobs cells n) (dirty_of (history_by codes jobs cells n))).order → (r ≡ (kept_judgement codes jobs cells buffer n).said) × (last ≡ (kept_judgement codes jobs cells buffer n).order)
      kept_said r last a b = (a ∙ ap (λ j. j.said) (sym kept_decided), b ∙ ap (λ j. j.order) (sym kept_decided))
