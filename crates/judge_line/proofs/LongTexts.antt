-- The first 65,537 bytes of any text are enough: the verdict's line on them is that on the whole (01, refusal 16).
-- Assumes nothing.
use Prim.Native.Nat.{ℕ, ◌+◌, ◌<◌}
use mathlib.Core.Path.{◌≡◌, sym, ap, ◌∙◌}
use mathlib.Core.List.{List, [], ◌∷◌}
use native.Mathlib.Omega.{arith}
use borrow.Author.Tests.{lt-ltb, ltb-true, ltb-false}
use lib.Dec.{ltb}
use lib.ListN.{length, take}
use lib.Seq.{take_all, length-take-le}
use Rattle.laws.specs.Choice.{by_test}
use Rattle.terms.specs.declared.refusals.Refusal.TheVariants.{TooLong}
use Rattle.terms.specs.declared.words.Word.TheVariants.{No}
use Rattle.terms.specs.Limits.{judged_bytes}
use Rattle.terms.specs.Refusals.{number_of}
use Rattle.text_rules.specs.Records.{word_line}
use Rattle.judge_rules.specs.VerdictLine.{verdict_of}

-- a text longer than 65,536 bytes is refused, whatever it says
pub too_long : (text : List ℕ) → judged_bytes < length text → verdict_of text ≡ word_line No (0 ∷ number_of TooLong ∷ [])
unfolding verdict_of
too_long text h = rw (lt-ltb judged_bytes (length text) h)

-- so a program that keeps one byte more than 65,536, and lets the rest go, says what is to be said of the whole
pub first_bytes : (text : List ℕ) → verdict_of (take (judged_bytes + 1) text) ≡ verdict_of text
first_bytes text =
    by_test (ltb judged_bytes (length text))
    (λ t.
    let h = ltb-true judged_bytes (length text) t in
    too_long (take (judged_bytes + 1) text) (omega (arith, length-take-le (judged_bytes + 1) text (omega arith))) ∙ sym (too_long text h))
    (λ f. let h = ltb-false judged_bytes (length text) f in ap verdict_of (take_all (judged_bytes + 1) text (omega arith)))
