-- A verdict's line by the verdict's cases, and the verdict program's line by the text's length; what is told and left in each case.
-- Assumes nothing.
use Prim.Native.Nat.{ℕ, ◌≤◌, ◌<◌}
use mathlib.Core.Path.{◌≡◌, refl, sym, ap, ap₂, ◌∙◌}
use mathlib.Core.List.{List, [], ◌∷◌}
use borrow.Author.Tests.{lt-ltb, le-ltb}
use lib.ListN.{length, take, replicate}
use Rattle.std.specs.Prelude.{Result}
use Rattle.terms.specs.declared.refusals.Refusal.{Refusal}
use Rattle.terms.specs.declared.refusals.Refusal.TheVariants.{TooLong}
use Rattle.terms.specs.declared.words.Word as word
use Rattle.terms.specs.Limits.{judged_bytes, judged_jobs}
use Rattle.terms.specs.Refusals.{number_of, field_of}
use Rattle.text_rules.specs.Records.{told, left, word_line, given}
use Rattle.judge_rules.specs.declared.verdict.Verdict.{Verdict}
use Rattle.judge_rules.specs.declared.verdict.Verdict.TheVariants.{Orderly, Knot, Dirty, No}
use Rattle.judge_rules.specs.Judgement.{judgement_of}
use Rattle.judge_rules.specs.VerdictLine.{say_line, judged_line, verdict_of}

-- what is told and left of a line at the buffer's first place
abbrev pub Says : (Result ℕ Refusal) → List ℕ → List ℕ → List ℕ → Type 0
Says w m b line = (w ≡ told b 0 line) × (m ≡ left b 0 line)

-- the same line by another name
says_as : {w : Result ℕ Refusal} {m : List ℕ} (b line say : List ℕ) → line ≡ say → Says w m b line → Says w m b say
says_as b line say e s = (s.0 ∙ ap (told b 0) e, s.1 ∙ ap (left b 0) e)

-- an orderly verdict
pub says_orderly : {w : Result ℕ Refusal} {m : List ℕ} (v : Verdict) (n : ℕ) (order places b : List ℕ) → v ≡ Orderly n → places ≡ take n order → Says w m b (word_line word.TheVariants.Orderly places) →
    Says w m b (say_line v order)
unfolding say_line
says_orderly v n order places b e f s = says_as b _ _ (ap (word_line word.TheVariants.Orderly) f ∙ ap (λ u. say_line u order) (sym e)) s

-- a knot
pub says_knot : {w : Result ℕ Refusal} {m : List ℕ} (v : Verdict) (n : ℕ) (order places b : List ℕ) → v ≡ Knot n → places ≡ take n order → Says w m b (word_line word.TheVariants.Knot places) →
    Says w m b (say_line v order)
unfolding say_line
says_knot v n order places b e f s = says_as b _ _ (ap (word_line word.TheVariants.Knot) f ∙ ap (λ u. say_line u order) (sym e)) s

-- a dirty read
pub says_dirty : {w : Result ℕ Refusal} {m : List ℕ} (v : Verdict) (reader writer : ℕ) (order b : List ℕ) → v ≡ Dirty reader writer → Says w m b (word_line word.TheVariants.Dirty (reader ∷ writer ∷ [])) →
    Says w m b (say_line v order)
unfolding say_line
says_dirty v reader writer order b e s = says_as b _ _ (ap (λ u. say_line u order) (sym e)) s

-- a refusal
pub says_no : {w : Result ℕ Refusal} {m : List ℕ} (v : Verdict) (line number fault : ℕ) (why : Refusal) (order b : List ℕ) → v ≡ No line why → number ≡ number_of why → fault ≡ field_of why →
    Says w m b (word_line word.TheVariants.No (line ∷ number ∷ given fault)) → Says w m b (say_line v order)
unfolding say_line
says_no v line number fault why order b e f g s =
    says_as b _ _ (ap₂ (λ k j. word_line word.TheVariants.No (line ∷ k ∷ given j)) f g ∙ ap (λ u. say_line u order) (sym e)) s

-- a text that is too long
pub says_too_long : {w : Result ℕ Refusal} {m : List ℕ} (text b : List ℕ) (number : ℕ) → judged_bytes < length text → number ≡ number_of TooLong →
    Says w m b (word_line word.TheVariants.No (0 ∷ number ∷ given 0)) → Says w m b (verdict_of text)
unfolding verdict_of given
says_too_long text b number h f s =
    says_as b _ _ (ap (λ k. word_line word.TheVariants.No (0 ∷ k ∷ [])) f ∙ rw (lt-ltb judged_bytes (length text) h) refl) s

-- a text that is judged
pub says_judged : {w : Result ℕ Refusal} {m : List ℕ} (text b order : List ℕ) (v : Verdict) → length text ≤ judged_bytes → v ≡ (judgement_of text (replicate judged_jobs 0)).said →
    order ≡ (judgement_of text (replicate judged_jobs 0)).order → Says w m b (say_line v order) → Says w m b (verdict_of text)
unfolding verdict_of judged_line
says_judged text b order v h e f s = says_as b _ _ (ap₂ say_line e f ∙ rw (le-ltb judged_bytes (length text) h) refl) s
