-- The verdict program prints no, 0, 16 exactly for a text longer than 65,536 bytes, and prints one line for every text (01, The judge's rules; 01, refusal 16).
-- Assumes nothing.
use Prim.Native.Nat.{ℕ, ◌<◌}
use mathlib.Core.Path.{◌≡◌, refl, sym, ap, ◌∙◌}
use mathlib.Core.Logic.{◌↔◌}
use mathlib.Core.Bool.{true, false}
use mathlib.Core.List.{List, [], ◌∷◌, ◌++◌}
use native.Mathlib.Omega.{arith}
use borrow.Author.Tests.{lt-ltb, ltb-true, eqb-false, not-true}
use lib.Dec.{eqb, ltb}
use lib.ListN.{length, get_or, take, replicate, length-replicate}
use Rattle.laws.specs.Choice.{by_test}
use Rattle.terms.specs.declared.words.Word.{Word}
use Rattle.terms.specs.declared.words.Word.TheVariants.{Go, Wait, Back, No, Wake, Orderly, Knot, Dirty}
use Rattle.terms.specs.declared.refusals.Refusal.{Refusal}
use Rattle.terms.specs.declared.refusals.Refusal.TheVariants.{TooLong}
use Rattle.terms.specs.Limits.{judged_bytes, judged_jobs}
use Rattle.terms.specs.Refusals.{number_of, field_of}
use Rattle.terms.specs.Words.{tab, newline, spelt}
use Rattle.text_rules.specs.Lines.{shortest, value_from}
use Rattle.text_rules.specs.Decimal.{decimal}
use Rattle.text_rules.proofs.DigitLaws.{decimal_0}
use Rattle.text_rules.proofs.DecimalLaws.{decimal_digits, decimal_shortest, decimal_value}
use Rattle.judge_rules.specs.declared.verdict.Verdict.{Verdict}
use Rattle.judge_rules.specs.declared.verdict.Verdict.TheVariants.{Orderly as is_orderly, Knot as is_knot, Dirty as is_dirty, No as is_refused}
use Rattle.text_rules.specs.Records.{tabbed, word_line, given}
use Rattle.text_rules.specs.Split.{no_newline}
use Rattle.judge_rules.specs.Judgement.{judgement_of}
use Rattle.text_rules.proofs.RecordLines.{digits_plain, plain_append}
use Rattle.judge_rules.proofs.Refusing.{short_exactly, line_0_short}
use Rattle.judge_rules.specs.VerdictLine.{say_line, judged_line, verdict_of, OneLine}

-- no word has a newline
word_plain : (w : Word) → no_newline (spelt w) ≡ true
unfolding no_newline
word_plain Go = refl
word_plain Wait = refl
word_plain Back = refl
word_plain No = refl
word_plain Wake = refl
word_plain Orderly = refl
word_plain Knot = refl
word_plain Dirty = refl

-- nor do numbers with a tab before each
tabbed_plain : (ns : List ℕ) → no_newline (tabbed ns) ≡ true
unfolding tabbed no_newline
tabbed_plain [] = refl
tabbed_plain (n ∷ ns) = plain_append (decimal n) (tabbed ns) (digits_plain (decimal n) (decimal_digits n)) (tabbed_plain ns)

-- a line of a word and numbers is one line
word_one_line : (w : Word) (ns : List ℕ) → OneLine (word_line w ns)
unfolding word_line
word_one_line w ns = record {
  line = spelt w ++ tabbed ns;
  ends = refl;
  plain = plain_append (spelt w) (tabbed ns) (word_plain w) (tabbed_plain ns);
}

-- so is every verdict's
said_one_line : (v : Verdict) (order : List ℕ) → OneLine (say_line v order)
unfolding say_line
said_one_line (is_orderly n) order = word_one_line Orderly (take n order)
said_one_line (is_knot n) order = word_one_line Knot (take n order)
said_one_line (is_dirty i j) order = word_one_line Dirty (i ∷ j ∷ [])
said_one_line (is_refused line why) order = word_one_line No (line ∷ number_of why ∷ given (field_of why))

-- digits that begin with 0 and are shortest are the single 0
zero_alone : (n : ℕ) (ds rest more : List ℕ) → decimal n ≡ ds → get_or ((ds ++ tab ∷ rest) ++ more) 0 0 ≡ 48 → n ≡ 0
zero_alone n [] rest more e h = absurd (omega arith)
zero_alone n (d ∷ []) rest more e h = sym (decimal_value n) ∙ ap (value_from 0) e ∙ (unfold value_from in omega arith)
zero_alone n (d ∷ c ∷ ds) rest more e h =
    absurd (eqb-false d 48 (not-true (eqb d 48) (unfold shortest in sym (ap shortest e) ∙ decimal_shortest n)) h)

-- a refusal that is printed as no, 0, 16 has line number 0
printed_line_0 : (n m : ℕ) (more : List ℕ) → word_line No (n ∷ m ∷ more) ≡ word_line No (0 ∷ 16 ∷ []) → n ≡ 0
unfolding word_line tabbed
printed_line_0 n m more e =
    zero_alone n (decimal n) (decimal m ++ tabbed more) (newline ∷ []) refl
    (ap (λ t. get_or t 3 0) e ∙ ap (λ ds. get_or ((ds ++ tab ∷ (decimal 16 ++ [])) ++ newline ∷ []) 0 0) decimal_0)

-- another word is printed in another way
other_word : (w : Word) (ns : List ℕ) → word_line w ns ≡ word_line No (0 ∷ 16 ∷ []) → eqb (get_or (word_line w ns) 0 0) 110 ≡ false → ⊥
unfolding word_line
other_word w ns e n = eqb-false (get_or (word_line w ns) 0 0) 110 n (ap (λ t. get_or t 0 0) e)

module _ (text : List ℕ) where
  -- no refusal of the judge has line number 0 with the program's buffer
  refused_line : (n : ℕ) (why : Refusal) → (judgement_of text (replicate judged_jobs 0)).said ≡ is_refused n why → n ≡ 0 → ⊥
  refused_line n why e z =
      let l : (judgement_of text (replicate judged_jobs 0)).said ≡ is_refused 0 why = rw z at e in
      let h = (short_exactly text (replicate judged_jobs 0)).0 (l ∙ ap (is_refused 0) (line_0_short text (replicate judged_jobs 0) why l)) in
      omega (arith, length-replicate {A = ℕ} judged_jobs 0)

  -- so the line printed for its verdict is not no, 0, 16
  not_16 : (v : Verdict) (order : List ℕ) → (judgement_of text (replicate judged_jobs 0)).said ≡ v → say_line v order ≡ word_line No (0 ∷ 16 ∷ []) → ⊥
  unfolding say_line word_line
  not_16 (is_orderly n) order e p = other_word Orderly (take n order) p refl
  not_16 (is_knot n) order e p = other_word Knot (take n order) p refl
  not_16 (is_dirty i j) order e p = other_word Dirty (i ∷ j ∷ []) p refl
  not_16 (is_refused n why) order e p = refused_line n why e (printed_line_0 n (number_of why) (given (field_of why)) p)

-- SIXTEEN EXACTLY FOR A LONGER TEXT: no, 0, 16 is printed exactly if the text has more than 65,536 bytes
pub too_long_exactly : (text : List ℕ) → (verdict_of text ≡ word_line No (0 ∷ 16 ∷ [])) ↔ (65_536 < length text)
unfolding verdict_of judged_line
too_long_exactly text = (printed, λ h. rw (lt-ltb judged_bytes (length text) h))
  where
    printed : verdict_of text ≡ word_line No (0 ∷ 16 ∷ []) → 65_536 < length text
    printed e =
        let j = judgement_of text (replicate judged_jobs 0) in
        by_test (ltb judged_bytes (length text)) (λ t. ltb-true judged_bytes (length text) t)
        (λ f. absurd (not_16 text j.said j.order refl (rw f at e)))

-- ONE LINE: what the verdict program prints has one newline, at its end
pub verdict_one_line : (text : List ℕ) → OneLine (verdict_of text)
unfolding verdict_of judged_line
verdict_one_line text =
    let j = judgement_of text (replicate judged_jobs 0) in
    by_test (ltb judged_bytes (length text)) (λ t. rw t (word_one_line No (0 ∷ number_of TooLong ∷ []))) (λ f. rw f (said_one_line j.said j.order))
