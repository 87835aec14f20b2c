-- What the program `answers` writes, byte by byte: for each line its answer, then a wake record for each wake, in order (01, Lines).
-- Assumes nothing.
use Prim.Native.Nat.{ℕ, ◌+◌}
use mathlib.Core.Path.{◌≡◌, refl, ap, ap₂, ◌∙◌}
use mathlib.Core.List.{List, [], ◌∷◌, ◌++◌, map}
use Rattle.terms.specs.declared.refusals.Field.{Field}
use Rattle.terms.specs.declared.refusals.Refusal.{Refusal}
use Rattle.terms.specs.declared.refusals.Refusal.TheVariants.{BadLine}
use Rattle.terms.specs.declared.words.Word.TheVariants.{No as no_word}
use Rattle.terms.specs.Refusals.{number_of, field_number}
use Rattle.terms.proofs.Numbers.{no_field_beside}
use Rattle.conflict.specs.declared.action.Action.{Action}
use Rattle.text_rules.specs.Decimal.{decimal}
use Rattle.text_rules.specs.Records.{answer_record}
use Rattle.text_rules.specs.Split.{joined}
use Rattle.text_rules.proofs.RecordBytes.{go_bytes, wait_bytes, back_bytes, no_bytes, wake_bytes, nine_bytes}
use Rattle.desks.specs.declared.Answer.TheVariants.{Go, Wait, Back, No}
use Rattle.desks.specs.AnswerWords.{word_of, number_beside, field_beside}
use Rattle.program_rules.specs.OverLines.{Told, wake_lines, answer_lines, written}
use Rattle.program_rules.specs.Programs.{run_on, answers_of}

-- a wake record for each of the wakes: line number, tab, wake, tab, job, newline
abbrev pub wakes_bytes : ℕ → List Action → List ℕ
wakes_bytes n wakes = joined (map (λ a. decimal n ++ 9 ∷ 119 ∷ 97 ∷ 107 ∷ 101 ∷ [] ++ 9 ∷ decimal a.job ++ 10 ∷ []) wakes)

-- each wake has its record, in their order
wakes_written : (n : ℕ) (wakes : List Action) → wake_lines n wakes ≡ wakes_bytes n wakes
unfolding wake_lines joined
wakes_written n [] = refl
wakes_written n (a ∷ rest) = ap₂ (λ x y. x ++ y) (wake_bytes n a.job) (wakes_written n rest)

module _ (t : Told) where
  -- the answer's record, and then the wakes'
  own_first : (record-bytes : List ℕ) → answer_record t.line (word_of t.said) (number_beside t.said) (field_beside t.said) ≡ record-bytes → answer_lines t ≡ record-bytes ++ wakes_bytes t.line t.wakes
  unfolding answer_lines
  own_first record-bytes e = ap₂ (λ x y. x ++ y) e (wakes_written t.line t.wakes)

  -- go with the job, and the wakes
  pub go_written : (j : ℕ) → t.said ≡ Go j → answer_lines t ≡ (decimal t.line ++ 9 ∷ 103 ∷ 111 ∷ [] ++ 9 ∷ decimal j ++ 10 ∷ []) ++ wakes_bytes t.line t.wakes
  unfolding word_of number_beside field_beside
  go_written j e = own_first _ (ap (λ a. answer_record t.line (word_of a) (number_beside a) (field_beside a)) e ∙ go_bytes t.line j)

  -- wait with the job
  pub wait_written : (j : ℕ) → t.said ≡ Wait j → answer_lines t ≡ (decimal t.line ++ 9 ∷ 119 ∷ 97 ∷ 105 ∷ 116 ∷ [] ++ 9 ∷ decimal j ++ 10 ∷ []) ++ wakes_bytes t.line t.wakes
  unfolding word_of number_beside field_beside
  wait_written j e = own_first _ (ap (λ a. answer_record t.line (word_of a) (number_beside a) (field_beside a)) e ∙ wait_bytes t.line j)

  -- back with the job
  pub back_written : (j : ℕ) → t.said ≡ Back j → answer_lines t ≡ (decimal t.line ++ 9 ∷ 98 ∷ 97 ∷ 99 ∷ 107 ∷ [] ++ 9 ∷ decimal j ++ 10 ∷ []) ++ wakes_bytes t.line t.wakes
  unfolding word_of number_beside field_beside
  back_written j e = own_first _ (ap (λ a. answer_record t.line (word_of a) (number_beside a) (field_beside a)) e ∙ back_bytes t.line j)

  -- no with the refusal's number, and nothing after it but for refusal 9
  pub no_written : (why : Refusal) → t.said ≡ No why → (number_of why ≡ 9 → ⊥) → answer_lines t ≡ (decimal t.line ++ 9 ∷ 110 ∷ 111 ∷ [] ++ 9 ∷ decimal (number_of why) ++ 10 ∷ []) ++ wakes_bytes t.line t.wakes
  unfolding word_of number_beside field_beside
  no_written why e other =
      own_first _ (ap (λ a. answer_record t.line (word_of a) (number_beside a) (field_beside a)) e ∙ ap (answer_record t.line no_word (number_of why)) (no_field_beside why other) ∙ no_bytes t.line (number_of why))

  -- no with 9 and the field at fault (02, No. 5)
  pub nine_written : (at : Field) → t.said ≡ No (BadLine at) → answer_lines t ≡ (decimal t.line ++ 9 ∷ 110 ∷ 111 ∷ 9 ∷ 57 ∷ 9 ∷ (48 + field_number at) ∷ 10 ∷ []) ++ wakes_bytes t.line t.wakes
  unfolding word_of number_beside field_beside
  nine_written at e = own_first _ (ap (λ a. answer_record t.line (word_of a) (number_beside a) (field_beside a)) e ∙ nine_bytes t.line at)

-- what is written of a run is what is written of its lines, one after another
written_joined : (view : Told → List ℕ) (ts : List Told) → written view ts ≡ joined (map view ts)
unfolding written joined
written_joined view [] = refl
written_joined view (t ∷ ts) = ap (λ l. view t ++ l) (written_joined view ts)

-- the program writes the records of each line of the run, in their order
pub answers_joined : (text : List ℕ) → answers_of text ≡ joined (map answer_lines (run_on text))
unfolding answers_of
answers_joined text = written_joined answer_lines (run_on text)
