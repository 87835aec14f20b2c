-- The judge's refusals are given exactly when the table says, with the right line number. The line is handed back then and only then, and the buffer stays (01, Refusals by number; 01, Lines).
-- Assumes nothing.
use Prim.Native.Nat.{ℕ, ◌≤◌, ◌<◌}
use mathlib.Core.Path.{◌≡◌, refl, ap}
use mathlib.Core.Logic.{◌↔◌}
use mathlib.Core.Bool.{true}
use mathlib.Core.List.{List, []}
use native.Mathlib.Omega.{arith}
use lib.ListN.{length, take, drop}
use Rattle.laws.proofs.Lists.{first_holds}
use Rattle.terms.specs.declared.refusals.Refusal.{Refusal}
use Rattle.terms.specs.declared.refusals.Refusal.TheVariants.{ShortOrder}
use Rattle.text_rules.specs.Split.{joined}
use Rattle.judge_rules.specs.declared.verdict.Verdict.TheVariants.{No}
use Rattle.judge_rules.specs.HistoryText.{readings_of}
use Rattle.judge_rules.specs.Judgement.{Judgement, judgement_of, line_from}
use Rattle.judge_rules.specs.LineTable.{reading_at, lines_before, holds, order, table_says, Due, FirstFault}
use Rattle.judge_rules.specs.Answers.{Stands, Answers}
use Rattle.judge_rules.specs.Answers.Answers.{short, faulty, in-dirt, in_order, in-knot}
use Rattle.judge_rules.proofs.Answering.{answers}
use Rattle.judge_rules.proofs.OneAnswer.{answers_exactly}
use Rattle.judge_rules.proofs.LineBack.{bare_stands, stands_behind}
use Rattle.text_rules.specs.Lines.{Reading}

module _ (text buffer : List ℕ) where
  -- a refusal said is 14 for a short buffer, or the one that is due for the first faulty line, handed back; the buffer stays
  refused_cases : {P : Type 0} (j : Judgement) → Answers text buffer j → (n : ℕ) (why : Refusal) → j.said ≡ No n why →
      (n ≡ 0 → why ≡ ShortOrder → length buffer < 255 → j.line ≡ [] → j.order ≡ buffer → P) →
      (255 ≤ length buffer → FirstFault (readings_of text) n why → Stands text n j.line → j.order ≡ buffer → P) → P
  refused_cases j (short h) n why e one' two' = one' (cc) (cc) h refl refl
  refused_cases j (faulty {n = m} {why = x} {line = l} room f s) n why e one' two' =
      let p : m ≡ n = cc in
      let q : x ≡ why = cc in
      two' room (rw (← p, ← q) f) (rw (← p) s) refl
  refused_cases j (in-dirt room all d) n why e one' two' = let z : ◌≡◌ {A = ℕ} 0 1 = cc in absurd (omega arith)
  refused_cases j (in_order room all o) n why e one' two' = let z : ◌≡◌ {A = ℕ} 0 1 = cc in absurd (omega arith)
  refused_cases j (in-knot room all k) n why e one' two' = let z : ◌≡◌ {A = ℕ} 0 1 = cc in absurd (omega arith)

  -- refusal 14, with line number 0, is given exactly if the buffer has fewer than 255 places, whatever the text is
  pub short_exactly : ((judgement_of text buffer).said ≡ No 0 ShortOrder) ↔ (length buffer < 255)
  short_exactly = (
    λ e. refused_cases (judgement_of text buffer) (answers text buffer) 0 ShortOrder e (λ n w h l o. h) (λ room f s o. let one : 1 ≤ 0 = f.from in absurd (omega arith)),
    λ h. ap (λ j. j.said) ((answers_exactly text buffer _).0 (short h)),
  )

  -- no other refusal has line number 0
  pub line_0_short : (why : Refusal) → (judgement_of text buffer).said ≡ No 0 why → why ≡ ShortOrder
  line_0_short why e =
      refused_cases (judgement_of text buffer) (answers text buffer) 0 why e (λ n w h l o. w) (λ room f s o. let one : 1 ≤ 0 = f.from in absurd (omega arith))

  -- a line is refused exactly if the buffer has its 255 places, the lines before it are faultless, and the refusal is the first of 11, 9, 12, 2, 13 whose row holds for it
  pub refused_exactly : (n : ℕ) (why : Refusal) → 1 ≤ n → ((judgement_of text buffer).said ≡ No n why) ↔ ((255 ≤ length buffer) × FirstFault (readings_of text) n why)
  refused_exactly n why h = (
    λ e. refused_cases (judgement_of text buffer) (answers text buffer) n why e (λ z w g l o. absurd (omega arith)) (λ room f s o. (room, f)),
    λ g. ap (λ j. j.said) ((answers_exactly text buffer _).0 (faulty g.0 g.1 (bare_stands text n g.1.from g.1.to))),
  )

  -- with a refusal of a line, that line is handed back as it stands in the text, without its newline
  pub line_handed_back : (n : ℕ) (why : Refusal) → 1 ≤ n → (judgement_of text buffer).said ≡ No n why → Stands text n (judgement_of text buffer).line
  line_handed_back n why h e =
      refused_cases (judgement_of text buffer) (answers text buffer) n why e (λ z w g l o. absurd (omega arith)) (λ room f s o. s)

  -- in all other answers the part handed back is empty
  no_line : (j : Judgement) → Answers text buffer j → ((n : ℕ) (why : Refusal) → 1 ≤ n → j.said ≡ No n why → ⊥) → j.line ≡ []
  no_line j (short h) other = refl
  no_line j (faulty {n = n} {why = why} room f s) other = absurd (other n why f.from refl)
  no_line j (in-dirt room all d) other = refl
  no_line j (in_order room all o) other = refl
  no_line j (in-knot room all k) other = refl

  -- in all other answers, and for refusal 14, the part handed back is empty
  pub else_empty : ((n : ℕ) (why : Refusal) → 1 ≤ n → (judgement_of text buffer).said ≡ No n why → ⊥) → (judgement_of text buffer).line ≡ []
  else_empty other = no_line (judgement_of text buffer) (answers text buffer) other

  -- and stands at the text's first byte
  at_start : (j : Judgement) → Answers text buffer j → ((n : ℕ) (why : Refusal) → 1 ≤ n → j.said ≡ No n why → ⊥) → line_from text j.said ≡ 0
  unfolding line_from joined
  at_start j (short h) other = refl
  at_start j (faulty {n = n} {why = why} room f s) other = absurd (other n why f.from refl)
  at_start j (in-dirt room all d) other = refl
  at_start j (in_order room all o) other = refl
  at_start j (in-knot room all k) other = refl

  -- if no line is at fault, the empty part handed back is at the text's first byte, and not at its end
  pub else_at_start : ((n : ℕ) (why : Refusal) → 1 ≤ n → (judgement_of text buffer).said ≡ No n why → ⊥) → line_from text (judgement_of text buffer).said ≡ 0
  else_at_start other = at_start (judgement_of text buffer) (answers text buffer) other

  -- an answer hands back the bytes from the line's place on
  handed_there : (j : Judgement) → Answers text buffer j → take (length j.line) (drop (line_from text j.said) text) ≡ j.line
  unfolding line_from
  handed_there j (short h) = refl
  handed_there j (faulty {n = n} {line = line} room f s) = stands_behind text n line s
  handed_there j (in-dirt room all d) = refl
  handed_there j (in_order room all o) = refl
  handed_there j (in-knot room all k) = refl

  -- what is handed back is what stands at its place in the text
  pub handed_from : take (length (judgement_of text buffer).line) (drop (line_from text (judgement_of text buffer).said) text) ≡ (judgement_of text buffer).line
  handed_from = handed_there (judgement_of text buffer) (answers text buffer)

  -- after a refusal the order buffer holds what it held
  pub refusal_keeps : (n : ℕ) (why : Refusal) → (judgement_of text buffer).said ≡ No n why → (judgement_of text buffer).order ≡ buffer
  refusal_keeps n why e = refused_cases (judgement_of text buffer) (answers text buffer) n why e (λ z w g l o. o) (λ room f s o. o)

-- a refusal that is due for a line is one whose row of the table holds for it
pub due_holds : (rs : List Reading) (n : ℕ) (why : Refusal) → Due rs n why → holds n (lines_before rs n) (reading_at rs n) why ≡ true
unfolding table_says
due_holds rs n why e = first_holds (holds n (lines_before rs n) (reading_at rs n)) order why e
