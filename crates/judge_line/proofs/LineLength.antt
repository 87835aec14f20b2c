-- The verdict's line has at most 1,028 bytes: seven of the word, four for each of 255 jobs, and the newline (01, The judge's rules).
-- Assumes nothing.
use Rattle.std.specs.Prelude.{Option, None, Some}
use Prim.Native.Nat.{ℕ, suc, ◌+◌, ◌*◌, ◌≤◌}
use mathlib.Core.Path.{◌≡◌, refl, sym, ap, ◌∙◌, subst}
use mathlib.Core.Bool.{true}
use mathlib.Core.List.{List, [], ◌∷◌}
use native.Mathlib.Nat.{zero-add}
use native.Mathlib.Omega.{arith}
use borrow.Author.Tests.{le-leb, le-ltb}
use lib.Dec.{ltb}
use lib.ListN.{length, take, replicate, length-append, length-replicate}
use Rattle.std.specs.Prelude.{Ok}
use Rattle.laws.specs.Choice.{by_test}
use Rattle.laws.specs.Lists.{member, distinct}
use Rattle.laws.proofs.Filled.{filled_first}
use Rattle.laws.proofs.Lists.{member_first, member_more}
use Rattle.terms.specs.declared.refusals.Refusal.{Refusal}
use Rattle.terms.specs.declared.refusals.Refusal.TheVariants.{TooLong}
use Rattle.terms.specs.declared.words.Word as word
use Rattle.terms.specs.declared.words.Word.{Word}
use Rattle.terms.specs.Limits.{judged_jobs, judged_lines, judged_bytes}
use Rattle.terms.specs.Refusals.{number_of, field_of}
use Rattle.terms.specs.Words.{tab}
use Rattle.terms.proofs.Numbers.{within_table, beside_at_most_4}
use Rattle.conflict.specs.History.{is_commit, marked}
use Rattle.conflict.specs.Dirty.{ReadOf, dirty_of}
use Rattle.conflict.proofs.DirtyFound.{dirty_exactly}
use Rattle.text_rules.specs.Decimal.{decimal}
use Rattle.text_rules.specs.Records.{fits, told, left, tabbed, word_line, given}
use Rattle.text_rules.proofs.DigitLaws.{digits_at_most}
use Rattle.text.proofs.WordLaws.{word_at_most_7}
use Rattle.text_rules.proofs.WriterLaws.{told_next, left_text}
use Rattle.judge_rules.specs.Judged.{orderly, knotted, finding_of}
use Rattle.judge_rules.specs.LineTable.{AllFaultless}
use Rattle.judge_rules.specs.HistoryText.{readings_of, Faulty, first_faulty, events_in, Tells}
use Rattle.judge_rules.specs.Judgement.{say_finding, say_history, say_lines, judgement_of}
use Rattle.judge_rules.proofs.Deciding.{by_finding}
use Rattle.judge_rules.proofs.FewJobs.{at_most_255, committed_within}
use Rattle.judge_rules.proofs.Histories.{jobs_committed, order_once, order_names, knot_shows}
use Rattle.judge_rules.proofs.LineFaults.{finds_fault}
use Rattle.judge.proofs.FewLines.{number_few}
use Rattle.judge_rules.specs.VerdictLine.{say_line, judged_line, verdict_of, line_limit}
use Rattle.judge_rules.proofs.DirtyJobs.{dirty_within}
use Rattle.judge_line.proofs.WordLines.{word_line_length, two_numbers_length, given_at_most_2}
use Rattle.text_rules.specs.Lines.{Reading}

-- jobs of at most three digits have at most four bytes each, the tab among them
tabbed_at_most : (js : List ℕ) → ((j : ℕ) → member j js ≡ true → j ≤ judged_jobs) → length (tabbed js) ≤ 4 * length js
unfolding tabbed
tabbed_at_most [] r = omega arith
tabbed_at_most (j ∷ js) r =
    let h = r j (member_first j js) in
    omega (
      arith,
      digits_at_most 2 j (omega arith),
      length-append (tab ∷ decimal j) (tabbed js),
      tabbed_at_most js (λ k m. r k (member_more j js k m)),
    )

-- a line of a word and jobs 1 to 255, none twice
jobs_at_most : (w : Word) (js : List ℕ) → distinct js ≡ true → ((j : ℕ) → member j js ≡ true → (1 ≤ j) × (j ≤ 255)) → length (word_line w js) ≤ line_limit
jobs_at_most w js once r =
    omega (arith, word_line_length w js, word_at_most_7 w, tabbed_at_most js (λ j m. (r j m).1), at_most_255 js once r)

-- a line of the word no, a line number up to 4,097, a refusal, and of a bad line the field at fault
no_at_most : (n : ℕ) (why : Refusal) → n ≤ suc judged_lines → length (word_line word.TheVariants.No (n ∷ number_of why ∷ given (field_of why))) ≤ line_limit
no_at_most n why h =
    let r = within_table why in
    let f = beside_at_most_4 why in
    omega (
      arith,
      two_numbers_length word.TheVariants.No n (number_of why) (given (field_of why)),
      digits_at_most 3 n (omega arith),
      digits_at_most 1 (number_of why) (omega arith),
      given_at_most_2 (field_of why) (omega arith),
    )

module _ (ls : List Reading) (e : first_faulty 1 [] ls ≡ None) (buffer : List ℕ) where
  -- no line has a fault
  faultless : AllFaultless ls
  faultless = subst (Tells ls) e (finds_fault ls)

  -- a job with a c is 1 to 255
  within : (j : ℕ) → marked is_commit j (events_in ls) ≡ true → (1 ≤ j) × (j ≤ 255)
  within = committed_within ls faultless

  -- the line of an order
  order_at_most : (order : List ℕ) → finding_of (events_in ls) ≡ orderly order → length (word_line word.TheVariants.Orderly order) ≤ line_limit
  order_at_most order v =
      jobs_at_most word.TheVariants.Orderly order (order_once (events_in ls) order v) (λ j m. within j (sym (order_names (events_in ls) order v j) ∙ m))

  -- the line of a knot
  knot_at_most : (js : List ℕ) → finding_of (events_in ls) ≡ knotted js → length (word_line word.TheVariants.Knot js) ≤ line_limit
  knot_at_most js v =
      let k = knot_shows (events_in ls) js v in
      jobs_at_most word.TheVariants.Knot js k.once (λ j m. within j (sym (jobs_committed (events_in ls) j) ∙ k.only j m))

  -- the line of an order or a knot
  said_at_most : let j = say_finding buffer (finding_of (events_in ls)) in length (say_line j.said j.order) ≤ line_limit
  unfolding say_finding say_line
  said_at_most =
      by_finding (finding_of (events_in ls))
      (λ order v. rw v (rw filled_first (order_at_most order v)))
      (λ js v. rw v (rw filled_first (knot_at_most js v)))

  -- the line of a dirty read
  dirty_at_most : (d : ReadOf) → dirty_of (events_in ls) ≡ Some d → length (word_line word.TheVariants.Dirty (d.reader ∷ d.writer ∷ [])) ≤ line_limit
  unfolding tabbed
  dirty_at_most d v =
      let w = dirty_within ls faultless d.reader d.writer ((dirty_exactly (events_in ls) d.reader d.writer).1 v) in
      omega (
        arith,
        two_numbers_length word.TheVariants.Dirty d.reader d.writer [],
        digits_at_most 2 d.reader (omega (arith, w.0.1)),
        digits_at_most 2 d.writer (omega (arith, w.1.1)),
      )

  -- the line of a verdict on faultless lines
  history_at_most : (o : Option ReadOf) → dirty_of (events_in ls) ≡ o → let j = say_history buffer (events_in ls) o in length (say_line j.said j.order) ≤ line_limit
  unfolding say_history say_line
  history_at_most None v = said_at_most
  history_at_most (Some d) v = dirty_at_most d v

-- the line on any lines
lines_at_most : (buffer text : List ℕ) (o : Option Faulty) → first_faulty 1 [] (readings_of text) ≡ o → let j = say_lines buffer text o in length (say_line j.said j.order) ≤ line_limit
unfolding say_lines say_line
lines_at_most buffer text None e = history_at_most (readings_of text) e buffer (dirty_of (events_in (readings_of text))) refl
lines_at_most buffer text (Some f) e = no_at_most f.number f.why (number_few 1 [] (readings_of text) f (omega arith) e)

-- the line on a text of any length, with an order buffer that is long enough
buffer_at_most : (text buffer : List ℕ) → judged_jobs ≤ length buffer →
    length (say_line (judgement_of text buffer).said (judgement_of text buffer).order) ≤ line_limit
unfolding judgement_of
buffer_at_most text buffer h = rw (le-ltb (length buffer) judged_jobs h) (lines_at_most buffer text (first_faulty 1 [] (readings_of text)) refl)

-- so is that of the verdict program's buffer
pub judged_at_most : (text : List ℕ) → length (judged_line text) ≤ 1_028
unfolding judged_line
judged_at_most text = buffer_at_most text (replicate judged_jobs 0) (omega (arith, length-replicate {A = ℕ} judged_jobs 0))

-- the verdict's line on any text has at most 1,028 bytes
pub verdict_at_most : (text : List ℕ) → length (verdict_of text) ≤ 1_028
unfolding verdict_of given
verdict_at_most text =
    by_test (ltb judged_bytes (length text)) (λ t. rw t (no_at_most 0 TooLong (omega arith))) (λ f. rw f (judged_at_most text))

-- so it fits into every buffer that has as many
verdict_fits : (b text : List ℕ) → line_limit ≤ length b → fits b 0 (verdict_of text) ≡ true
unfolding fits
verdict_fits b text h = le-leb (0 + length (verdict_of text)) (length b) (omega (arith, verdict_at_most text))

-- the place after it is told
pub verdict_told : (b text : List ℕ) → 1_028 ≤ length b → told b 0 (verdict_of text) ≡ Ok (length (verdict_of text))
verdict_told b text h = told_next b 0 (verdict_of text) (verdict_fits b text h) ∙ ap Ok (zero-add (length (verdict_of text)))

-- and it stands at the buffer's first places
pub verdict_left : (b text : List ℕ) → 1_028 ≤ length b → take (length (verdict_of text)) (left b 0 (verdict_of text)) ≡ verdict_of text
verdict_left b text h =
    ap (λ k. take k (left b 0 (verdict_of text))) (sym (zero-add (length (verdict_of text))))
    ∙ left_text b 0 (verdict_of text) (verdict_fits b text h)
