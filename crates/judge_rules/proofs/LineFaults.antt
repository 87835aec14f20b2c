-- The judge's walk along the lines finds the table's first fault: the jobs it keeps as ended are those that the lines before say (01, Refusals by number).
-- Assumes nothing.
use Rattle.std.specs.Prelude.{Option, None, Some}
use Prim.Native.Nat.{ℕ, suc, ◌+◌, ◌-◌, ◌≤◌, ◌<◌}
use mathlib.Core.Path.{◌≡◌, refl, sym, ap, ap₂, ◌∙◌, subst}
use mathlib.Core.Logic.{◌≢◌}
use mathlib.Core.Bool.{not, ◌&&◌, ◌||◌}
use mathlib.Core.List.{List, [], ◌∷◌, ◌++◌, append-nil, append_assoc}
use native.Mathlib.Omega.{arith}
use lib.Dec.{eqb, ltb, leb}
use lib.ListN.{length, length-append}
use lib.Seq.{take_at, get_or_at}
use borrow.Author.Tests.{eqb-true, eqb-false, eq-eqb, ne_eqb, ltb-true, ltb-false, le-leb, lt-leb}
use Rattle.std.specs.Prelude.{Err, Ok}
use Rattle.laws.specs.Choice.{pick, by_test}
use Rattle.laws.specs.Lists.{member, first_of}
use Rattle.laws.proofs.Parts.{or_swap}
use Rattle.terms.specs.declared.letters.Letter.{Letter}
use Rattle.terms.specs.declared.letters.Letter.TheVariants.{Begin, Commit, GiveUp, Retry, Back, Asks}
use Rattle.terms.specs.declared.refusals.Field.TheVariants.{First, Second, Third, Fourth}
use Rattle.terms.specs.declared.refusals.Refusal.{Refusal}
use Rattle.terms.specs.declared.refusals.Refusal.TheVariants.{TooManyLines}
use Rattle.terms.specs.Limits.{judged_jobs, judged_lines}
use Rattle.judge_rules.specs.HistoryText.{fault_of_good, fault_of, line_fault, ended_after, Faulty, or_later, first_faulty, Tells}
use Rattle.judge_rules.specs.LineTable.{reading_at, lines_before, ends, ended_in, holds, order, table_says, Faultless}
use Rattle.text_rules.specs.Lines.{Reading, good}

-- the jobs kept as ended are those with a c or an a on the lines before
abbrev pub Keeps : List ℕ → List Reading → Type 0
Keeps ended before = (j : ℕ) → member j ended ≡ ended_in j before

-- before the first line no job has ended
pub none_ended : Keeps [] []
unfolding member ended_in
none_ended j = refl

-- one more line at the end
ended_more : (j : ℕ) (before : List Reading) (r : Reading) → ended_in j (before ++ r ∷ []) ≡ (ends j r || ended_in j before)
unfolding ended_in
ended_more j [] r = refl
ended_more j (b ∷ before) r = ap (λ x. ends j b || x) (ended_more j before r) ∙ or_swap (ends j b) (ends j r) (ended_in j before)

-- a good line adds its job if it is a c or an a
keeps_good : (ended : List ℕ) (j : ℕ) (l : Letter) (job cell : ℕ) → member j (ended_after ended (good l job cell)) ≡ (ends j (good l job cell) || member j ended)
unfolding ended_after ends member
keeps_good ended j Begin job cell = refl
keeps_good ended j Commit job cell = refl
keeps_good ended j GiveUp job cell = refl
keeps_good ended j Retry job cell = refl
keeps_good ended j Back job cell = refl
keeps_good ended j (Asks a) job cell = refl

-- a line adds its job if it reads as a c or an a
keeps_reading : (ended : List ℕ) (j : ℕ) (r : Reading) → member j (ended_after ended r) ≡ (ends j r || member j ended)
unfolding ended_after ends member
keeps_reading ended j (Err at) = refl
keeps_reading ended j (Ok line) = keeps_good ended j line.letter line.job line.cell

-- after one more line the jobs kept as ended are the right ones
pub keeps_more : (ended : List ℕ) (before : List Reading) (r : Reading) → Keeps ended before → Keeps (ended_after ended r) (before ++ r ∷ [])
keeps_more ended before r k j = keeps_reading ended j r ∙ ap (λ x. ends j r || x) (k j) ∙ sym (ended_more j before r)

-- a job is outside 1 to 255 if it is 0 or above 255
outside_is : (job : ℕ) → (eqb job 0 || ltb judged_jobs job) ≡ not (leb 1 job && leb job judged_jobs)
outside_is job =
    by_test (eqb job 0)
    (λ t. let z : job ≡ 0 = eqb-true job 0 t in rw (t, lt-leb 1 job (omega arith)))
    (λ f. let p : job ≢ 0 = eqb-false job 0 f in
    by_test (ltb judged_jobs job)
    (λ t. let h : judged_jobs < job = ltb-true judged_jobs job t in rw (f, t, le-leb 1 job (omega arith), lt-leb job judged_jobs h))
    (λ g. let h : job ≤ judged_jobs = ltb-false judged_jobs job g in rw (f, g, le-leb 1 job (omega arith), le-leb job judged_jobs h)))

-- up to line 4,097, a line past 4,096 is line 4,097
too_many_is : (n : ℕ) → n ≤ suc judged_lines → ltb judged_lines n ≡ eqb n (suc judged_lines)
too_many_is n h =
    by_test (ltb judged_lines n)
    (λ t. let g : judged_lines < n = ltb-true judged_lines n t in t ∙ sym (eq-eqb n (suc judged_lines) (omega arith)))
    (λ f. let g : n ≤ judged_lines = ltb-false judged_lines n f in f ∙ sym (ne_eqb n (suc judged_lines) (omega arith)))

-- the judge's fault of a line, by how it reads, is the table's
reading_fault : (n : ℕ) (ended : List ℕ) (before : List Reading) (r : Reading) → n ≤ suc judged_lines → Keeps ended before →
    pick (ltb judged_lines n) (Some TooManyLines) (fault_of ended r) ≡ first_of (holds n before r) order
unfolding fault_of fault_of_good holds first_of order
reading_fault n ended before (Err First) h k = rw (too_many_is n h)
reading_fault n ended before (Err Second) h k = rw (too_many_is n h)
reading_fault n ended before (Err Third) h k = rw (too_many_is n h)
reading_fault n ended before (Err Fourth) h k = rw (too_many_is n h)
reading_fault n ended before (Ok line) h k = rw (too_many_is n h, outside_is line.job, k line.job)

-- the judge's fault of a line is the table's
pub line_fault_lem : (n : ℕ) (ended : List ℕ) (before : List Reading) (r : Reading) → n ≤ suc judged_lines → Keeps ended before → line_fault n ended r ≡ table_says n before r
unfolding line_fault table_says
line_fault_lem n ended before r h k = reading_fault n ended before r h k

-- a line past 4,096 has a fault
pub few_lines : (n : ℕ) (ended : List ℕ) (r : Reading) → line_fault n ended r ≡ None → n ≤ judged_lines
unfolding line_fault
few_lines n ended r e =
    by_test (ltb judged_lines n) (λ t. let q : Some TooManyLines ≡ None = rw t at e in let z : ◌≡◌ {A = ℕ} 0 1 = cc in absurd (omega arith))
    (λ f. ltb-false judged_lines n f)

-- the table speaks of line n by the lines before it and by how it reads, whatever follows
said_of : (before : List Reading) (r : Reading) (after : List Reading) → let n : ℕ = suc (length before) in
    (table_says n (lines_before (before ++ r ∷ after) n) (reading_at (before ++ r ∷ after) n) ≡ table_says n before r)
said_of before r after =
    ap₂ (table_says (suc (length before))) (take_at before (r ∷ after) (suc (length before) - 1) (omega arith))
    (get_or_at before r after (Err First) (suc (length before) - 1) (omega arith))

module _ (whole before : List Reading) (l : Reading) (ls : List Reading) (n : ℕ) (ended : List ℕ) (w : whole ≡ before ++ l ∷ ls)
    (e : n ≡ suc (length before)) (h : n ≤ suc judged_lines) (k : Keeps ended before) (good : (m : ℕ) → 1 ≤ m → m < n → Faultless whole m) where
  -- the judge's fault of line n is what the table says of it
  fault_at : line_fault n ended l ≡ table_says n (lines_before whole n) (reading_at whole n)
  fault_at = line_fault_lem n ended before l h k ∙ sym (rw (w, e) (said_of before l ls))

  -- if line n has no fault, the lines up to it are faultless
  good_more : line_fault n ended l ≡ None → (m : ℕ) → 1 ≤ m → m < suc n → Faultless whole m
  good_more q m a b =
      by_test (eqb m n) (λ t. subst (Faultless whole) (sym (eqb-true m n t)) (sym fault_at ∙ q))
      (λ f. let other' : m ≢ n = eqb-false m n f in good m a (omega arith))

  -- line n decides if it has a fault, else the lines after it
  line_tells : (o : Option Refusal) (later : Option Faulty) → line_fault n ended l ≡ o → (line_fault n ended l ≡ None → Tells whole later) → Tells whole (or_later o n later)
  unfolding or_later
  line_tells None later q next = next q
  line_tells (Some why) later q next =
      let size : length whole ≡ length before + suc (length ls) = ap length w ∙ length-append before (l ∷ ls) in
      record { from = omega arith; to = omega arith; before = good; due = sym fault_at ∙ q }

-- from line n on, if the lines before it are faultless
walks : (whole before ls : List Reading) (n : ℕ) (ended : List ℕ) → whole ≡ before ++ ls → n ≡ suc (length before) → n ≤ suc judged_lines → Keeps ended before →
    ((m : ℕ) → 1 ≤ m → m < n → Faultless whole m) → Tells whole (first_faulty n ended ls)
unfolding first_faulty
walks whole before [] n ended w e h k good =
    let size : length whole ≡ length before = ap length (w ∙ append-nil before) in
    λ m a b. good m a (omega arith)
walks whole before (l ∷ ls) n ended w e h k good =
    line_tells whole before l ls n ended w e h k good (line_fault n ended l) _ refl
    (λ q.
    let few : n ≤ judged_lines = few_lines n ended l q in
    walks whole (before ++ l ∷ []) ls (suc n) (ended_after ended l) (w ∙ sym (append_assoc before (l ∷ []) ls))
    (omega (arith, length-append before (l ∷ []))) (omega arith) (keeps_more ended before l k) (good_more whole before l ls n ended w e h k good q))

-- the judge finds the table's first faulty line, or that every line is faultless
pub finds_fault : (ls : List Reading) → Tells ls (first_faulty 1 [] ls)
finds_fault ls = walks ls [] ls 1 [] refl refl (omega arith) none_ended (λ m a b. absurd (omega arith))
