-- There is no second answer: what the paper asks of the judge's answer fixes the line number, the refusal, the line handed back, the length and the buffer (01, How much a contract says).
-- Assumes nothing.
use Rattle.std.specs.Prelude.{Option, None, Some}
use Prim.Native.Nat.{ℕ, ◌≤◌, ◌<◌}
use mathlib.Core.Path.{◌≡◌, refl, sym, ap, ap₂, ◌∙◌, subst}
use mathlib.Core.Logic.{◌↔◌}
use mathlib.Core.List.{List, [], ◌∷◌}
use native.Mathlib.Omega.{arith}
use lib.Dec.{ltb}
use lib.ListN.{length}
use borrow.Author.Tests.{ltb-true, ltb-false, lt-ltb, le-ltb}
use Rattle.laws.specs.Choice.{by_test}
use Rattle.terms.specs.declared.refusals.Refusal.{Refusal}
use Rattle.terms.specs.declared.refusals.Refusal.TheVariants.{ShortOrder}
use Rattle.terms.specs.Limits.{judged_jobs}
use Rattle.conflict.specs.Dirty.{IsDirty, FirstDirty, dirty_of}
use Rattle.conflict.proofs.DirtyFound.{dirty_exactly, clean_exactly}
use Rattle.text_rules.specs.Split.{lines_of}
use Rattle.judge_rules.specs.declared.verdict.Verdict.TheVariants.{Orderly, Knot, Dirty, No}
use Rattle.judge_rules.specs.Judged.{orderly, knotted, finding_of}
use Rattle.judge_rules.specs.Meant.Says.{says_order, says_cycle}
use Rattle.judge_rules.specs.HistoryText.{readings_of, line_at, Faulty, first_faulty, events_in, bare, Tells}
use Rattle.laws.specs.Lists.{filled}
use Rattle.laws.proofs.Filled.{fills_only}
use Rattle.judge_rules.specs.Judgement.{Judgement, say_finding, say_history, say_lines, judgement_of}
use Rattle.judge_rules.specs.LineTable.{Faultless, Due, FirstFault, AllFaultless}
use Rattle.judge_rules.specs.Answers.{Answers}
use Rattle.judge_rules.specs.Answers.Answers.{short, faulty, in-dirt, in_order, in-knot}
use Rattle.judge_rules.proofs.Histories.{finding_exactly}
use Rattle.judge_rules.proofs.LineFaults.{finds_fault}
use Rattle.judge_rules.proofs.LineBack.{stands_only}
use Rattle.judge_rules.proofs.Answering.{answers}
use Rattle.text_rules.specs.Lines.{Reading}

-- a line is not both faultless and refused
never_both : {P : Type 0} (ls : List Reading) (n : ℕ) (why : Refusal) → Faultless ls n → Due ls n why → P
never_both ls n why f d = let q : ◌≡◌ {A = Option Refusal} None (Some why) = sym f ∙ d in let z : ◌≡◌ {A = ℕ} 0 1 = cc in absurd (omega arith)

-- at most one line is the first faulty one, for one reason
pub one_fault : (ls : List Reading) (m n : ℕ) (x y : Refusal) → FirstFault ls m x → FirstFault ls n y → (m ≡ n) × (x ≡ y)
one_fault ls m n x y f g =
    by_test (ltb m n) (λ t. never_both ls m x (g.before m f.from (ltb-true m n t)) f.due)
    (λ a. by_test (ltb n m) (λ t. never_both ls n y (f.before n g.from (ltb-true n m t)) g.due)
    (λ b.
    let up : n ≤ m = ltb-false m n a in
    let down : m ≤ n = ltb-false n m b in
    let e : m ≡ n = omega arith in
    let d : Due ls n x = rw (← e) f.due in
    let s : ◌≡◌ {A = Option Refusal} (Some x) (Some y) = sym d ∙ g.due in
    (e, cc)))

-- if every line is faultless, none is refused
pub no_fault : {P : Type 0} (ls : List Reading) (n : ℕ) (why : Refusal) → AllFaultless ls → FirstFault ls n why → P
no_fault ls n why all f = never_both ls n why (all n f.from f.to) f.due

-- two answers that say, leave and hand back the same are equal
same_answer : {j k : Judgement} → j.said ≡ k.said → j.order ≡ k.order → j.line ≡ k.line → j ≡ k
same_answer e f g = λ i. record { said = e i; order = f i; line = g i }

module _ (text buffer : List ℕ) where
  -- if the buffer is too short, 14 is the answer
  short_is : length buffer < judged_jobs → judgement_of text buffer ≡ record { said = No 0 ShortOrder; order = buffer; line = [] }
  unfolding judgement_of
  short_is h = rw (lt-ltb (length buffer) judged_jobs h)

  module _ (room : judged_jobs ≤ length buffer) where
    -- else the lines decide
    lines_decide : judgement_of text buffer ≡ say_lines buffer text (first_faulty 1 [] (readings_of text))
    unfolding judgement_of
    lines_decide = rw (le-ltb (length buffer) judged_jobs room)

    -- if a line is the first faulty one, its refusal is the answer
    fault_by : (n : ℕ) (why : Refusal) → FirstFault (readings_of text) n why → (o : Option Faulty) → Tells (readings_of text) o →
        say_lines buffer text o ≡ record { said = No n why; order = buffer; line = bare (line_at (lines_of text) n) }
    unfolding say_lines
    fault_by n why f None t = no_fault (readings_of text) n why t f
    fault_by n why f (Some g) t =
        let s = one_fault (readings_of text) g.number n g.why why t f in
        same_answer (ap₂ No s.0 s.1) refl (ap (λ m. bare (line_at (lines_of text) m)) s.0)

    -- if every line is faultless, the verdict is the answer
    verdict_by : AllFaultless (readings_of text) → (o : Option Faulty) → Tells (readings_of text) o → say_lines buffer text o ≡ say_history buffer (events_in (readings_of text)) (dirty_of (events_in (readings_of text)))
    unfolding say_lines
    verdict_by all None t = refl
    verdict_by all (Some g) t = no_fault (readings_of text) g.number g.why all t

    -- so the first faulty line decides
    fault_is : (n : ℕ) (why : Refusal) → FirstFault (readings_of text) n why → judgement_of text buffer ≡ record { said = No n why; order = buffer; line = bare (line_at (lines_of text) n) }
    fault_is n why f = lines_decide ∙ fault_by n why f (first_faulty 1 [] (readings_of text)) (finds_fault (readings_of text))

    -- and a faultless text gets the verdict
    verdict_is : AllFaultless (readings_of text) → judgement_of text buffer ≡ say_history buffer (events_in (readings_of text)) (dirty_of (events_in (readings_of text)))
    verdict_is all = lines_decide ∙ verdict_by all (first_faulty 1 [] (readings_of text)) (finds_fault (readings_of text))

    -- if it is dirty, reader and writer are told
    dirt_is : AllFaultless (readings_of text) → (i j : ℕ) → FirstDirty (events_in (readings_of text)) i j → judgement_of text buffer ≡ record { said = Dirty i j; order = filled (i ∷ j ∷ []) buffer; line = [] }
    unfolding say_history
    dirt_is all i j f = verdict_is all ∙ ap (say_history buffer (events_in (readings_of text))) ((dirty_exactly (events_in (readings_of text)) i j).0 f)

    -- and if it is not, the order or the knot
    clean_is : AllFaultless (readings_of text) → (IsDirty (events_in (readings_of text)) → ⊥) → judgement_of text buffer ≡ say_finding buffer (finding_of (events_in (readings_of text)))
    unfolding say_history
    clean_is all c = verdict_is all ∙ ap (say_history buffer (events_in (readings_of text))) ((clean_exactly (events_in (readings_of text))).0 c)

-- an answer that is one of the paper's is the judge's
answer_is : (text buffer : List ℕ) (j : Judgement) → Answers text buffer j → judgement_of text buffer ≡ j
unfolding say_finding
answer_is text buffer j (short h) = short_is text buffer h
answer_is text buffer j (faulty {n = n} {why = why} {line = line} room f s) =
    fault_is text buffer room n why f ∙ same_answer refl refl (sym (stands_only text n line s))
answer_is text buffer j (in-dirt {reader = i} {writer = k} room all d) =
    dirt_is text buffer room all i k d.first ∙ same_answer refl (sym (fills_only (i ∷ k ∷ []) buffer _ d.fills)) refl
answer_is text buffer j (in_order room all o) =
    clean_is text buffer room all o.clean
    ∙ ap (say_finding buffer) ((finding_exactly (events_in (readings_of text)) (orderly o.order)).0 (says_order o.smallest))
    ∙ same_answer (ap Orderly (sym o.count)) (sym (fills_only o.order buffer _ o.fills)) refl
answer_is text buffer j (in-knot room all k) =
    clean_is text buffer room all k.clean
    ∙ ap (say_finding buffer) ((finding_exactly (events_in (readings_of text)) (knotted k.knot)).0 (says_cycle k.takes k.walked))
    ∙ same_answer (ap Knot (sym k.count)) (sym (fills_only k.knot buffer _ k.fills)) refl

-- the judge's answer is the paper's, and there is no second one
pub answers_exactly : (text buffer : List ℕ) (j : Judgement) → Answers text buffer j ↔ (judgement_of text buffer ≡ j)
answers_exactly text buffer j = (answer_is text buffer j, λ e. subst (Answers text buffer) e (answers text buffer))
