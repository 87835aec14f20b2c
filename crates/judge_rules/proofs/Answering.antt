-- The judge's answer is one of the paper's: 14, the refusal of the first faulty line, or, for a faultless text, dirty, orderly or a knot (01, Refusals by number; 01, The judge's rules; 02, No. 2).
-- Assumes nothing.
use Rattle.std.specs.Prelude.{Option, None, Some}
use Prim.Native.Nat.{ℕ, ◌≤◌}
use mathlib.Core.Path.{◌≡◌, refl, sym, ◌∙◌}
use mathlib.Core.List.{List, [], ◌∷◌}
use native.Mathlib.Omega.{arith}
use lib.Dec.{ltb}
use lib.ListN.{length}
use borrow.Author.Tests.{ltb-true, ltb-false}
use Rattle.laws.specs.Choice.{by_test}
use Rattle.terms.specs.Limits.{judged_jobs}
use Rattle.conflict.specs.Schedule.{edge}
use Rattle.conflict.specs.History.{History, committed_part}
use Rattle.conflict.specs.Dirty.{IsDirty, ReadOf, dirty_of}
use Rattle.conflict.proofs.DirtyFound.{dirty_exactly, clean_exactly}
use Rattle.judge_rules.specs.Judged.{Finding, orderly, knotted, jobs_of, finding_of}
use Rattle.judge_rules.specs.Meant.{Knotted, Says}
use Rattle.judge_rules.specs.Meant.Says.{says_order, says_cycle}
use Rattle.judge_rules.specs.HistoryText.{readings_of, Faulty, first_faulty, events_in, Tells}
use Rattle.laws.specs.Lists.{filled}
use Rattle.laws.proofs.Filled.{fills}
use Rattle.judge_rules.specs.Judgement.{say_finding, say_history, say_lines, judgement_of}
use Rattle.judge_rules.specs.LineTable.{AllFaultless}
use Rattle.judge_rules.specs.Answers.{InOrder, InKnot, Answers}
use Rattle.judge_rules.specs.Answers.Answers.{short, faulty, in-dirt, in_order, in-knot}
use Rattle.judge_rules.proofs.Histories.{jobs_committed, order_serial, order_once, order_names, order_smallest, knot_shows, finding_exactly}
use Rattle.judge_rules.proofs.LineFaults.{finds_fault}
use Rattle.judge_rules.proofs.LineBack.{bare_stands}
use Rattle.judge_rules.proofs.FewJobs.{at_most_255, committed_within}

module _ (text buffer : List ℕ) (room : judged_jobs ≤ length buffer) (all : AllFaultless (readings_of text)) (clean : IsDirty (events_in (readings_of text)) → ⊥) where
  -- an order told for a faultless text is the paper's, and has at most 255 jobs
  order_told : (order : List ℕ) → finding_of (events_in (readings_of text)) ≡ orderly order → InOrder (events_in (readings_of text)) buffer (filled order buffer) (length order)
  order_told order v =
      let h : History = events_in (readings_of text) in
      let few : length order ≤ judged_jobs = at_most_255 order (order_once h order v) (λ j m. committed_within (readings_of text) all j (sym (order_names h order v j) ∙ m)) in
      record {
        clean = clean;
        order = order;
        fills = fills order buffer (omega arith);
        count = refl;
        most = few;
        serially = order_serial h order v;
        once = order_once h order v;
        names = order_names h order v;
        smallest = order_smallest h order v;
      }

  -- a knot told is the paper's, and has at most 255 jobs
  knot_by : (js : List ℕ) → finding_of (events_in (readings_of text)) ≡ knotted js → {w : Finding} → Says (edge (committed_part (events_in (readings_of text)))) (jobs_of (events_in (readings_of text))) w → w ≡ knotted js →
      InKnot (events_in (readings_of text)) buffer (filled js buffer) (length js)
  knot_by js v (says_order o) q = let z : ◌≡◌ {A = ℕ} 0 1 = cc in absurd (omega arith)
  knot_by js v (says_cycle {taken = taken} {rest = rest} {js = ks} t s) q =
      let h : History = events_in (readings_of text) in
      let k : Knotted (edge (committed_part h)) (jobs_of h) js = knot_shows h js v in
      let same-list : ks ≡ js = cc in
      let few : length js ≤ judged_jobs = at_most_255 js k.once (λ j m. committed_within (readings_of text) all j (sym (jobs_committed h j) ∙ k.only j m)) in
      record {
        clean = clean;
        knot = js;
        fills = fills js buffer (omega arith);
        count = refl;
        most = few;
        shows = k;
        taken = taken;
        remain = rest;
        takes = t;
        walked = rw (← same-list) s;
      }

  -- so the order or the knot of a faultless text that is not dirty is one of the paper's answers
  told : (v : Finding) → finding_of (events_in (readings_of text)) ≡ v → Answers text buffer (say_finding buffer v)
  unfolding say_finding
  told (orderly order) e = in_order room all (order_told order e)
  told (knotted js) e = in-knot room all (knot_by js e ((finding_exactly (events_in (readings_of text)) (knotted js)).1 e) refl)

-- so is what is said for a faultless text, given its first dirty read
history_told : (text buffer : List ℕ) → judged_jobs ≤ length buffer → AllFaultless (readings_of text) → (o : Option ReadOf) → dirty_of (events_in (readings_of text)) ≡ o → Answers text buffer (say_history buffer (events_in (readings_of text)) o)
unfolding say_history
history_told text buffer room all None e = told text buffer room all ((clean_exactly (events_in (readings_of text))).1 e) (finding_of (events_in (readings_of text))) refl
history_told text buffer room all (Some d) e =
    in-dirt room all (record { fills = fills (d.reader ∷ d.writer ∷ []) buffer (omega arith); first = (dirty_exactly (events_in (readings_of text)) d.reader d.writer).1 e })

-- what is said of the lines is one of the paper's answers
lines_told : (text buffer : List ℕ) → judged_jobs ≤ length buffer → (o : Option Faulty) → Tells (readings_of text) o → Answers text buffer (say_lines buffer text o)
unfolding say_lines
lines_told text buffer room None t = history_told text buffer room t (dirty_of (events_in (readings_of text))) refl
lines_told text buffer room (Some f) t =
    faulty room t (bare_stands text f.number t.from t.to)

-- the judge's answer is one of the paper's
pub answers : (text buffer : List ℕ) → Answers text buffer (judgement_of text buffer)
unfolding judgement_of
answers text buffer =
    by_test (ltb (length buffer) judged_jobs)
    (λ t. rw t (short (ltb-true (length buffer) judged_jobs t)))
    (λ f. rw f (lines_told text buffer (ltb-false (length buffer) judged_jobs f) (first_faulty 1 [] (readings_of text)) (finds_fault (readings_of text))))
