-- The judge's verdict has small numbers: no order or knot is longer than the history, and no line number is above 4,097.
-- Assumes nothing.
use Rattle.std.specs.Prelude.{Option, None, Some}
use Prim.Native.Nat.{ℕ, suc, ◌≤◌}
use mathlib.Core.Path.{◌≡◌, refl, sym, ◌∙◌}
use mathlib.Core.Bool.{Bool, true, false}
use mathlib.Core.List.{List, [], ◌∷◌}
use native.Mathlib.Omega.{arith}
use lib.Dec.{ltb, eqb}
use lib.ListN.{length}
use Rattle.laws.specs.Choice.{by_test}
use Rattle.laws.specs.Lists.{put}
use Rattle.laws.specs.Sorted.{insert, sorted}
use Rattle.terms.specs.Limits.{judged_jobs, judged_lines}
use Rattle.conflict.specs.declared.action.Event.TheVariants.{Does, Ends}
use Rattle.conflict.specs.History.{History, is_commit, commit_order}
use Rattle.conflict.specs.Dirty.{ReadOf, dirty_of}
use Rattle.conflict.proofs.OneEvent.{order_none, order_does, order_ends}
use Rattle.judge_rules.specs.Judged.{orderly, knotted, jobs_of, finding_of}
use Rattle.judge_rules.specs.HistoryText.{readings_of, Faulty, first_faulty, events_in}
use Rattle.judge_rules.specs.Judgement.{say_finding, say_history, say_lines, judgement_of}
use Rattle.judge_rules.proofs.Walking.{no_more}
use Rattle.judge_rules.proofs.Deciding.{by_finding}
use Rattle.judge_rules.proofs.Histories.{jobs_committed, order_once, order_names, knot_shows}
use Rattle.judge.specs.Judged.{Small}
use Rattle.judge.proofs.FewLines.{lines_few, number_few, events_few}

-- one more job in its place is at most one more
insert_few : (j : ℕ) (ks : List ℕ) → length (insert j ks) ≤ suc (length ks)
unfolding insert
insert_few j [] = omega arith
insert_few j (k ∷ ks) =
    by_test (ltb j k) (λ t. rw t (omega arith))
    (λ f. by_test (eqb j k) (λ t. rw (f, t) (omega arith)) (λ g. rw (f, g) (omega (arith, insert_few j ks))))

-- the jobs in order are at most as many as were named
sorted_few : (js : List ℕ) → length (sorted js) ≤ length js
unfolding sorted
sorted_few [] = omega arith
sorted_few (j ∷ js) = omega (arith, insert_few j (sorted js), sorted_few js)

-- a job is put in front, or it is not
put_few : (b : Bool) (i : ℕ) (js : List ℕ) → length (put b i js) ≤ suc (length js)
unfolding put
put_few true i js = omega arith
put_few false i js = omega arith

-- a history has at most as many commits as lines
commits_few : (h : History) → length (commit_order h) ≤ length h
commits_few [] = rw order_none (omega arith)
commits_few (Does a ∷ h) = rw (order_does a h) (omega (arith, commits_few h))
commits_few (Ends m i ∷ h) = rw (order_ends m i h) (omega (arith, put_few (is_commit m) i (commit_order h), commits_few h))

-- and at most as many committed jobs
pub jobs_few : (h : History) → length (jobs_of h) ≤ length h
unfolding jobs_of
jobs_few h = omega (arith, sorted_few (commit_order h), commits_few h)

-- an order is no longer than the history
order_few : (h : History) (order : List ℕ) → finding_of h ≡ orderly order → length order ≤ length h
order_few h order e =
    omega (arith, jobs_few h, no_more order (jobs_of h) (order_once h order e) (λ j m. jobs_committed h j ∙ sym (order_names h order e j) ∙ m))

-- a knot is no longer than the history
knot_few : (h : History) (js : List ℕ) → finding_of h ≡ knotted js → length js ≤ length h
knot_few h js e = let k = knot_shows h js e in omega (arith, jobs_few h, no_more js (jobs_of h) k.once k.only)

-- what is found of a short history has small numbers
finding_small : (buffer : List ℕ) (h : History) → length h ≤ judged_lines → Small (say_finding buffer (finding_of h)).said
unfolding say_finding
finding_small buffer h few =
    by_finding (finding_of h)
    (λ order q. rw q (omega (arith, order_few h order q)))
    (λ js q. rw q (omega (arith, knot_few h js q)))

-- and so has what is said of it
history_small : (buffer : List ℕ) (h : History) (o : Option ReadOf) → length h ≤ judged_lines → Small (say_history buffer h o).said
unfolding say_history
history_small buffer h None few = finding_small buffer h few
history_small buffer h (Some d) few = tt

-- and what is said of lines
lines_small : (buffer text : List ℕ) (o : Option Faulty) → first_faulty 1 [] (readings_of text) ≡ o → Small (say_lines buffer text o).said
unfolding say_lines
lines_small buffer text None e =
    history_small buffer (events_in (readings_of text)) (dirty_of (events_in (readings_of text))) (omega (arith, events_few (readings_of text), lines_few 1 [] (readings_of text) (omega arith) e))
lines_small buffer text (Some f) e = omega (arith, number_few 1 [] (readings_of text) f (omega arith) e)

-- every verdict of the judge has small numbers
pub judgement_small : (text buffer : List ℕ) → Small (judgement_of text buffer).said
unfolding judgement_of
judgement_small text buffer =
    by_test (ltb (length buffer) judged_jobs) (λ t. rw t (omega arith)) (λ f. rw f (lines_small buffer text (first_faulty 1 [] (readings_of text)) refl))
