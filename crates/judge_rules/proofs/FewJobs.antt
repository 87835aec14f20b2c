-- The jobs of a faultless text are 1 to 255, so a list that names none of them twice has at most 255 (01, refusals 12 and 14).
-- Assumes nothing.
use Prim.Native.Nat.{ℕ, zero, suc, ◌-◌, ◌≤◌, ◌<◌}
use mathlib.Core.Path.{◌≡◌, refl, sym, ap, ◌∙◌, subst}
use mathlib.Core.Logic.{◌≢◌}
use mathlib.Core.Bool.{true, false, not, ◌&&◌}
use mathlib.Core.List.{List, [], ◌∷◌, ◌++◌}
use native.Mathlib.Omega.{arith}
use lib.Dec.{leb, eqb}
use lib.ListN.{length, get_or}
use borrow.Author.Tests.{eqb-true, eqb-false, leb-true, not-false}
use Rattle.std.specs.Prelude.{Err, Ok}
use Rattle.laws.specs.Choice.{by_test, not_both}
use Rattle.laws.specs.Lists.{member, distinct}
use Rattle.laws.proofs.Parts.{and_first, and_second, or_either}
use Rattle.terms.specs.declared.letters.Letter.{Letter}
use Rattle.terms.specs.declared.letters.Letter.TheVariants.{Begin, Commit, GiveUp, Retry, Back, Asks}
use Rattle.terms.specs.declared.refusals.Field.TheVariants.{First}
use Rattle.terms.specs.Limits.{judged_jobs}
use Rattle.conflict.specs.declared.action.Mark.{Mark}
use Rattle.conflict.specs.declared.action.Mark.TheVariants.{Commit as commits, GiveUp as gives_up, Back as goes_back}
use Rattle.conflict.specs.declared.action.Event.TheVariants.{Ends}
use Rattle.conflict.specs.History.{History, is_commit, marked}
use Rattle.conflict.proofs.OneEvent.{marked_none, marked_does, marked_ends}
use Rattle.judge_rules.specs.HistoryText.{event_of, events_in}
use Rattle.judge_rules.specs.LineTable.{outside, reading_at, lines_before, AllFaultless}
use Rattle.judge_rules.proofs.CleanLines.{clean_line}
use Rattle.judge_rules.proofs.Walking.{no_more}
use Rattle.text_rules.specs.Lines.{Reading, good}

-- the numbers from n down to 1
countdown : ℕ → List ℕ
countdown zero = []
countdown (suc n) = suc n ∷ countdown n

-- there are n of them
counted_length : (n : ℕ) → length (countdown n) ≡ n
unfolding countdown
counted_length zero = refl
counted_length (suc n) = ap suc (counted_length n)

-- every number from 1 to n is one of them
counted : (n j : ℕ) → 1 ≤ j → j ≤ n → member j (countdown n) ≡ true
unfolding countdown member
counted zero j a b = absurd (omega arith)
counted (suc n) j a b =
    by_test (eqb (suc n) j) (λ t. rw t) (λ f. let other' : suc n ≢ j = eqb-false (suc n) j f in rw f (counted n j a (omega arith)))

-- jobs from 1 to 255, none twice, are at most 255
pub at_most_255 : (js : List ℕ) → distinct js ≡ true → ((j : ℕ) → member j js ≡ true → (1 ≤ j) × (j ≤ judged_jobs)) → length js ≤ judged_jobs
at_most_255 js d within =
    omega (arith, no_more js (countdown judged_jobs) d (λ j m. counted judged_jobs j (within j m).0 (within j m).1), counted_length judged_jobs)

-- a job that is not outside is 1 to 255
pub not_outside : (job : ℕ) → not (leb 1 job && leb job judged_jobs) ≡ false → (1 ≤ job) × (job ≤ judged_jobs)
not_outside job e =
    let both : (leb 1 job && leb job judged_jobs) ≡ true = not-false (leb 1 job && leb job judged_jobs) e in
    (leb-true 1 job (and_first (leb 1 job) (leb job judged_jobs) both), leb-true job judged_jobs (and_second (leb 1 job) (leb job judged_jobs) both))

-- a job with a c has it on this line, and then it is 1 to 255, or on a later one
marked_here : {P : Type 0} (m : Mark) (job j : ℕ) (h : History) → marked is_commit j (Ends m job ∷ h) ≡ true → (job ≡ j → P) → (marked is_commit j h ≡ true → P) → P
marked_here m job j h e one' two' =
    or_either (eqb job j && is_commit m) (marked is_commit j h) (sym (marked_ends is_commit j m job h) ∙ e)
    (λ t. one' (eqb-true job j (and_first (eqb job j) (is_commit m) t))) two'

-- the same, by the letter of a good line
marked_good : {P : Type 0} (l : Letter) (job cell : ℕ) (h : History) (j : ℕ) → outside (good l job cell) ≡ false → marked is_commit j (event_of (good l job cell) ++ h) ≡ true →
    ((1 ≤ j) × (j ≤ judged_jobs) → P) → (marked is_commit j h ≡ true → P) → P
unfolding event_of
marked_good Begin job cell h j o e one' two' = two' e
marked_good Commit job cell h j o e one' two' = marked_here commits job j h e (λ q. one' (subst (λ x. (1 ≤ x) × (x ≤ judged_jobs)) q (not_outside job o))) two'
marked_good GiveUp job cell h j o e one' two' = marked_here gives_up job j h e (λ q. one' (subst (λ x. (1 ≤ x) × (x ≤ judged_jobs)) q (not_outside job o))) two'
marked_good Retry job cell h j o e one' two' = two' e
marked_good Back job cell h j o e one' two' = marked_here goes_back job j h e (λ q. one' (subst (λ x. (1 ≤ x) × (x ≤ judged_jobs)) q (not_outside job o))) two'
marked_good (Asks a) job cell h j o e one' two' = two' (sym (marked_does is_commit j _ h) ∙ e)

-- the same, by how the line reads
marked_line : {P : Type 0} (r : Reading) (h : History) (j : ℕ) → outside r ≡ false → marked is_commit j (event_of r ++ h) ≡ true →
    ((1 ≤ j) × (j ≤ judged_jobs) → P) → (marked is_commit j h ≡ true → P) → P
unfolding event_of
marked_line (Err at) h j o e one' two' = two' e
marked_line (Ok line) h j o e one' two' = marked_good line.letter line.job line.cell h j o e one' two'

-- if no line has a job outside, a job with a c on them is 1 to 255
marked_within : (rs : List Reading) → ((k : ℕ) → k < length rs → outside (get_or rs k (Err First)) ≡ false) → (j : ℕ) → marked is_commit j (events_in rs) ≡ true → (1 ≤ j) × (j ≤ judged_jobs)
unfolding events_in
marked_within [] all j e = not_both e (marked_none is_commit j)
marked_within (r ∷ rs) all j e =
    marked_line r (events_in rs) j (all 0 (omega arith)) e (λ w. w) (λ m. marked_within rs (λ k h. all (suc k) (omega arith)) j m)

-- the jobs with a c in a faultless text are 1 to 255
pub committed_within : (rs : List Reading) → AllFaultless rs → (j : ℕ) → marked is_commit j (events_in rs) ≡ true → (1 ≤ j) × (j ≤ judged_jobs)
committed_within rs all j m =
    marked_within rs
    (λ k h. subst (λ i. outside (get_or rs i (Err First)) ≡ false) (less_one k) (clean_line (suc k) (lines_before rs (suc k)) (reading_at rs (suc k)) (all (suc k) (omega arith) h)).inside) j m
  where
    less_one : (k : ℕ) → suc k - 1 ≡ k
    less_one k = omega arith
