-- A text without a faulty line says a history without one: what the judge has accepted is not refused again.
-- Assumes nothing.
use Rattle.std.specs.Prelude.{Option, None, Some, Ok}
use Prim.Native.Nat.{ℕ, suc, ◌≤◌}
use mathlib.Core.Path.{◌≡◌, refl, sym, ap, ◌∙◌}
use mathlib.Core.Bool.{Bool, true, false, not, ◌&&◌, ◌||◌, and-true, and-false, or-false, or_comm}
use mathlib.Core.List.{List, [], ◌∷◌, ◌++◌}
use native.Mathlib.Omega.{arith}
use lib.Dec.{eqb, ltb, leb}
use borrow.Author.Tests.{eqb-true, eqb-false, ltb-true, ltb-false, le-ltb, le-leb, lt-leb}
use Rattle.std.specs.Prelude.{Err, Ok}
use Rattle.laws.specs.Choice.{by_test}
use Rattle.laws.specs.Lists.{member}
use Rattle.terms.specs.declared.letters.Letter.{Letter}
use Rattle.terms.specs.declared.letters.Letter.TheVariants.{Begin, Commit, GiveUp, Retry, Back, Asks}
use Rattle.terms.specs.declared.refusals.Refusal.{Refusal}
use Rattle.terms.specs.declared.refusals.Refusal.TheVariants.{TooManyLines}
use Rattle.terms.specs.Letters.{has_cell}
use Rattle.terms.specs.Limits.{cells, judged_jobs, judged_lines}
use Rattle.conflict.specs.declared.action.Action.{Action}
use Rattle.conflict.specs.declared.action.Mark.{Mark}
use Rattle.conflict.specs.declared.action.Mark.TheVariants.{Commit as commits, GiveUp as gives_up, Back as goes_back}
use Rattle.conflict.specs.declared.action.Event.{Event}
use Rattle.conflict.specs.declared.action.Event.TheVariants.{Does, Ends}
use Rattle.conflict.specs.Modes.{recorded}
use Rattle.conflict.specs.History.{History, marked}
use Rattle.conflict.proofs.Appended.{marked_append}
use Rattle.conflict.proofs.OneEvent.{marked_none, marked_does, marked_ends, commit_not_back, give_up_not_back, back_is_back}
use Rattle.judge_rules.specs.HistoryText.{fault_of_good, fault_of, line_fault, ended_after, Faulty, or_later, first_faulty, event_of, events_in}
use Rattle.judge_core.specs.Kept.{job_of, above, ends_job, event_fault, first_fault}
use Rattle.judge_core.specs.Kept as kept
use Rattle.text_rules.specs.Lines.{Reading, good}

-- something is not nothing
not_none : {A : Type 0} {x : A} {P : Type 0} → Some x ≡ None → P
not_none e = absurd (let q : ◌≡◌ {A = ℕ} 0 1 = cc in omega arith)

-- a job is outside 1 to 255 where it is 0 or larger
outside_is : (j : ℕ) → not (leb 1 j && leb j judged_jobs) ≡ (eqb j 0 || ltb judged_jobs j)
outside_is j =
    by_test (eqb j 0) (λ t. rw (t, lt-leb 1 j (omega (arith, eqb-true j 0 t))))
    (λ f. rw (f, le-leb 1 j (omega (arith, eqb-false j 0 f)))
    (by_test (ltb judged_jobs j) (λ t. rw (t, lt-leb j judged_jobs (ltb-true judged_jobs j t))) (λ g. rw (g, le-leb j judged_jobs (ltb-false judged_jobs j g)))))

-- the jobs that lines have ended are those that the history has
abbrev Known : List ℕ → History → Type 0
Known ended before = (j : ℕ) → member j ended ≡ marked ends_job j before

module _ (ended : List ℕ) (before : History) (k : Known ended before) where
  -- the fault of an event is the one that the table has of a good line that says it
  event_table : (n : ℕ) (l : Letter) (job cell : ℕ) (e : Event) → n ≤ judged_lines → job_of e ≡ job → above e ≡ (has_cell l && leb cells cell) → event_fault n before e ≡ fault_of_good ended l job cell
  unfolding event_fault fault_of_good
  event_table n l job cell e few j a = rw (le-ltb judged_lines n few, j, a, k job, outside_is job)

  -- which jobs have ended after a mark
  ended_mark : (m : Mark) (job j : ℕ) (b : Bool) → ends_job m ≡ b → marked ends_job j (before ++ Ends m job ∷ []) ≡ (member j ended || (eqb job j && b))
  ended_mark m job j b e =
      marked_append ends_job j before (Ends m job ∷ [])
      ∙ rw (marked_ends ends_job j m job [], marked_none ends_job j, e, or-false (eqb job j && b), k j)

  -- a mark that ends its job
  known_end : (m : Mark) (job : ℕ) → ends_job m ≡ true → Known (job ∷ ended) (before ++ Ends m job ∷ [])
  unfolding member
  known_end m job e j = sym (ended_mark m job j true e ∙ rw (and-true (eqb job j)) (or_comm (member j ended) (eqb job j)))

  -- one that does not
  known_back : (m : Mark) (job : ℕ) → ends_job m ≡ false → Known ended (before ++ Ends m job ∷ [])
  known_back m job e j = sym (ended_mark m job j false e ∙ rw (and-false (eqb job j)) (or-false (member j ended)))

  -- an action ends nobody
  known_does : (e : Event) → ((j : ℕ) → marked ends_job j (e ∷ []) ≡ marked ends_job j []) → Known ended (before ++ e ∷ [])
  known_does e h j = k j ∙ sym (marked_append ends_job j before (e ∷ []) ∙ rw (h j, marked_none ends_job j) (or-false (marked ends_job j before)))

-- a mark's job, that it has no cell, and which marks end a job
ends_job_lem : (m : Mark) (job : ℕ) → job_of (Ends m job) ≡ job
unfolding job_of
ends_job_lem m job = refl

ends_above : (m : Mark) (job : ℕ) → above (Ends m job) ≡ false
unfolding above
ends_above m job = refl

ends_commit : ends_job commits ≡ true
unfolding ends_job
ends_commit = ap not commit_not_back

ends_give_up : ends_job gives_up ≡ true
unfolding ends_job
ends_give_up = ap not give_up_not_back

ends_back : ends_job goes_back ≡ false
unfolding ends_job
ends_back = ap not back_is_back

-- an action's job, and whether its cell is above 63
does_job : (a : Action) → job_of (Does a) ≡ a.job
unfolding job_of
does_job a = refl

does_above : (a : Action) → above (Does a) ≡ leb cells a.cell
unfolding above
does_above a = refl

-- an event without a fault is passed
passed : (n : ℕ) (before h : History) (e : Event) → event_fault n before e ≡ None → first_fault n before (e ∷ h) ≡ first_fault (suc n) (before ++ e ∷ []) h
unfolding first_fault kept.or_later
passed n before h e f = rw f

-- a good line without a fault is passed, and what it says with it
good_sound : (l : Letter) (job cell n k : ℕ) (ended : List ℕ) (before h : History) → k ≤ n → n ≤ judged_lines → Known ended before → fault_of ended (good l job cell) ≡ None →
    ((m : ℕ) (after : History) → m ≤ suc n → Known (ended_after ended (good l job cell)) after → first_fault m after h ≡ Ok tt) → first_fault k before (event_of (good l job cell) ++ h) ≡ Ok tt
unfolding fault_of ended_after event_of
good_sound Begin job cell n k ended before h a few kn f next = next k before (omega arith) kn
good_sound Commit job cell n k ended before h a few kn f next =
    passed k before h (Ends commits job) (event_table ended before kn k Commit job cell (Ends commits job) (omega arith) (ends_job_lem commits job) (ends_above commits job) ∙ f)
    ∙ next (suc k) (before ++ Ends commits job ∷ []) (omega arith) (known_end ended before kn commits job (ends_commit))
good_sound GiveUp job cell n k ended before h a few kn f next =
    passed k before h (Ends gives_up job) (event_table ended before kn k GiveUp job cell (Ends gives_up job) (omega arith) (ends_job_lem gives_up job) (ends_above gives_up job) ∙ f)
    ∙ next (suc k) (before ++ Ends gives_up job ∷ []) (omega arith) (known_end ended before kn gives_up job (ends_give_up))
good_sound Retry job cell n k ended before h a few kn f next = next k before (omega arith) kn
good_sound Back job cell n k ended before h a few kn f next =
    passed k before h (Ends goes_back job) (event_table ended before kn k Back job cell (Ends goes_back job) (omega arith) (ends_job_lem goes_back job) (ends_above goes_back job) ∙ f)
    ∙ next (suc k) (before ++ Ends goes_back job ∷ []) (omega arith) (known_back ended before kn goes_back job ends_back)
good_sound (Asks ask) job cell n k ended before h a few kn f next =
    let act : Action = record { kind = recorded ask; job = job; cell = cell } in
    passed k before h (Does act) (event_table ended before kn k (Asks ask) job cell (Does act) (omega arith) (does_job act) (does_above act) ∙ f)
    ∙ next (suc k) (before ++ Does act ∷ []) (omega arith) (known_does ended before kn (Does act) (λ j. marked_does ends_job j act []))

-- a line without a fault is passed, and what it says with it
reading_sound : (r : Reading) (n k : ℕ) (ended : List ℕ) (before h : History) → k ≤ n → n ≤ judged_lines → Known ended before → fault_of ended r ≡ None →
    ((m : ℕ) (after : History) → m ≤ suc n → Known (ended_after ended r) after → first_fault m after h ≡ Ok tt) → first_fault k before (event_of r ++ h) ≡ Ok tt
unfolding fault_of ended_after event_of
reading_sound (Err at) n k ended before h a few kn f next = not_none f
reading_sound (Ok line) n k ended before h a few kn f next = good_sound line.letter line.job line.cell n k ended before h a few kn f next

-- the fault of a line that is no line too many is the one that it reads with
line_reads : (n : ℕ) (ended : List ℕ) (r : Reading) → line_fault n ended r ≡ None → (n ≤ judged_lines) × (fault_of ended r ≡ None)
unfolding line_fault
line_reads n ended r e = by_test (ltb judged_lines n) (λ t. not_none {x = TooManyLines} (rw t at e)) (λ g. (ltb-false judged_lines n g, rw g at e))

-- where nothing is found the first line has no fault, and those after it have none
none_first : (o : Option Refusal) (n : ℕ) (later : Option Faulty) → or_later o n later ≡ None → (o ≡ None) × (later ≡ None)
unfolding or_later
none_first None n later e = (refl, e)
none_first (Some why) n later e = not_none e

-- lines without a faulty one say events without one
lines_sound : (rs : List Reading) (n k : ℕ) (ended : List ℕ) (before : History) → k ≤ n → Known ended before → first_faulty n ended rs ≡ None → first_fault k before (events_in rs) ≡ Ok tt
unfolding first_faulty events_in first_fault
lines_sound [] n k ended before a kn e = refl
lines_sound (r ∷ rs) n k ended before a kn e =
    let o = none_first (line_fault n ended r) n (first_faulty (suc n) (ended_after ended r) rs) e in
    let s = line_reads n ended r o.0 in
    reading_sound r n k ended before (events_in rs) a s.0 kn s.1
    (λ m after b kn'. lines_sound rs (suc n) m (ended_after ended r) after b kn' o.1)

-- a text without a faulty line says a history without one
pub text_sound : (rs : List Reading) → first_faulty 1 [] rs ≡ None → first_fault 1 [] (events_in rs) ≡ Ok tt
unfolding member
text_sound rs e = lines_sound rs 1 1 [] [] (omega arith) (λ j. sym (marked_none ends_job j)) e
