-- Faultless lines: what the table leaves of a line, test by test, and of all lines if none is faulty.
-- Assumes nothing.
use Prim.Native.Nat.{ℕ, zero, suc, ◌+◌, ◌-◌, ◌≤◌, ◌<◌}
use mathlib.Core.Path.{◌≡◌, refl, sym, ap, ◌∙◌, subst}
use mathlib.Core.Bool.{Bool, true, false, not, ◌&&◌, ◌||◌}
use mathlib.Core.List.{List, [], ◌∷◌, ◌++◌}
use Rattle.std.specs.Prelude.{None, Some, Ok, Err, Option}
use native.Mathlib.Numerals.{add-one}
use native.Mathlib.Omega.{arith}
use lib.Dec.{eqb, ltb, leb}
use lib.ListN.{get_or, set}
use borrow.Author.Tests.{eqb-true, eqb-false, lt-ltb, ltb-false, leb-true, leb-false, not-false}
use Rattle.laws.specs.Choice.{pick, by_test}
use Rattle.laws.proofs.Parts.{and_first, and_second}
use Rattle.terms.specs.declared.refusals.Refusal.{Refusal}
use Rattle.terms.specs.declared.refusals.Refusal.TheVariants.{CellAbove, TooManyLines, JobOutside, Ended}
use Rattle.terms.specs.Limits.{judged_jobs, judged_lines}
use Rattle.conflict.specs.declared.action.Event.{Event}
use Rattle.conflict.specs.History.{History, marked}
use Rattle.judge_rules.specs.Arrays.{event_by, history_by}
use Rattle.judge_core.specs.Kept.{job_of, above, ends_job, event_fault, Found, or_later, first_fault, event_at, Flagged}
use Rattle.judge_core.proofs.Events.{events_from, history_events}
use Rattle.judge_core.proofs.KeptFaults.{job_of_lem, above_of, flags_more}

-- none of the tests in a row holds where nothing is picked
picked_none : {A : Type 0} (a b c d : Bool) (w x y z : A) → pick a (Some w) (pick b (Some x) (pick c (Some y) (pick d (Some z) None))) ≡ None → (a ≡ false) × (b ≡ false) × (c ≡ false) × (d ≡ false)
picked_none true b c d w x y z e = absurd (let q : ◌≡◌ {A = ℕ} 0 1 = cc in omega arith)
picked_none false true c d w x y z e = absurd (let q : ◌≡◌ {A = ℕ} 0 1 = cc in omega arith)
picked_none false false true d w x y z e = absurd (let q : ◌≡◌ {A = ℕ} 0 1 = cc in omega arith)
picked_none false false false true w x y z e = absurd (let q : ◌≡◌ {A = ℕ} 0 1 = cc in omega arith)
picked_none false false false false w x y z e = (refl, refl, refl, refl)

-- what the table leaves of a line: it is no line too many, has a job from 1 to 255 that had not ended, and no cell above 63
pub record Sound (n : ℕ) (before : History) (e : Event) : Type 0 where
  pub few : n ≤ judged_lines
  pub some' : 1 ≤ job_of e
  pub small : job_of e ≤ judged_jobs
  pub low : above e ≡ false
  pub open' : marked ends_job (job_of e) before ≡ false

-- a line without a fault is sound
pub faultless_sound : (n : ℕ) (before : History) (e : Event) → event_fault n before e ≡ None → Sound n before e
unfolding event_fault
faultless_sound n before e h =
    let t = picked_none (ltb judged_lines n) (not (leb 1 (job_of e) && leb (job_of e) judged_jobs)) (above e) (marked ends_job (job_of e) before) TooManyLines JobOutside CellAbove Ended h in
    let both : (leb 1 (job_of e) && leb (job_of e) judged_jobs) ≡ true = not-false (leb 1 (job_of e) && leb (job_of e) judged_jobs) t.1 in
    record {
      few = ltb-false judged_lines n t.0;
      some' = leb-true 1 (job_of e) (and_first (leb 1 (job_of e)) (leb (job_of e) judged_jobs) both);
      small = leb-true (job_of e) judged_jobs (and_second (leb 1 (job_of e)) (leb (job_of e) judged_jobs) both);
      low = t.2;
      open' = t.3;
    }

-- a line and those after it
one_line_lem : (codes jobs cells : List ℕ) (n p m : ℕ) (before : History) → first_fault n before (events_from codes jobs cells p (suc m)) ≡ or_later (event_fault n before (event_at codes jobs cells p)) n (first_fault (suc n) (before ++ event_at codes jobs cells p ∷ []) (events_from codes jobs cells (suc p) m))
unfolding first_fault events_from
one_line_lem codes jobs cells n p m before = refl

-- a fault decides, and without one the lines after decide
found_here : (o : Option Refusal) (n : ℕ) (later : Found) (why : Refusal) → o ≡ Some why → Err (record { line = n; why = why }) ≡ or_later o n later
unfolding or_later
found_here o n later why e = rw e

found_later : (o : Option Refusal) (n : ℕ) (later : Found) → o ≡ None → or_later o n later ≡ later
unfolding or_later
found_later o n later e = rw e

-- where nothing is found this line has no fault
none_here : (o : Option Refusal) (n : ℕ) (later : Found) → or_later o n later ≡ Ok tt → o ≡ None
unfolding or_later
none_here None n later e = refl
none_here (Some why) n later e = absurd (let q : ◌≡◌ {A = ℕ} 0 1 = cc in omega arith)

module _ (codes jobs cells : List ℕ) where
  -- the line and the history with it
  snoc : (p : ℕ) → history_by codes jobs cells p ++ event_at codes jobs cells p ∷ [] ≡ history_by codes jobs cells (suc p)
  unfolding history_by event_at
  snoc p = refl

  module _ (n : ℕ) (all : Found) where
    -- the search has come to line p without a fault
    unfoldable pub At : ℕ → Type 0
    At p = all ≡ first_fault (p + 1) (history_by codes jobs cells p) (events_from codes jobs cells p (n - p))

    -- a line that is left is the first of them
    next_line : (p : ℕ) → p < n → At p → all ≡ or_later (event_fault (p + 1) (history_by codes jobs cells p) (event_at codes jobs cells p)) (p + 1) (first_fault (p + 1 + 1) (history_by codes jobs cells (p + 1)) (events_from codes jobs cells (p + 1) (n - (p + 1))))
    unfolding At
    next_line p h a =
        let left' : n - p ≡ suc (n - (p + 1)) = omega arith in
        a ∙ ap (λ m. first_fault (p + 1) (history_by codes jobs cells p) (events_from codes jobs cells p m)) left'
        ∙ one_line_lem codes jobs cells (p + 1) p (n - (p + 1)) (history_by codes jobs cells p)
        ∙ rw (snoc p, add-one (p + 1), add-one p)

    -- a line without a fault is passed
    at_more : (p : ℕ) → p < n → None ≡ event_fault (p + 1) (history_by codes jobs cells p) (event_at codes jobs cells p) → At p → At (p + 1)
    unfolding At
    at_more p h f a =
        next_line p h a
        ∙ found_later (event_fault (p + 1) (history_by codes jobs cells p) (event_at codes jobs cells p)) (p + 1) (first_fault (p + 1 + 1) (history_by codes jobs cells (p + 1)) (events_from codes jobs cells (p + 1) (n - (p + 1)))) (sym f)

    -- a faulty one is found
    pub at_found : (p : ℕ) (why : Refusal) → p < n → Some why ≡ event_fault (p + 1) (history_by codes jobs cells p) (event_at codes jobs cells p) → At p → Err (record { line = p + 1; why = why }) ≡ all
    at_found p why h f a =
        found_here (event_fault (p + 1) (history_by codes jobs cells p) (event_at codes jobs cells p)) (p + 1) (first_fault (p + 1 + 1) (history_by codes jobs cells (p + 1)) (events_from codes jobs cells (p + 1) (n - (p + 1)))) why (sym f)
        ∙ sym (next_line p h a)

    -- when all are passed none is
    pub at_end : (p : ℕ) → n ≤ p → At p → Ok tt ≡ all
    unfolding At first_fault events_from
    at_end p h a =
        let z : n - p ≡ 0 = omega arith in
        sym (a ∙ rw z)

  -- the search starts at the first line
  pub at_start : (n : ℕ) → At n (first_fault 1 [] (history_by codes jobs cells n)) 0
  unfolding At history_by
  at_start n =
      let same' : n - 0 ≡ n = omega arith in
      rw same' (ap (first_fault 1 []) (history_events codes jobs cells n))

  -- where none of the lines from p on is faulty each is sound
  sound_from : (m p n : ℕ) → p + m ≡ n → first_fault (suc p) (history_by codes jobs cells p) (events_from codes jobs cells p m) ≡ Ok tt → (q : ℕ) → p ≤ q → q < n → Sound (suc q) (history_by codes jobs cells q) (event_at codes jobs cells q)
  sound_from zero p n e g q a b = absurd (omega arith)
  sound_from (suc m) p n e g q a b =
      let line = sym (one_line_lem codes jobs cells (suc p) p m (history_by codes jobs cells p)) ∙ g in
      let good = none_here (event_fault (suc p) (history_by codes jobs cells p) (event_at codes jobs cells p)) (suc p) (first_fault (suc (suc p)) (history_by codes jobs cells p ++ event_at codes jobs cells p ∷ []) (events_from codes jobs cells (suc p) m)) line in
      by_test (eqb p q)
      (λ t. subst (λ i. Sound (suc i) (history_by codes jobs cells i) (event_at codes jobs cells i)) (eqb-true p q t) (faultless_sound (suc p) (history_by codes jobs cells p) (event_at codes jobs cells p) good))
      (λ f.
      let later' : first_fault (suc (suc p)) (history_by codes jobs cells (suc p)) (events_from codes jobs cells (suc p) m) ≡ Ok tt =
      ap (λ h. first_fault (suc (suc p)) h (events_from codes jobs cells (suc p) m)) (sym (snoc p))
      ∙ sym (found_later (event_fault (suc p) (history_by codes jobs cells p) (event_at codes jobs cells p)) (suc p) (first_fault (suc (suc p)) (history_by codes jobs cells p ++ event_at codes jobs cells p ∷ []) (events_from codes jobs cells (suc p) m)) good)
      ∙ line in
      sound_from m (suc p) n (omega arith) later' q (omega (arith, eqb-false p q f)) b)

  module _ (n : ℕ) (g : Ok tt ≡ first_fault 1 [] (history_by codes jobs cells n)) where
    -- each of the lines is sound
    pub line_sound : (q : ℕ) → q < n → Sound (suc q) (history_by codes jobs cells q) (event_at codes jobs cells q)
    unfolding history_by
    line_sound q b = sound_from n 0 n (omega arith) (sym (g ∙ ap (first_fault 1 []) (history_events codes jobs cells n))) q (omega arith) b

    -- they are no more than are kept
    pub lines_few : n ≤ judged_lines
    lines_few = by_test (eqb n 0) (λ t. omega (arith, eqb-true n 0 t)) (λ f. omega (arith, (line_sound (n - 1) (omega (arith, eqb-false n 0 f))).few, eqb-false n 0 f))

    -- none is of job 0
    pub lines_named : (p : ℕ) → p < n → get_or jobs p 0 ≡ 0 → ⊥
    unfolding event_at
    lines_named p b z = omega (arith, (line_sound p b).some', job_of_lem (get_or codes p 0) (get_or jobs p 0) (get_or cells p 0))

    -- and an action is on a cell
    pub lines_celled : (p : ℕ) → p < n → get_or codes p 0 < 3 → get_or cells p 0 < 64
    unfolding event_at
    lines_celled p b h =
        leb-false 64 (get_or cells p 0)
        (sym (ap (λ t. t && leb 64 (get_or cells p 0)) (lt-ltb (get_or codes p 0) 3 h)) ∙ sym (above_of (get_or codes p 0) (get_or jobs p 0) (get_or cells p 0)) ∙ (line_sound p b).low)

-- the job of a line without a fault had not ended
pub open_line : (codes jobs cells : List ℕ) (p : ℕ) → None ≡ event_fault (p + 1) (history_by codes jobs cells p) (event_at codes jobs cells p) → marked ends_job (get_or jobs p 0) (history_by codes jobs cells p) ≡ false
unfolding event_at
open_line codes jobs cells p g =
    subst (λ j. marked ends_job j (history_by codes jobs cells p) ≡ false) (job_of_lem (get_or codes p 0) (get_or jobs p 0) (get_or cells p 0))
    (faultless_sound (p + 1) (history_by codes jobs cells p) (event_by (get_or codes p 0) (get_or jobs p 0) (get_or cells p 0)) (sym g)).open'

-- a faultless line, passed with the flags of the ended jobs
pub line_passed : (codes jobs cells : List ℕ) (n : ℕ) (all : Found) (p : ℕ) (flags : List Bool) (j : ℕ) (b : Bool) → None ≡ event_fault (p + 1) (history_by codes jobs cells p) (event_at codes jobs cells p) → p < n →
    Flagged flags (history_by codes jobs cells p) → At codes jobs cells n all p → j ≡ get_or jobs p 0 → j < 256 → b ≡ (eqb (get_or codes p 0) 3 || eqb (get_or codes p 0) 4) →
    Flagged (set flags j b) (history_by codes jobs cells (p + 1)) × At codes jobs cells n all (p + 1)
line_passed codes jobs cells n all p flags j b o h f a q small w =
    (flags_more codes jobs cells p j flags b f q small (open_line codes jobs cells p o) w, at_more codes jobs cells n all p h o a)
