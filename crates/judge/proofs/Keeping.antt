-- A line that is kept: the kept numbers say what the line says, and the flags after it say which jobs have ended.
-- Assumes nothing.
use Prim.Native.Nat.{ℕ, ◌≤◌, ◌<◌}
use mathlib.Core.Path.{◌≡◌, refl, sym, ap, ◌∙◌}
use mathlib.Core.Bool.{Bool, true, false, ◌||◌}
use mathlib.Core.List.{List, [], ◌∷◌}
use native.Mathlib.Omega.{arith}
use borrow.Author.Tests.{eqb-true, eqb-false, ltb-false}
use lib.Dec.{eqb, ltb, leb}
use lib.ListN.{length, get_or, set}
use lib.Seq.{get_or-set_same, get_or-set_other}
use Rattle.std.specs.Prelude.{Err, Ok}
use Rattle.laws.specs.Choice.{pick, by_test, not_both}
use Rattle.laws.specs.Lists.{member}
use Rattle.terms.specs.declared.letters.Ask.TheVariants.{Read, Write, Increment, Update}
use Rattle.terms.specs.declared.letters.Letter.{Letter}
use Rattle.terms.specs.declared.letters.Letter.TheVariants.{Begin, Commit, GiveUp, Retry, Back, Asks}
use Rattle.terms.specs.declared.refusals.Refusal.{Refusal}
use Rattle.terms.specs.Letters.{of_histories}
use Rattle.terms.specs.Limits.{cells, judged_jobs, judged_lines}
use Rattle.conflict.proofs.Clauses.{records_read, records_write, records_increment}
use Rattle.text_rules.specs.declared.Line.{Line}
use Rattle.text_rules.specs.Lines.{read_line, Reading, good}
use Rattle.text_rules.proofs.GoodLine.{good_is_record}
use Rattle.judge_rules.specs.HistoryText.{ended_after, event_of}
use Rattle.judge_rules.specs.Arrays.{event_by}
use Rattle.judge.specs.declared.lines.KeptLine.{KeptLine}
use Rattle.judge.specs.Looked.{Looked, code_of, ends_job, looked_good, looked_read, looked_at}
use Rattle.judge.proofs.Flags.{Flagged}
use Rattle.judge.proofs.Looking.{job_within}

-- what is refused is not kept
not_kept : {P : Type 0} {why : Refusal} {kept : KeptLine} → Err why ≡ Ok kept → P
not_kept e = absurd (cc)

-- what a good line that is kept tells
record GoodKept (flags : List Bool) (good : Line) (kept : KeptLine) : Type 0 where
  number : code_of good.letter ≡ kept.code
  job_is : good.job ≡ kept.job
  cell_is : good.cell ≡ kept.cell
  some_job : 0 < kept.job
  small : kept.job < 256
  free : get_or flags kept.job false ≡ false

-- a good line is kept with its job and cell, and its job has not ended
good_kept : (flags : List Bool) (good : Line) (kept : KeptLine) → looked_good flags good ≡ Ok kept → GoodKept flags good kept
unfolding looked_good
good_kept flags good kept e =
    by_test (eqb good.job 0 || ltb judged_jobs good.job) (λ t. not_kept (rw t at e))
    (λ f. by_test (leb cells good.cell) (λ t. not_kept (rw (f, t) at e))
    (λ k. by_test (get_or flags good.job false) (λ t. not_kept (rw (f, k, t) at e))
    (λ m.
    let h : ◌≡◌ {A = Looked} (Ok (record { code = code_of good.letter; job = good.job; cell = good.cell })) (Ok kept) = rw (f, k, m) at e in
    let same : ◌≡◌ {A = KeptLine} (record { code = code_of good.letter; job = good.job; cell = good.cell }) kept = cc in
    let same_job : good.job ≡ kept.job = ap (λ l. l.job) same in
    let w = job_within good.job f in
    record {
      number = ap (λ l. l.code) same;
      job_is = same_job;
      cell_is = ap (λ l. l.cell) same;
      some_job = omega arith;
      small = omega arith;
      free = rw (← same_job) m;
    })))

-- what a letter of a history says is what its number stands for
letter_event : (l : Letter) (job cell : ℕ) → of_histories l ≡ true → event_of (good l job cell) ≡ event_by (code_of l) job cell ∷ []
unfolding event_of event_by
letter_event Begin job cell h = not_both h refl
letter_event Commit job cell h = refl
letter_event GiveUp job cell h = refl
letter_event Retry job cell h = not_both h refl
letter_event Back job cell h = refl
letter_event (Asks Read) job cell h = rw records_read
letter_event (Asks Write) job cell h = rw records_write
letter_event (Asks Increment) job cell h = rw records_increment
letter_event (Asks Update) job cell h = not_both h refl

-- which jobs have ended after a letter, by its code
letter_ends : (l : Letter) (ended : List ℕ) (job cell j : ℕ) → member j (ended_after ended (good l job cell)) ≡ pick (ends_job (code_of l)) (eqb job j || member j ended) (member j ended)
unfolding ended_after ends_job member
letter_ends Begin ended job cell j = refl
letter_ends Commit ended job cell j = refl
letter_ends GiveUp ended job cell j = refl
letter_ends Retry ended job cell j = refl
letter_ends Back ended job cell j = refl
letter_ends (Asks Read) ended job cell j = refl
letter_ends (Asks Write) ended job cell j = refl
letter_ends (Asks Increment) ended job cell j = refl
letter_ends (Asks Update) ended job cell j = refl

-- a flag set where none was says which jobs have ended
flag_put : (flags : List Bool) (job : ℕ) (b : Bool) (ended : List ℕ) → length flags ≡ 256 → job < 256 → get_or flags job false ≡ false → Flagged flags ended →
    (j : ℕ) → j < 256 → get_or (set flags job b) j false ≡ pick b (eqb job j || member j ended) (member j ended)
flag_put flags job b ended long small free a j h =
    by_test (eqb job j)
    (λ t.
    let e : job ≡ j = eqb-true job j t in
    let within : job < length flags = omega arith in
    let m : member j ended ≡ false = sym (a j h) ∙ rw (← e) free in
    rw (t, m, ← e, get_or-set_same flags job b false within) (by_test b (λ q. rw q) (λ q. rw q)))
    (λ f.
    let other : j ≡ job → ⊥ = λ q. eqb-false job j f (sym q) in
    rw (f, get_or-set_other flags job j b false other, a j h) (by_test b (λ q. rw q) (λ q. rw q)))

-- what a line that is kept tells
pub record KeptAs (n : ℕ) (flags : List Bool) (ended line : List ℕ) (kept : KeptLine) : Type 0 where
  pub within : n ≤ judged_lines
  pub event : event_of (read_line of_histories line) ≡ event_by kept.code kept.job kept.cell ∷ []
  pub some_job : 0 < kept.job
  pub small : kept.job < 256
  pub flagged : Flagged (set flags kept.job (ends_job kept.code)) (ended_after ended (read_line of_histories line))

module _ (n : ℕ) (flags : List Bool) (ended line : List ℕ) (kept : KeptLine) (long : length flags ≡ 256) (a : Flagged flags ended) where
  -- a good line that is kept
  good_kept_as : (its : Line) → n ≤ judged_lines → read_line of_histories line ≡ Ok its → GoodKept flags its kept → KeptAs n flags ended line kept
  good_kept_as its most e k =
      record {
        within = most;
        event = rw (e, letter_event its.letter its.job its.cell (good_is_record of_histories line its.letter its.job its.cell e).1, k.number, k.job_is, k.cell_is);
        some_job = k.some_job;
        small = k.small;
        flagged = λ i h.
            flag_put flags kept.job (ends_job kept.code) ended long k.small k.free a i h ∙ rw (e, letter_ends its.letter ended its.job its.cell i, k.number, k.job_is);
      }

  -- a line as it reads that is kept
  read_kept : (r : Reading) → n ≤ judged_lines → read_line of_histories line ≡ r → looked_read flags r ≡ Ok kept → KeptAs n flags ended line kept
  unfolding looked_read
  read_kept (Ok its) most g e = good_kept_as its most g (good_kept flags its kept e)
  read_kept (Err at) most g e = not_kept e

  -- a kept line says what is kept of it, and the flags after it say which jobs have ended
  pub kept_as : looked_at n flags (read_line of_histories line) ≡ Ok kept → KeptAs n flags ended line kept
  unfolding looked_at
  kept_as e =
      by_test (ltb judged_lines n) (λ t. not_kept (rw t at e))
      (λ f. read_kept (read_line of_histories line) (ltb-false judged_lines n f) refl (rw f at e))
