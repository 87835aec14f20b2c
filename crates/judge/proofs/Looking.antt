-- Looking at one line: it is refused as the paper says, with 11, 9, 12, 2 or 13, or else kept.
-- Assumes nothing.
use Rattle.std.specs.Prelude.{Option, None, Some}
use Prim.Native.Nat.{ℕ, ◌<◌, ◌≤◌}
use mathlib.Core.Path.{◌≡◌, refl, sym, ap, ◌∙◌}
use mathlib.Core.Bool.{Bool, true, false, ◌&&◌, ◌||◌}
use mathlib.Core.List.{List}
use native.Mathlib.Omega.{arith}
use borrow.Author.Tests.{eqb-false, ltb-false}
use lib.Dec.{eqb, ltb, leb}
use lib.ListN.{get_or}
use Rattle.std.specs.Prelude.{Err, Ok}
use Rattle.laws.specs.Choice.{by_test}
use Rattle.terms.specs.declared.letters.Letter.{Letter}
use Rattle.terms.specs.declared.refusals.Refusal.{Refusal}
use Rattle.terms.specs.Letters.{of_histories, has_cell}
use Rattle.terms.specs.Limits.{cells, judged_jobs, judged_lines}
use Rattle.text_rules.specs.declared.Line.{Line}
use Rattle.text_rules.specs.Lines.{read_line, Reading}
use Rattle.text_rules.proofs.GoodLine.{good_is_record}
use Rattle.judge_rules.specs.HistoryText.{fault_of_good, fault_of, line_fault}
use Rattle.judge.specs.declared.lines.KeptLine.{KeptLine}
use Rattle.judge.specs.Looked.{Looked, looked_good, looked_read, looked_at}
use Rattle.judge.proofs.Flags.{Flagged}

-- why a line is refused, if it is
fault_in : Looked → Option Refusal
fault_in (Ok line) = None
fault_in (Err why) = Some why

-- a job that is not outside is at most 255, and not 0
pub job_within : (job : ℕ) → (eqb job 0 || ltb judged_jobs job) ≡ false → (0 < job) × (job ≤ judged_jobs)
job_within job f =
    by_test (eqb job 0) (λ t. absurd (let z : true ≡ false = rw t at f in cc))
    (λ g.
    let z : job ≡ 0 → ⊥ = eqb-false job 0 g in
    let h : ltb judged_jobs job ≡ false = rw g at f in
    (omega arith, ltb-false judged_jobs job h))

-- a line without a cell has a cell that is not above
cell_test : (l : Letter) (cell : ℕ) → (has_cell l ≡ false → cell ≡ 0) → (has_cell l && leb cells cell) ≡ leb cells cell
cell_test l cell h = by_test (has_cell l) (λ t. rw t) (λ f. rw (f, h f))

-- a good line is refused as the paper says
good_fault : (flags : List Bool) (ended : List ℕ) (good : Line) → Flagged flags ended → (has_cell good.letter ≡ false → good.cell ≡ 0) →
    fault_of_good ended good.letter good.job good.cell ≡ fault_in (looked_good flags good)
unfolding fault_of_good looked_good fault_in
good_fault flags ended good a h =
    by_test (eqb good.job 0 || ltb judged_jobs good.job) (λ t. rw t)
    (λ f.
    let small : good.job < 256 = omega (arith, job_within good.job f) in
    rw (f, cell_test good.letter good.cell h) (by_test (leb cells good.cell) (λ t. rw t)
    (λ k. by_test (get_or flags good.job false)
    (λ t. rw (k, t, sym (a good.job small) ∙ t))
    (λ t. rw (k, t, sym (a good.job small) ∙ t)))))

-- a line as it reads is refused as the paper says
read_fault : (flags : List Bool) (ended line : List ℕ) (r : Reading) → read_line of_histories line ≡ r → Flagged flags ended → fault_of ended r ≡ fault_in (looked_read flags r)
unfolding fault_of looked_read fault_in
read_fault flags ended line (Ok good) e a = good_fault flags ended good a (good_is_record of_histories line good.letter good.job good.cell e).5
read_fault flags ended line (Err at) e a = refl

-- line n is refused as the paper says
line_fault_lem : (n : ℕ) (flags : List Bool) (ended line : List ℕ) → Flagged flags ended → line_fault n ended (read_line of_histories line) ≡ fault_in (looked_at n flags (read_line of_histories line))
unfolding line_fault looked_at fault_in
line_fault_lem n flags ended line a =
    by_test (ltb judged_lines n) (λ t. rw t) (λ f. rw f (read_fault flags ended line (read_line of_histories line) refl a))

-- a line that is refused has that fault
pub refused_fault : (n : ℕ) (flags : List Bool) (ended line : List ℕ) (why : Refusal) → Flagged flags ended → looked_at n flags (read_line of_histories line) ≡ Err why → line_fault n ended (read_line of_histories line) ≡ Some why
unfolding fault_in
refused_fault n flags ended line why a e = line_fault_lem n flags ended line a ∙ ap fault_in e

-- a line that is kept has no fault
pub kept_fault : (n : ℕ) (flags : List Bool) (ended line : List ℕ) (kept : KeptLine) → Flagged flags ended → looked_at n flags (read_line of_histories line) ≡ Ok kept → line_fault n ended (read_line of_histories line) ≡ None
unfolding fault_in
kept_fault n flags ended line kept a e = line_fault_lem n flags ended line a ∙ ap fault_in e
