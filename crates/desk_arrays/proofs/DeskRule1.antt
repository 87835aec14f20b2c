-- Rule 1 of the desk that runs: a job that holds a covering mode goes, and the arrays stay exactly as they were (01, rule 1).
-- Assumes nothing.
use Prim.Native.Nat.{ℕ}
use mathlib.Core.Path.{◌≡◌, refl, sym, ap, ◌∙◌}
use mathlib.Core.Bool.{true}
use native.Mathlib.Omega.{arith}
use lib.Dec.{eqb}
use borrow.Author.Tests.{lt-ltb}
use mathlib.Core.List.{[]}
use Rattle.std.specs.Prelude.{Result, Ok}
use Rattle.laws.specs.Choice.{by_test}
use Rattle.laws.specs.Lists.{pos}
use Rattle.terms.specs.declared.letters.Ask.{Ask}
use Rattle.terms.specs.Limits.{cells}
use Rattle.conflict.specs.declared.modes.Mode.TheVariants.{Free}
use Rattle.conflict.specs.Modes.{needed, covers}
use Rattle.conflict.specs.History.{History}
use Rattle.terms.specs.declared.refusals.Refusal.{Refusal}
use Rattle.desks.specs.declared.Answer.TheVariants.{Go}
use Rattle.desk_rules.specs.Desk.{Status, closed, running, waiting, sentback}
use Rattle.desk_rules.specs.Asked.{Asking}
use Rattle.desk_arrays.specs.declared.state.Desk.{Desk}
use Rattle.desk_arrays.specs.declared.moves.Move.{Move}
use Rattle.desk_arrays.specs.declared.moves.Move.TheVariants.{Keep}
use Rattle.desk_arrays.specs.Codes.{free_code, waiting_code, sent_back_code}
use Rattle.desk_arrays.specs.Places.{mode_at}
use Rattle.desk_arrays.specs.Moves.{status_of, found_at, standing_of, if_runs, decided, ask_move, move_for}
use Rattle.desk_arrays.specs.Steps.{carried, answer_to, saying, performed, move_of, step_of}
use Rattle.desk_arrays.specs.Stands.{status_for, status_at, status_by, mode_by}
use Rattle.desk_arrays.specs.Seen.{view, Started}
use Rattle.desk_arrays.proofs.ByNumber.{seat_has, has_seat}
use Rattle.desk_arrays.proofs.StepTied.{status_code}
use Rattle.desk_arrays.proofs.StartedStands.{stands_for_paper}

-- a job that runs is not closed, does not wait and was not sent back
runs_only : {P : Type 0} (s : Status) → s ≡ closed → s ≡ running → P
runs_only s p q = let z : ◌≡◌ {A = ℕ} 0 1 = cc in absurd (omega arith)

-- a job whose code says that it runs goes on
running_goes : (code c : ℕ) (a : Ask) (goes : Result Move Refusal) → status_for code c a ≡ running → if_runs (standing_of code) goes ≡ goes
unfolding status_for if_runs standing_of
running_goes code c a goes e =
    by_test (eqb code free_code) (λ t. let q : closed ≡ running = rw t at e in runs_only running (sym q) refl)
    (λ f. by_test (eqb code waiting_code) (λ t. let q : waiting c a ≡ running = rw (f, t) at e in let z : ◌≡◌ {A = ℕ} 0 1 = cc in absurd (omega arith))
    (λ g. by_test (eqb code sent_back_code) (λ t. let q : sentback ≡ running = rw (f, g, t) at e in let z : ◌≡◌ {A = ℕ} 0 1 = cc in absurd (omega arith)) (λ k. rw (f, g, k))))

module _ {d : Desk} {h : History} (s : Started d h) (kind job c : ℕ) (a : Ask) (k : Asking (view d) (record { kind = kind; job = job; cell = c }) a) where
  -- a running job has a place, where its modes stand
  place_mode : mode_by d c job ≡ mode_at d.held c (pos d.number job)
  unfolding status_by mode_by
  place_mode =
      has_seat closed d.number (status_at d.status d.cell d.ask) job (λ e. runs_only (status_by d job) e k.runs) (seat_has Free d.number (mode_at d.held c))

  -- a running job's request for a cell below 64 is decided by rules 1 to 3
  pub desk_asking_move : move_of d kind job c ≡ Ok (decided d.number d.status d.cell d.held (pos d.number job) c job a)
  unfolding move_of move_for ask_move found_at
  desk_asking_move =
      let (D, g, t) = stands_for_paper s in
      ap (move_for d.next d.number d.status d.cell d.held job c) k.letter
      ∙ running_goes (status_of d.number d.status job) _ _ _ (sym (status_code t.plain job) ∙ k.runs)
      ∙ rw (lt-ltb c cells k.within)

  -- where it holds a covering mode, nothing is to be done
  keeps : covers (mode_by d c job) (needed a) ≡ true → decided d.number d.status d.cell d.held (pos d.number job) c job a ≡ Keep
  unfolding decided
  keeps e = rw (sym (ap (λ m. covers m (needed a)) place_mode) ∙ e)

  -- a job that holds a covering mode: go. Nothing changes (01, rule 1)
  pub desk_rule_1 : covers (mode_by d c job) (needed a) ≡ true → step_of d kind job c ≡ record { desk = d; said = saying d (Go job) [] }
  unfolding step_of performed carried answer_to
  desk_rule_1 e = ap (performed d job c) (desk_asking_move ∙ ap Ok (keeps e))
