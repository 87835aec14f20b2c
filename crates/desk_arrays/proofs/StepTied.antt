-- A step of the arrays is the step of the paper's desk that they stand for: the move is decided in the same order, refusals first, then the rules, and carried out alike.
-- Assumes nothing.
use Rattle.std.specs.Prelude.{Option, None, Some}
use Prim.Native.Nat.{ℕ, ◌≤◌}
use mathlib.Core.Path.{◌≡◌, refl, sym, ◌∙◌}
use mathlib.Core.Logic.{◌≢◌}
use mathlib.Core.Bool.{false}
use mathlib.Core.List.{List}
use native.Mathlib.Omega.{arith}
use lib.Dec.{eqb, ltb}
use lib.ListN.{length, get_or, get_or-eq_default}
use borrow.Author.Tests.{eqb-true, eqb-false, eq-eqb, ne_eqb}
use Rattle.std.specs.Prelude.{Result, Ok, Err}
use Rattle.laws.specs.Choice.{pick, by_test}
use Rattle.laws.specs.Lists.{pos}
use Rattle.terms.specs.declared.letters.Letter.{Letter}
use Rattle.terms.specs.declared.letters.Ask.{Ask}
use Rattle.terms.specs.declared.letters.Letter.TheVariants.{Begin as begins, Commit, GiveUp, Retry as retries, Back, Asks}
use Rattle.terms.specs.declared.refusals.Refusal.{Refusal}
use Rattle.terms.specs.declared.refusals.Refusal.TheVariants.{UnknownKind, CellAbove, NotOpen, Waiting, SentBack, Running}
use Rattle.terms.specs.Letters.{letter_of}
use Rattle.terms.specs.Limits.{cells}
use Rattle.desks.specs.declared.Answer.TheVariants.{Go}
use Rattle.desk_rules.specs.Desk as paper
use Rattle.desk_rules.specs.Desk.{Status, closed, running, waiting, sentback, Waiter}
use Rattle.desks.specs.Begin.{refused}
use Rattle.desk_rules.specs.Rules.{Outcome, retry}
use Rattle.desk_rules.specs.Step.{step_commit, step_give_up, step_retry, step_ask, step_by, step}
use Rattle.desk_rules.specs.Invariant.{Inv}
use Rattle.desk_arrays.specs.declared.state.Desk.{Desk}
use Rattle.desk_arrays.specs.declared.moves.Ending.TheVariants.{Closed}
use Rattle.desk_arrays.specs.declared.moves.Found.{Found}
use Rattle.desk_arrays.specs.declared.moves.Move.{Move}
use Rattle.desk_arrays.specs.declared.moves.Move.TheVariants.{End, Retry}
use Rattle.desk_arrays.specs.Codes.{free_code, waiting_code, sent_back_code, ask_of}
use Rattle.desk_arrays.specs.Moves.{status_of, found_at, standing_of, if_runs, commit_move, give_up_move, retry_move, decided, ask_move, move_for}
use Rattle.desk_arrays.specs.Steps.{retried_job, carried, answer_to, performed, move_of, step_of}
use Rattle.desks.specs.Places.{is_seated}
use Rattle.desk_arrays.specs.Stands.{status_for, status_at, status_by, Plain, Stands, Tied}
use Rattle.desks.proofs.Seats.{Seat, seat_of, seated_member, pos_end}
use Rattle.desk_arrays.proofs.ByNumber.{seat_has, nobody_has}
use Rattle.desk_arrays.proofs.Telling.{quiet_tied}
use Rattle.desk_arrays.proofs.Reading.{paper_of, plain_stands, by_reading, refuse_tied}
use Rattle.desk_arrays.proofs.Changes.{retried_stands}
use Rattle.desk_arrays.proofs.Ending.{close_tied}
use Rattle.desk_arrays.proofs.Beginning.{begin_tied}
use Rattle.desk_arrays.proofs.Asking.{ask_tied}

module _ {d : Desk} (plain : Plain d) (j : ℕ) where
  -- the code of a job that has no place is the free one
  unseated_code : is_seated d.number j ≡ false → status_of d.number d.status j ≡ free_code
  unfolding status_of
  unseated_code u =
      by_test (eqb j 0) (λ t. rw t) (λ f. rw f (get_or-eq_default d.status 0 (past (pos_end d.number j (sym (seated_member d.number j (eqb-false j 0 f)) ∙ u)))))
    where
      past : pos d.number j ≡ length d.number → length d.status ≤ pos d.number j
      past e = omega (arith, plain.numbers, plain.statuses)

  -- any other code is of a job that has a place
  code_seat : status_of d.number d.status j ≢ free_code → Seat d.number j (pos d.number j)
  code_seat n = by_test (is_seated d.number j) (seat_of d.number j) (λ u. absurd (n (unseated_code u)))

  -- what a job is doing is what its code says
  pub status_code : status_by d j ≡ status_for (status_of d.number d.status j) (get_or d.cell (pos d.number j) 0) (ask_of (get_or d.ask (pos d.number j) 0))
  unfolding status_by
  status_code =
      by_test (is_seated d.number j) (λ t. there (seat_of d.number j t))
      (λ u. nobody_has closed d.number (status_at d.status d.cell d.ask) j u ∙ sym (rw (unseated_code u) (unfold status_for in refl)))
    where
      there : Seat d.number j (pos d.number j) → status_by d j ≡ status_for (status_of d.number d.status j) (get_or d.cell (pos d.number j) 0) (ask_of (get_or d.ask (pos d.number j) 0))
      there s = seat_has closed d.number (status_at d.status d.cell d.ask) s ∙ unfold status_at status_of in (rw (ne_eqb j 0 s.real))

module _ {d : Desk} {q : ℕ → List Waiter} (plain : Plain d) (v : Inv (paper_of d q)) (j c : ℕ) where
  -- the arrays stand for the desk as it is: so every refusal is tied
  refuse : (why : Refusal) → Tied (performed d j c (Err why)) (refused (paper_of d q) why)
  refuse why = refuse_tied d j c why (plain_stands plain q)

  -- a sent back job runs again
  again : status_of d.number d.status j ≡ sent_back_code → Seat d.number j (pos d.number j) → Tied (performed d j c (Ok Retry)) (retry (paper_of d q) j)
  unfolding performed carried answer_to retried_job retry
  again e s = rw (eq-eqb _ _ e) (quiet_tied (Go j) (retried_stands q plain s))

  module _ (code b : ℕ) (a : Ask) (is : status_of d.number d.status j ≡ code) (seat : code ≢ free_code → Seat d.number j (pos d.number j)) where
    -- where the job is found
    abbrev found : Found
    found = record { place = pos d.number j; code = code }

    -- what only a running job may do: 3, 4, 5, else it goes on
    runs_by : (goes : Result Move Refusal) (X : Status → Outcome) → X closed ≡ refused (paper_of d q) NotOpen → X (waiting b a) ≡ refused (paper_of d q) Waiting → X sentback ≡ refused (paper_of d q) SentBack →
        (Seat d.number j (pos d.number j) → Tied (performed d j c goes) (X running)) → Tied (performed d j c (if_runs (standing_of code) goes)) (X (status_for code b a))
    unfolding if_runs standing_of status_for
    runs_by goes X f g h k =
        by_test (eqb code free_code) (λ t. rw (t, f) (refuse NotOpen))
        (λ n. rw n (by_test (eqb code waiting_code) (λ t. rw (t, g) (refuse Waiting))
        (λ m. rw m (by_test (eqb code sent_back_code) (λ t. rw (t, h) (refuse SentBack)) (λ l. rw l (k (seat (eqb-false code free_code n))))))))

    -- commit: 3, 4, 5, else the run ends
    commit_by : Tied (performed d j c (commit_move found)) (step_commit (paper_of d q) j (status_for code b a))
    unfolding commit_move step_commit
    commit_by = runs_by (Ok (End (pos d.number j) Closed)) (step_commit (paper_of d q) j) refl refl refl (λ s. close_tied plain v s c)

    -- give-up: 3, else the run ends
    give_up_by : Tied (performed d j c (give_up_move found)) (step_give_up (paper_of d q) j (status_for code b a))
    unfolding give_up_move step_give_up status_for
    give_up_by =
        by_test (eqb code free_code) (λ t. rw t (refuse NotOpen))
        (λ n. let e = close_tied plain v (seat (eqb-false code free_code n)) c in rw n (by_test (eqb code waiting_code) (λ t. rw t e) (λ m. rw m (by_test (eqb code sent_back_code) (λ t. rw t e) (λ k. rw k e)))))

    -- retry: 3, 4, 8, else the job runs again
    retry_by : Tied (performed d j c (retry_move found)) (step_retry (paper_of d q) j (status_for code b a))
    unfolding retry_move step_retry status_for
    retry_by =
        by_test (eqb code free_code) (λ t. rw t (refuse NotOpen))
        (λ n. rw n (by_test (eqb code waiting_code) (λ t. rw t (refuse Waiting))
        (λ m. rw m (by_test (eqb code sent_back_code) (λ t. rw t (again (is ∙ eqb-true code sent_back_code t) (seat (eqb-false code free_code n)))) (λ k. rw k (refuse Running))))))

    -- read, write, increment and u: 3, 4, 5, 2, else by the rules
    ask_by_lem : (x : Ask) → Tied (performed d j c (if_runs (standing_of code) (pick (ltb c cells) (Ok (decided d.number d.status d.cell d.held (pos d.number j) c j x)) (Err CellAbove)))) (step_ask (paper_of d q) j c x (status_for code b a))
    unfolding step_ask
    ask_by_lem x = runs_by _ (step_ask (paper_of d q) j c x) refl refl refl (λ s. ask_tied plain v s c x)

  -- a request by its letter
  letter_tied : (kind : ℕ) (l : Option Letter) → Tied (performed d j c (move_for d.next d.number d.status d.cell d.held j c l)) (step_by (paper_of d q) (record { kind = kind; job = j; cell = c }) l)
  unfolding move_for ask_move found_at step_by
  letter_tied kind None = refuse UnknownKind
  letter_tied kind (Some Back) = refuse UnknownKind
  letter_tied kind (Some begins) = begin_tied plain v j c
  letter_tied kind (Some Commit) = rw (status_code plain j) (commit_by _ _ _ refl (code_seat plain j))
  letter_tied kind (Some GiveUp) = rw (status_code plain j) (give_up_by _ _ _ refl (code_seat plain j))
  letter_tied kind (Some retries) = rw (status_code plain j) (retry_by _ _ _ refl (code_seat plain j))
  letter_tied kind (Some (Asks a)) = rw (status_code plain j) (ask_by_lem _ _ _ refl (code_seat plain j) a)

-- a step of arrays that stand for a paper's desk, with what holds of every started one, is that desk's step
pub tie : {d : Desk} {D : paper.Desk} → Stands d D → Inv D → (kind job c : ℕ) → Tied (step_of d kind job c) (step D (record { kind = kind; job = job; cell = c }))
unfolding step_of move_of step
tie {d} s v kind job c =
    by_reading (λ D. Inv D → Tied (performed d job c (move_for d.next d.number d.status d.cell d.held job c (letter_of kind))) (step_by D (record { kind = kind; job = job; cell = c }) (letter_of kind))) s
    (λ q v. letter_tied s.plain v job c kind (letter_of kind)) v
