-- A run ends: the place drops its locks and gets its status, and the cells are settled. The arrays then hold what rule 4 leaves of the paper's desk.
-- Assumes nothing.
use Prim.Native.Nat.{ℕ, ◌<◌, ◌≤◌}
use mathlib.Core.Path.{◌≡◌, refl, sym, subst, ◌∙◌, fun_ext}
use mathlib.Core.Logic.{◌≢◌}
use mathlib.Core.List.{List, [], ◌∷◌}
use native.Mathlib.Omega.{arith}
use lib.ListN.{length, get_or, set, length-set}
use lib.Seq.{get_or-set_same, get_or-set_other}
use Rattle.terms.specs.declared.letters.Ask.{Ask}
use Rattle.terms.specs.Limits.{places, cells}
use Rattle.conflict.specs.declared.modes.Mode.{Mode}
use Rattle.conflict.specs.declared.modes.Mode.TheVariants.{Free}
use Rattle.laws.specs.Functions.{at}
use Rattle.laws.specs.Standing.{In, first}
use Rattle.desk_rules.specs.Desk.{Status, closed, waiting, Waiter}
use Rattle.desk_rules.specs.Locks.{without, settle, released}
use Rattle.desk_rules.specs.Rules.{rows_after, wakes_of, run_again, is_woken}
use Rattle.desk_rules.specs.Invariant.{Inv}
use Rattle.laws.proofs.Functions.{at_other}
use Rattle.desk_arrays.specs.declared.state.Desk.{Desk}
use Rattle.desk_arrays.specs.Codes.{waiting_code, ask_of}
use Rattle.desk_arrays.specs.Places.{mode_at, waiters}
use Rattle.desk_arrays.specs.Settling.{Settling, dropped_by}
use Rattle.desk_arrays.specs.Steps.{settled}
use Rattle.desk_arrays.specs.Stands.{status_for, status_at, status_by, mode_by, Plain}
use Rattle.desk_arrays.proofs.Cases.{by_below}
use Rattle.desks.proofs.Seats.{Seat, seat_below, seat_taken}
use Rattle.desk_arrays.proofs.ByNumber.{at_number}
use Rattle.desk_arrays.proofs.StatusCodes.{set_status}
use Rattle.desk_arrays.proofs.Spots.{dropped_length, dropped_all}
use Rattle.desk_arrays.proofs.WaitingCount.{waiters_fewer}
use Rattle.desk_arrays.proofs.Granting.{modes_of, Sound}
use Rattle.desk_arrays.proofs.SettleAll.{Stage, stage_all}
use Rattle.desk_arrays.proofs.Reading.{paper_of}

-- where nobody waits, settling changes no lock
none_settled : (ks : List ℕ) (j : ℕ) (held : ℕ → Mode) (q : List Waiter) → ((w : Waiter) → In w q → ⊥) → (settle ks held (without j q)).row.held ≡ held
unfolding settle without
none_settled ks j held [] h = refl
none_settled ks j held (w ∷ q) h = absurd (h w first)

module _ {d : Desk} {q : ℕ → List Waiter} (plain : Plain d) (v : Inv (paper_of d q)) {j p : ℕ} (seat : Seat d.number j p) (code : ℕ) where
  -- the place is one of the 32
  below : p < places
  below = seat_below seat places plain.numbers

  -- the status that the job gets
  abbrev pub gets : Status
  gets = status_for code (get_or d.cell p 0) (ask_of (get_or d.ask p 0))

  -- before the first cell is settled
  abbrev start : Settling
  start = record { held = dropped_by d.held p cells; status = set d.status p code; woken = [] }

  -- the arrays are as they should be
  start_sound : code ≢ waiting_code → Sound d.number start
  start_sound n = record {
    modes = dropped_length d.held p cells ∙ plain.modes;
    statuses = length-set d.status p code ∙ plain.statuses;
    free_status = λ r l e. get_or-set_other d.status p r code 0 (seat_taken seat r e) ∙ plain.free_status r l e;
    free_held = λ r l e c. dropped_all d.held p c r below l plain.modes ∙ at_other (mode_at d.held c) p Free r (seat_taken seat r e) ∙ plain.free_held r l e c;
    room = omega (arith, fewer);
  }
    where
      fewer : waiters (set d.status p code) places < places
      fewer = waiters_fewer (set d.status p code) p (λ e. n (sym (get_or-set_same d.status p code 0 (seat_below seat (length d.status) (plain.numbers ∙ sym plain.statuses))) ∙ e)) places below

  -- the job has dropped its locks and has its status
  start_stage : code ≢ waiting_code → Stage (paper_of d q) j gets d.cell d.ask 0 start
  unfolding status_by mode_by run_again is_woken wakes_of
  start_stage n = record {
    sound = start_sound n;
    done = λ c l. absurd (omega arith);
    left = λ c _. fun_ext (λ i. at_number Free d.number (mode_at d.held c) (mode_at (dropped_by d.held p cells) c) Free seat
        (λ r l. dropped_all d.held p c r below (subst (λ m. r < m) plain.numbers l) plain.modes) i);
    statuses = fun_ext (λ i. at_number closed d.number (status_at d.status d.cell d.ask) (status_at (set d.status p code) d.cell d.ask) gets seat
        (λ r _. set_status d.status d.cell d.ask p code (seat_below seat (length d.status) (plain.numbers ∙ sym plain.statuses)) r) i);
    told = refl;
  }

  -- and in the end all cells are settled
  pub end_stage : code ≢ waiting_code → ((c : ℕ) (a : Ask) → gets ≢ waiting c a) → Stage (paper_of d q) j gets d.cell d.ask cells (settled d p code)
  unfolding settled
  end_stage n w = stage_all v j gets w d.cell d.ask start (start_stage n) cells (omega arith)

  -- so each job holds on each cell what rule 4 leaves it
  pub end_modes : (s : Settling) → Stage (paper_of d q) j gets d.cell d.ask cells s → (c : ℕ) → modes_of d.number s c ≡ (rows_after (paper_of d q) j c).row.held
  end_modes s g c =
      by_below c cells (g.done c) (λ l. g.left c l ∙ sym (beyond l))
    where
      beyond : cells ≤ c → (rows_after (paper_of d q) j c).row.held ≡ at (mode_by d c) j Free
      beyond l = unfold rows_after released in none_settled d.number j (at (mode_by d c) j Free) (q c) (λ w h. let b : c < cells = (v.rows c).within w h in omega arith)
