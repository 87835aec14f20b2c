-- The small changes of a step: a mode is taken, a job waits, a job runs again. The changed arrays stand for the paper's desk with the same change.
-- Assumes nothing.
use Prim.Native.Nat.{ℕ, ◌<◌}
use mathlib.Core.Path.{◌≡◌, refl, sym, subst, ◌∙◌}
use mathlib.Core.List.{List}
use lib.ListN.{length, get_or, set, length-set}
use lib.Seq.{get_or-set_other}
use Rattle.terms.specs.declared.letters.Ask.{Ask}
use Rattle.terms.specs.Limits.{places, cells}
use Rattle.conflict.specs.declared.modes.Mode.{Mode}
use Rattle.conflict.specs.declared.modes.Mode.TheVariants.{Free}
use Rattle.conflict.specs.Modes.{code_of}
use Rattle.laws.specs.Functions.{at}
use Rattle.desk_rules.specs.Desk.{closed, running, waiting, Waiter}
use Rattle.desk_rules.specs.Rules.{with_row, with_status, grant, queued, retry}
use Rattle.laws.proofs.Functions.{at_all}
use Rattle.desk_arrays.specs.declared.state.Desk.{Desk}
use Rattle.desk_arrays.specs.Codes.{free_code, running_code, waiting_code, ask_code}
use Rattle.desk_arrays.specs.Places.{spot, mode_at}
use Rattle.desk_arrays.specs.Steps.{with_mode, waiting_for, retried}
use Rattle.desk_arrays.specs.Stands.{status_for, status_at, status_by, mode_by, Plain, Stands}
use Rattle.desks.proofs.Seats.{Seat, seat_below, seat_taken}
use Rattle.desk_arrays.proofs.ByNumber.{same_number, at_number}
use Rattle.desk_arrays.proofs.StatusCodes.{set_status, set_waiting}
use Rattle.desk_arrays.proofs.Spots.{set_mode, set_cell, set_seat, spot_below}
use Rattle.desk_arrays.proofs.Reading.{paper_of}

module _ {d : Desk} (q : ℕ → List Waiter) (plain : Plain d) {j p : ℕ} (seat : Seat d.number j p) where
  -- the place is one of the 32
  below : p < places
  below = seat_below seat places plain.numbers

  -- a status set at the place leaves free places free
  free_after : (code r : ℕ) → r < places → get_or d.number r 0 ≡ 0 → get_or (set d.status p code) r 0 ≡ free_code
  free_after code r l e = get_or-set_other d.status p r code 0 (seat_taken seat r e) ∙ plain.free_status r l e

  -- a mode is taken
  pub holding_stands : (c : ℕ) (m : Mode) → c < cells → Stands (with_mode d p c m) (grant (paper_of d q) j c m).desk
  unfolding with_mode grant with_row status_by mode_by
  holding_stands c m b = record {
    next = refl;
    jobs = refl;
    stat = λ i. refl;
    held = λ e i. at_all (λ e r. r.held i ≡ mode_by (with_mode d p c m) e i) (paper_of d q).row c (record { held = at (mode_by d c) j m; queue = q c })
        (sym (at_number Free d.number (mode_at d.held c) (mode_at (set d.held (spot c p) (code_of m)) c) m seat (λ r _. set_mode d.held c p m spotted r) i))
        (λ e n. sym (same_number Free d.number (mode_at d.held e) (mode_at (set d.held (spot c p) (code_of m)) e) (λ r l. set_cell d.held c p (code_of m) e r below (subst (λ x. r < x) plain.numbers l) n) i)) e;
    plain = record {
      numbers = plain.numbers;
      statuses = plain.statuses;
      waited = plain.waited;
      asks = plain.asks;
      modes = length-set d.held (spot c p) (code_of m) ∙ plain.modes;
      free_status = plain.free_status;
      free_held = λ r l e b. set_seat d.held c p (code_of m) b r below l (seat_taken seat r e) ∙ plain.free_held r l e b;
    };
  }
    where
      spotted : spot c p < length d.held
      spotted = subst (λ n. spot c p < n) (sym plain.modes) (spot_below c p b below)

  -- the job waits for the cell
  pub waiting_stands : (c : ℕ) (a : Ask) (line : List Waiter) → Stands (waiting_for d p c a) (queued (paper_of d q) j c a line).desk
  unfolding waiting_for queued with_status with_row status_by mode_by
  waiting_stands c a line = record {
    next = refl;
    jobs = refl;
    stat = λ i. sym (at_number closed d.number (status_at d.status d.cell d.ask) (status_at (set d.status p waiting_code) (set d.cell p c) (set d.ask p (ask_code a))) (waiting c a) seat
        (λ r _. set_waiting d.status d.cell d.ask p c a (sized d.status plain.statuses) (sized d.cell plain.waited) (sized d.ask plain.asks) r) i);
    held = λ e i. at_all (λ e r. r.held i ≡ mode_by d e i) (paper_of d q).row c (record { held = mode_by d c; queue = line }) refl (λ e n. refl) e;
    plain = record {
      numbers = plain.numbers;
      statuses = length-set d.status p waiting_code ∙ plain.statuses;
      waited = length-set d.cell p c ∙ plain.waited;
      asks = length-set d.ask p (ask_code a) ∙ plain.asks;
      modes = plain.modes;
      free_status = free_after waiting_code;
      free_held = plain.free_held;
    };
  }
    where
      sized : (l : List ℕ) → length l ≡ places → p < length l
      sized l e = seat_below seat (length l) (plain.numbers ∙ sym e)

  -- a job runs again
  pub retried_stands : Stands (retried d p) (retry (paper_of d q) j).desk
  unfolding retried retry with_status status_by mode_by status_for
  retried_stands = record {
    next = refl;
    jobs = refl;
    stat = λ i. sym (at_number closed d.number (status_at d.status d.cell d.ask) (status_at (set d.status p running_code) d.cell d.ask) running seat
        (λ r _. set_status d.status d.cell d.ask p running_code (seat_below seat (length d.status) (plain.numbers ∙ sym plain.statuses)) r) i);
    held = λ e i. refl;
    plain = record {
      numbers = plain.numbers;
      statuses = length-set d.status p running_code ∙ plain.statuses;
      waited = plain.waited;
      asks = plain.asks;
      modes = plain.modes;
      free_status = free_after running_code;
      free_held = plain.free_held;
    };
  }
