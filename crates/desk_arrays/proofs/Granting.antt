-- One waiter is granted: its place holds the mode, it runs, its action stands after the wakes so far, and all else is as before.
-- Assumes nothing.
use Prim.Native.Nat.{ℕ, suc, ◌+◌, ◌<◌, ◌≤◌, ◌-◌, ◌*◌}
use mathlib.Core.Path.{◌≡◌, sym, ap, subst, ◌∙◌, fun_ext}
use mathlib.Core.Logic.{◌≢◌}
use mathlib.Core.Bool.{true}
use mathlib.Core.List.{List, [], ◌∷◌, ◌++◌, map, map-append}
use native.Mathlib.Omega.{arith}
use lib.Dec.{eqb}
use lib.ListN.{length, get_or, set, length-set, length-append}
use lib.Seq.{get_or-set_other}
use borrow.Author.Tests.{eqb-true}
use Rattle.laws.proofs.Parts.{and_first, and_second}
use Rattle.terms.specs.declared.letters.Ask.{Ask}
use Rattle.terms.specs.Limits.{places, cells}
use Rattle.conflict.specs.declared.modes.Mode.{Mode}
use Rattle.conflict.specs.declared.modes.Mode.TheVariants.{Free}
use Rattle.conflict.specs.declared.action.Action.{Action}
use Rattle.conflict.specs.Modes.{needed, recorded, asked, code_of}
use Rattle.laws.specs.Functions.{at}
use Rattle.desk_rules.specs.Desk.{Status, closed, running}
use Rattle.desk_arrays.specs.Codes.{free_code, running_code, waiting_code, ask_of}
use Rattle.desk_arrays.specs.Places.{spot, mode_at, waits_at, waiters, wants_at}
use Rattle.desk_arrays.specs.Settling.{Settling, granted}
use Rattle.desk_arrays.specs.Steps.{wake_at}
use Rattle.desk_arrays.specs.Stands.{by_number, status_for, status_at}
use Rattle.desks.proofs.Seats.{Seat, seat_below, seat_taken}
use Rattle.desk_arrays.proofs.ByNumber.{FreeHas, seat_has, same_number, at_number}
use Rattle.desk_arrays.proofs.FreePlaces.{free_closed, free_none}
use Rattle.desk_arrays.proofs.StatusCodes.{set_status}
use Rattle.desk_arrays.proofs.Spots.{set_mode, set_cell, set_seat, spot_below}
use Rattle.desk_arrays.proofs.WaitingCount.{waiters_woken}

-- what each job is doing, and what it holds on a cell, while cells are settled
abbrev pub statuses_of : List ℕ → List ℕ → List ℕ → Settling → ℕ → Status
statuses_of ks cell ask s = by_number closed ks (status_at s.status cell ask)

-- what each job holds on a cell
abbrev pub modes_of : List ℕ → Settling → ℕ → ℕ → Mode
modes_of ks s c = by_number Free ks (mode_at s.held c)

-- the wakes so far
abbrev pub wakes_so_far : List ℕ → List ℕ → List ℕ → Settling → List Action
wakes_so_far ks cell ask s = map (wake_at ks cell ask) s.woken

-- arrays of their lengths, free places idle, and room for everybody that still waits among the wakes
pub record Sound (ks : List ℕ) (s : Settling) : Type 0 where
  pub modes : length s.held ≡ cells * places
  pub statuses : length s.status ≡ places
  pub free_status : (p : ℕ) → p < places → get_or ks p 0 ≡ 0 → get_or s.status p 0 ≡ free_code
  pub free_held : (p : ℕ) → p < places → get_or ks p 0 ≡ 0 → (c : ℕ) → mode_at s.held c p ≡ Free
  pub room : length s.woken + waiters s.status places ≤ places - 1

module _ {ks : List ℕ} {s : Settling} (size : length ks ≡ places) (h : Sound ks s) where
  -- a free place holds nothing
  pub sound_held : (c : ℕ) → FreeHas Free ks (mode_at s.held c)
  sound_held c = free_none ks size s.held c h.free_held

  -- and its status is closed
  pub sound_closed : (cell ask : List ℕ) → FreeHas closed ks (status_at s.status cell ask)
  sound_closed cell ask = free_closed ks size s.status cell ask h.free_status

module _ {ks : List ℕ} {s : Settling} {j p : ℕ} (cell ask : List ℕ) (c : ℕ) (a : Ask) (size : length ks ≡ places) (h : Sound ks s) (seat : Seat ks j p) (below : c < cells) where
  -- the place has a spot in the table
  spotted : spot c p < length s.held
  spotted = subst (λ n. spot c p < n) (sym h.modes) (spot_below c p below (seat_below seat places size))

  -- the arrays are as they should be
  pub granted_sound : waits_at s.status cell c p ≡ true → Sound ks (granted c p a s)
  unfolding granted waits_at
  granted_sound w = record {
    modes = length-set s.held (spot c p) (code_of (wants_at s.held c p a)) ∙ h.modes;
    statuses = length-set s.status p running_code ∙ h.statuses;
    free_status = λ q l e. get_or-set_other s.status p q running_code 0 (seat_taken seat q e) ∙ h.free_status q l e;
    free_held = λ q l e b. set_seat s.held c p (code_of (wants_at s.held c p a)) b q (seat_below seat places size) l (seat_taken seat q e) ∙ h.free_held q l e b;
    room = omega (arith, h.room, fewer, length-append s.woken (p ∷ []));
  }
    where
      fewer : suc (waiters (set s.status p running_code) places) ≡ waiters s.status places
      fewer =
          waiters_woken s.status p running_code (seat_below seat (length s.status) (size ∙ sym h.statuses))
          (eqb-true (get_or s.status p 0) waiting_code (and_first (eqb (get_or s.status p 0) waiting_code) (eqb (get_or cell p 0) c) w)) (λ e. omega arith) places (seat_below seat places size)

  -- on the cell the job holds what it asks for
  pub granted_modes : modes_of ks (granted c p a s) c ≡ at (modes_of ks s c) j (asked (modes_of ks s c j) (needed a))
  unfolding granted wants_at
  granted_modes =
      fun_ext (λ i. at_number Free ks (mode_at s.held c) (mode_at (granted c p a s).held c) (asked (modes_of ks s c j) (needed a)) seat
      (λ q _. set_mode s.held c p (wants_at s.held c p a) spotted q ∙ ap (λ m. at (mode_at s.held c) p (asked m (needed a)) q) (sym (seat_has Free ks (mode_at s.held c) seat))) i)

  -- on other cells nothing changes
  pub granted_others : (b : ℕ) → b ≢ c → modes_of ks (granted c p a s) b ≡ modes_of ks s b
  unfolding granted
  granted_others b d =
      fun_ext (λ i. same_number Free ks (mode_at s.held b) (mode_at (granted c p a s).held b)
      (λ q l. set_cell s.held c p (code_of (wants_at s.held c p a)) b q (seat_below seat places size) (subst (λ n. q < n) size l) d) i)

  -- the job runs
  pub granted_statuses : statuses_of ks cell ask (granted c p a s) ≡ at (statuses_of ks cell ask s) j running
  unfolding granted status_for
  granted_statuses =
      fun_ext (λ i. at_number closed ks (status_at s.status cell ask) (status_at (granted c p a s).status cell ask) running seat
      (λ q _. set_status s.status cell ask p running_code (seat_below seat (length s.status) (size ∙ sym h.statuses)) q) i)

  -- and its action stands last among the wakes
  pub granted_told : waits_at s.status cell c p ≡ true → ask_of (get_or ask p 0) ≡ a → wakes_so_far ks cell ask (granted c p a s) ≡ wakes_so_far ks cell ask s ++ record { kind = recorded a; job = j; cell = c } ∷ []
  unfolding granted waits_at wake_at
  granted_told w asks =
      let there : get_or cell p 0 ≡ c = eqb-true (get_or cell p 0) c (and_second (eqb (get_or s.status p 0) waiting_code) (eqb (get_or cell p 0) c) w) in
      map-append (wake_at ks cell ask) s.woken (p ∷ []) ∙ rw (asks, seat.sits, there)
