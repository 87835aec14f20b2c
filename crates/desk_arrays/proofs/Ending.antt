-- The end of a run over the arrays is the paper's rule 4: for a job that is sent back, and for a job that is closed and frees its place.
-- Assumes nothing.
use Prim.Native.Nat.{ℕ, ◌<◌}
use mathlib.Core.Path.{◌≡◌, refl, sym, ap, subst, ◌∙◌}
use mathlib.Core.List.{List, [], map}
use native.Mathlib.Omega.{arith}
use lib.ListN.{length, get_or, set, length-set}
use lib.Seq.{get_or-set_same, get_or-set_other}
use Rattle.std.specs.Prelude.{Ok}
use Rattle.terms.specs.Limits.{places, cells}
use Rattle.conflict.specs.declared.modes.Mode.TheVariants.{Free}
use Rattle.desks.specs.declared.Answer.TheVariants.{Go, Back}
use Rattle.desk_rules.specs.Desk.{closed, sentback, Waiter}
use Rattle.desk_rules.specs.Rules.{rows_after, rule4, close, send_back}
use Rattle.desk_rules.specs.Invariant.{Inv}
use Rattle.desk_rules.proofs.Statuses.{sentback_not_waiting, closed_not_open, not_open_not_waiting}
use Rattle.desk_rules.proofs.RunEnd.{self_after, row_releases}
use Rattle.desk_arrays.specs.declared.state.Desk.{Desk}
use Rattle.desk_arrays.specs.declared.moves.Ending.TheVariants.{Closed, SentBack}
use Rattle.desk_arrays.specs.declared.moves.Move.TheVariants.{End}
use Rattle.desk_arrays.specs.Codes.{free_code, sent_back_code, ask_of}
use Rattle.desk_arrays.specs.Places.{mode_at}
use Rattle.desk_arrays.specs.Settling.{Settling, dropped_by}
use Rattle.desk_arrays.specs.Steps.{settled, code_after, numbers_after, answer_after, ended, carried, answer_to, wake_at, performed}
use Rattle.desk_arrays.specs.Stands.{status_for, status_at, status_by, mode_by, Plain, Tied}
use Rattle.desk_arrays.proofs.Cases.{by_same}
use Rattle.desks.proofs.Seats.{Seat, seat_below}
use Rattle.desk_arrays.proofs.ByNumber.{seat_has}
use Rattle.desk_arrays.proofs.SeatsChanged.{freed_set, freed_same}
use Rattle.desk_arrays.proofs.StatusCodes.{closed_code}
use Rattle.desk_arrays.proofs.Granting.{statuses_of, modes_of}
use Rattle.desk_arrays.proofs.SettleAll.{Stage}
use Rattle.desk_arrays.proofs.RunSettled.{end_stage, end_modes}
use Rattle.desk_arrays.proofs.EveryGrant.{wakes_apart}
use Rattle.desk_arrays.proofs.Telling.{said_tied}
use Rattle.desk_arrays.proofs.Reading.{paper_of}

module _ {d : Desk} {q : ℕ → List Waiter} (plain : Plain d) (v : Inv (paper_of d q)) {j p : ℕ} (seat : Seat d.number j p) where
  -- a job that is sent back keeps its place
  pub sent_tied : (c : ℕ) → Tied (performed d j c (Ok (End p SentBack))) (send_back (paper_of d q) j)
  unfolding performed carried ended code_after numbers_after answer_to answer_after send_back rule4 status_by mode_by status_for
  sent_tied c = said_tied (Back j) (settled d p sent_back_code).woken (record {
    next = refl;
    jobs = refl;
    stat = λ i. sym (ap (λ f. f i) g.statuses);
    held = λ c i. sym (ap (λ f. f i) (end_modes plain v seat sent_back_code (settled d p sent_back_code) g c));
    plain = record {
      numbers = plain.numbers;
      statuses = g.sound.statuses;
      waited = plain.waited;
      asks = plain.asks;
      modes = g.sound.modes;
      free_status = g.sound.free_status;
      free_held = g.sound.free_held;
    };
  }) g.told (omega (arith, g.sound.room))
    where
      g : Stage (paper_of d q) j sentback d.cell d.ask cells (settled d p sent_back_code)
      g = end_stage plain v seat sent_back_code (λ e. omega arith) (λ c a. sentback_not_waiting refl)

  module _ (s : Settling) (g : Stage (paper_of d q) j closed d.cell d.ask cells s) (modes : (c : ℕ) → modes_of d.number s c ≡ (rows_after (paper_of d q) j c).row.held) where
    -- a job that is closed is so in the arrays
    own_status : statuses_of d.number d.cell d.ask s j ≡ closed
    own_status = ap (λ f. f j) g.statuses ∙ self_after v j closed

    -- and holds nothing
    own_mode_lem : (c : ℕ) → modes_of d.number s c j ≡ Free
    own_mode_lem c = ap (λ f. f j) (modes c) ∙ (row_releases v j c).dropped

    -- its place, like every free one, is marked free
    freed_status : (r : ℕ) → r < places → get_or (set d.number p 0) r 0 ≡ 0 → get_or s.status r 0 ≡ free_code
    unfolding status_at
    freed_status r l e =
        by_same r p
        (λ c. subst (λ x. get_or s.status x 0 ≡ free_code) (sym c)
        (closed_code (get_or s.status p 0) (get_or d.cell p 0) (ask_of (get_or d.ask p 0)) (sym (seat_has closed d.number (status_at s.status d.cell d.ask) seat) ∙ own_status)))
        (λ n. g.sound.free_status r l (sym (get_or-set_other d.number p r 0 0 n) ∙ e))

    -- and holds nothing
    freed_held : (r : ℕ) → r < places → get_or (set d.number p 0) r 0 ≡ 0 → (c : ℕ) → mode_at s.held c r ≡ Free
    freed_held r l e c =
        by_same r p
        (λ i. subst (λ x. mode_at s.held c x ≡ Free) (sym i) (sym (seat_has Free d.number (mode_at s.held c) seat) ∙ own_mode_lem c))
        (λ n. g.sound.free_held r l (sym (get_or-set_other d.number p r 0 0 n) ∙ e) c)

  -- a job that is closed frees its place
  pub close_tied : (c : ℕ) → Tied (performed d j c (Ok (End p Closed))) (close (paper_of d q) j)
  unfolding performed carried ended code_after numbers_after answer_to answer_after close rule4 status_by mode_by status_for
  close_tied c = said_tied (Go j) s.woken (record {
    next = refl;
    jobs = sym (freed_set seat v.once);
    stat = λ i. sym (freed_same seat v.once closed (status_at s.status d.cell d.ask) (own_status s g modes) i ∙ ap (λ f. f i) g.statuses);
    held = λ c i. sym (freed_same seat v.once Free (mode_at s.held c) (own_mode_lem s g modes c) i ∙ ap (λ f. f i) (modes c));
    plain = record {
      numbers = length-set d.number p 0 ∙ plain.numbers;
      statuses = g.sound.statuses;
      waited = plain.waited;
      asks = plain.asks;
      modes = g.sound.modes;
      free_status = freed_status s g modes;
      free_held = freed_held s g modes;
    };
  }) (untold ∙ g.told) (omega (arith, g.sound.room))
    where
      s : Settling
      s = settled d p free_code

      g : Stage (paper_of d q) j closed d.cell d.ask cells s
      g = end_stage plain v seat free_code (λ e. omega arith) (λ c a. not_open_not_waiting (closed_not_open refl))

      modes : (c : ℕ) → modes_of d.number s c ≡ (rows_after (paper_of d q) j c).row.held
      modes = end_modes plain v seat free_code s g

      -- the wakes are told alike once the number is gone
      untold : map (wake_at (set d.number p 0) d.cell d.ask) s.woken ≡ map (wake_at d.number d.cell d.ask) s.woken
      untold = unfold settled in
          wakes_apart d.number d.cell d.ask p cells (record { held = dropped_by d.held p cells; status = set d.status p free_code; woken = [] })
          (λ e. let z : get_or (set d.status p free_code) p 0 ≡ free_code = get_or-set_same d.status p free_code 0 (seat_below seat (length d.status) (plain.numbers ∙ sym plain.statuses)) in omega arith) refl
