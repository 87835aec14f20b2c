-- Settling one cell of the arrays is settling its queue, by induction on the queue: the first waiter is the youngest waiting place, and is granted or stops the search.
-- Assumes nothing.
use Prim.Native.Nat.{ℕ, zero, suc, ◌<◌, ◌≤◌}
use mathlib.Core.Path.{◌≡◌, refl, sym, ap, subst, ◌∙◌}
use mathlib.Core.Logic.{◌≢◌}
use mathlib.Core.Bool.{true}
use mathlib.Core.List.{List, [], ◌∷◌, ◌++◌, append-nil, append_assoc}
use native.Mathlib.Omega.{arith}
use lib.Dec.{eqb}
use lib.ListN.{length, get_or}
use borrow.Author.Tests.{eqb-true, lt-ltb}
use Rattle.laws.specs.Choice.{pick, by_test}
use Rattle.laws.specs.Lists.{pos}
use Rattle.laws.proofs.Parts.{and_first}
use Rattle.terms.specs.Limits.{places, cells}
use Rattle.conflict.specs.declared.modes.Mode.TheVariants.{Free}
use Rattle.conflict.specs.Modes.{needed, asked}
use Rattle.laws.specs.Functions.{at}
use Rattle.laws.specs.Standing.{first}
use Rattle.desk_rules.specs.Desk.{Waiter}
use Rattle.desk_rules.specs.Locks.{agrees, wants, woken_first, Settled, settle}
use Rattle.desk_rules.specs.Rules.{wake, wakes_at, is_woken, run_again}
use Rattle.desks.specs.Places.{Once}
use Rattle.desk_arrays.specs.Codes.{running_code, waiting_code, ask_of}
use Rattle.desk_arrays.specs.Places.{mode_at, waits_at, waiters, wants_at}
use Rattle.desk_arrays.specs.Settling.{Settling, granted, grant_front, settle_cell}
use Rattle.desks.proofs.Seats.{Seat, seat_below}
use Rattle.desk_arrays.proofs.ByNumber.{seat_has}
use Rattle.desk_arrays.proofs.HolderTests.{agrees_at_lem}
use Rattle.desk_arrays.proofs.Queues.{QueueOf, rest_queue, waiter_seat, waiter_waits, no_front, front}
use Rattle.desk_arrays.proofs.WaitingCount.{waiters_woken}
use Rattle.desk_arrays.proofs.Wakened.{wakened_more}
use Rattle.desk_arrays.proofs.Granting.{statuses_of, modes_of, wakes_so_far, Sound, sound_held, sound_closed, granted_sound, granted_modes, granted_others, granted_statuses, granted_told}

-- a cell of the arrays has been settled as its row was
pub record CellDone (ks cell ask : List ℕ) (c : ℕ) (s : Settling) (r : Settled) (t : Settling) : Type 0 where
  pub sound : Sound ks t
  pub modes : modes_of ks t c ≡ r.row.held
  pub others : (b : ℕ) → b ≢ c → modes_of ks t b ≡ modes_of ks s b
  pub statuses : statuses_of ks cell ask t ≡ run_again (statuses_of ks cell ask s) (wakes_at c r.woken)
  pub told : wakes_so_far ks cell ask t ≡ wakes_so_far ks cell ask s ++ wakes_at c r.woken

module _ (ks cell ask : List ℕ) (c : ℕ) where
  -- the front is granted first or last: it is the same
  settle_shift : (n : ℕ) (s : Settling) → settle_cell ks cell ask c (suc n) s ≡ settle_cell ks cell ask c n (grant_front ks cell ask c s)
  unfolding settle_cell
  settle_shift zero s = refl
  settle_shift (suc n) s = ap (grant_front ks cell ask c) (settle_shift n s)

  -- where the front is not granted, nothing changes any more
  settle_stays : (n : ℕ) (s : Settling) → grant_front ks cell ask c s ≡ s → settle_cell ks cell ask c n s ≡ s
  unfolding settle_cell
  settle_stays zero s e = refl
  settle_stays (suc n) s e = ap (grant_front ks cell ask c) (settle_stays n s e) ∙ e

  -- nothing granted, nothing changed
  nothing_done : (s : Settling) (q : List Waiter) → Sound ks s → CellDone ks cell ask c s (record { row = record { held = modes_of ks s c; queue = q }; woken = [] }) s
  unfolding run_again wakes_at is_woken
  nothing_done s q h = record {
    sound = h;
    modes = refl;
    others = λ b d. refl;
    statuses = refl;
    told = sym (append-nil (wakes_so_far ks cell ask s));
  }

module _ (ks cell ask : List ℕ) (c : ℕ) (size : length ks ≡ places) (o : Once ks) {s : Settling} (h : Sound ks s) where
  -- where nobody waits, nobody is granted
  none_granted : QueueOf (statuses_of ks cell ask s) c [] → grant_front ks cell ask c s ≡ s
  unfolding grant_front
  none_granted k = rw (no_front ks s.status cell ask o (sound_closed size h cell ask) size h.statuses c k)

  module _ (w : Waiter) (q : List Waiter) (k : QueueOf (statuses_of ks cell ask s) c (w ∷ q)) where
    -- the place of the first waiter
    seat : Seat ks w.job (pos ks w.job)
    seat = waiter_seat ks s.status cell ask o (sound_closed size h cell ask) size h.statuses k w first

    -- waits for the cell with what it asks
    waits : (waits_at s.status cell c (pos ks w.job) ≡ true) × (ask_of (get_or ask (pos ks w.job) 0) ≡ w.ask)
    waits = waiter_waits ks s.status cell ask o (sound_closed size h cell ask) size h.statuses k w first

    -- the place asks for what the waiter wants
    asks_for : wants_at s.held c (pos ks w.job) w.ask ≡ wants (modes_of ks s c) w
    unfolding wants_at wants
    asks_for = ap (λ m. asked m (needed w.ask)) (sym (seat_has Free ks (mode_at s.held c) seat))

    -- the front is that place, and its test is the rules' own
    front_tried : grant_front ks cell ask c s ≡ pick (agrees ks (modes_of ks s c) w.job (wants (modes_of ks s c) w)) (granted c (pos ks w.job) w.ask s) s
    unfolding grant_front
    front_tried =
        rw (front ks s.status cell ask o (sound_closed size h cell ask) size h.statuses c w q k, waits.1, asks_for, lt-ltb (pos ks w.job) places (seat_below seat places size), agrees_at_lem ks s.held c size o (sound_held size h c) seat (wants (modes_of ks s c) w))

    -- the first waiter granted, and the rest settled
    granted_done : c < cells → (r : Settled) (t : Settling) → CellDone ks cell ask c (granted c (pos ks w.job) w.ask s) r t → CellDone ks cell ask c s (woken_first w r) t
    unfolding woken_first wakes_at wake
    granted_done b r t d = record {
      sound = d.sound;
      modes = d.modes;
      others = λ e n. d.others e n ∙ granted_others cell ask c w.ask size h seat b e n;
      statuses = d.statuses ∙ ap (λ st. run_again st (wakes_at c r.woken)) (granted_statuses cell ask c w.ask size h seat b) ∙ wakened_more (statuses_of ks cell ask s) c w r.woken;
      told = d.told ∙ ap (λ l. l ++ wakes_at c r.woken) (granted_told cell ask c w.ask size h seat b waits.0 waits.1) ∙ append_assoc (wakes_so_far ks cell ask s) (wake c w ∷ []) (wakes_at c r.woken);
    }

    -- once it is granted, the arrays are as they should be
    then_sound : c < cells → Sound ks (granted c (pos ks w.job) w.ask s)
    then_sound b = granted_sound cell ask c w.ask size h seat b waits.0

    -- the rest is the cell's queue
    then_queue : c < cells → QueueOf (statuses_of ks cell ask (granted c (pos ks w.job) w.ask s)) c q
    then_queue b = subst (λ st. QueueOf st c q) (sym (granted_statuses cell ask c w.ask size h seat b)) (rest_queue k)

    -- the job holds what it wants
    then_modes : c < cells → modes_of ks (granted c (pos ks w.job) w.ask s) c ≡ at (modes_of ks s c) w.job (wants (modes_of ks s c) w)
    unfolding wants
    then_modes b = granted_modes cell ask c w.ask size h seat b

    -- and one fewer waits
    then_fewer : suc (waiters (granted c (pos ks w.job) w.ask s).status places) ≡ waiters s.status places
    unfolding granted waits_at
    then_fewer =
        waiters_woken s.status (pos ks w.job) running_code (seat_below seat (length s.status) (size ∙ sym h.statuses))
        (eqb-true (get_or s.status (pos ks w.job) 0) waiting_code (and_first (eqb (get_or s.status (pos ks w.job) 0) waiting_code) (eqb (get_or cell (pos ks w.job) 0) c) waits.0))
        (λ e. omega arith) places (seat_below seat places size)

-- settling a cell of the arrays, as often as there are waiters, settles the cell's queue
pub settle_cell_lem : (ks cell ask : List ℕ) (c : ℕ) → length ks ≡ places → Once ks → c < cells → (q : List Waiter) (n : ℕ) (s : Settling) → Sound ks s → QueueOf (statuses_of ks cell ask s) c q → waiters s.status places ≤ n → CellDone ks cell ask c s (settle ks (modes_of ks s c) q) (settle_cell ks cell ask c n s)
unfolding settle
settle_cell_lem ks cell ask c size o b [] n s h k l =
    rw (settle_stays ks cell ask c n s (none_granted ks cell ask c size o h k)) (nothing_done ks cell ask c s [] h)
settle_cell_lem ks cell ask c size o b (w ∷ q) zero s h k l = absurd (omega (arith, then_fewer ks cell ask c size o h w q k))
settle_cell_lem ks cell ask c size o b (w ∷ q) (suc n) s h k l =
    by_test (agrees ks (modes_of ks s c) w.job (wants (modes_of ks s c) w))
    (λ t. rw (t, settle_shift ks cell ask c n s, front_tried ks cell ask c size o h w q k, t)
    (granted_done ks cell ask c size o h w q k b (settle ks (at (modes_of ks s c) w.job (wants (modes_of ks s c) w)) q) (settle_cell ks cell ask c n (granted c (pos ks w.job) w.ask s))
    (subst (λ f. CellDone ks cell ask c (granted c (pos ks w.job) w.ask s) (settle ks f q) (settle_cell ks cell ask c n (granted c (pos ks w.job) w.ask s))) (then_modes ks cell ask c size o h w q k b)
    (settle_cell_lem ks cell ask c size o b q n (granted c (pos ks w.job) w.ask s) (then_sound ks cell ask c size o h w q k b) (then_queue ks cell ask c size o h w q k b) (omega (arith, then_fewer ks cell ask c size o h w q k))))))
    (λ f. rw (f, settle_stays ks cell ask c (suc n) s (front_tried ks cell ask c size o h w q k ∙ rw f)) (nothing_done ks cell ask c s (w ∷ q) h))
