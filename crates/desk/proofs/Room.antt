-- Each grant turns one waiter into one wake, so wakes and waiters keep their sum, nobody starts to wait, and no wake is lost.
-- Assumes nothing.
use Prim.Native.Nat.{ℕ, suc, ◌+◌, ◌≤◌, ◌<◌}
use mathlib.Core.Path.{◌≡◌, refl, sym, ap, ◌∙◌}
use mathlib.Core.List.{List, [], ◌∷◌}
use native.Mathlib.Omega.{arith}
use lib.Dec.{eqb, ltb}
use lib.ListN.{length, get_or, set, length-append, get_or-eq_default}
use lib.Seq.{get_or-set_other}
use borrow.Author.Tests.{eqb-true, eqb-false, ltb-true, ltb-false}
use Rattle.laws.specs.Choice.{by_test}
use Rattle.terms.specs.Limits.{places}
use Rattle.desk_arrays.specs.Codes.{running_code, waiting_code}
use Rattle.desk_arrays.specs.Places.{waiters}
use Rattle.desk_arrays.specs.Settling.{Settling, granted, settle_cell, settle_all}
use Rattle.desk_arrays.proofs.WaitingCount.{waiters_woken}
use Rattle.desk_arrays.proofs.Front.{front_waits}
use Rattle.desk_arrays.proofs.EveryGrant.{waits_code, Kept, cell_keeps, all_keep}
use Rattle.desk.proofs.Grants.{front}

-- a place that waits is one of the list
waiting_inside : (status : List ℕ) (p : ℕ) → get_or status p 0 ≡ waiting_code → p < length status
waiting_inside status p h =
    by_test (ltb p (length status)) (ltb-true p (length status))
    (λ f. absurd (omega (arith, get_or-eq_default status 0 {n = p} (ltb-false p (length status) f))))

-- a place that waited and runs again is one waiter less
waiters_less : (status : List ℕ) (p : ℕ) → p < places → get_or status p 0 ≡ waiting_code → suc (waiters (set status p running_code) places) ≡ waiters status places
waiters_less status p l e = waiters_woken status p running_code (waiting_inside status p e) e (λ q. omega arith) places l

-- the wakes so far and the waiters
abbrev pub room : Settling → ℕ
room s = length s.woken + waiters s.status places

-- nobody waits in the first that did not in the second
abbrev pub NoNewWaiter : Settling → Settling → Type 0
NoNewWaiter t s = (q : ℕ) → get_or t.status q 0 ≡ waiting_code → get_or s.status q 0 ≡ waiting_code

module _ (cell : List ℕ) (s : Settling) (c : ℕ) where
  -- a grant keeps the room
  room_kept : Kept cell (λ t. room t ≡ room s) c
  unfolding granted
  room_kept q a t l w h = omega (arith, waiters_less t.status q l (waits_code t.status cell c q w), length-append t.woken (q ∷ []))

  -- a grant makes nobody wait
  waiting_kept : Kept cell (λ t. NoNewWaiter t s) c
  unfolding granted
  waiting_kept q a t l w h r e =
      by_test (eqb r q) (λ i. h r (ap (λ k. get_or t.status k 0) (eqb-true r q i) ∙ waits_code t.status cell c q w))
      (λ f. h r (sym (get_or-set_other t.status q r running_code 0 (eqb-false r q f)) ∙ e))

  -- a grant loses no wake
  grows_kept : Kept cell (λ t. length s.woken ≤ length t.woken) c
  unfolding granted
  grows_kept q a t l w h = omega (arith, length-append t.woken (q ∷ []))

module _ (number cell ask : List ℕ) (s : Settling) where
  -- any number of grants keep the room
  pub cell_room : (c n : ℕ) → room (settle_cell number cell ask c n s) ≡ room s
  cell_room c n = cell_keeps number cell ask (λ t. room t ≡ room s) c (room_kept cell s c) n s refl

  -- and lose no wake
  pub cell_grows : (c n : ℕ) → length s.woken ≤ length (settle_cell number cell ask c n s).woken
  cell_grows c n = cell_keeps number cell ask (λ t. length s.woken ≤ length t.woken) c (grows_kept cell s c) n s (omega arith)

  -- cell after cell
  pub all_room : (n : ℕ) → room (settle_all number cell ask n s) ≡ room s
  all_room n = all_keep number cell ask (λ t. room t ≡ room s) (room_kept cell s) n s refl

  -- cell after cell
  pub all_waiting : (n : ℕ) → NoNewWaiter (settle_all number cell ask n s) s
  all_waiting n = all_keep number cell ask (λ t. NoNewWaiter t s) (waiting_kept cell s) n s (λ q e. e)

  -- while somebody is in front, there is room for one more wake
  pub wake_fits : (c n : ℕ) → room s ≤ places → front number cell ask c (settle_cell number cell ask c n s) < places → length (settle_cell number cell ask c n s).woken < places
  wake_fits c n h l =
      let x = settle_cell number cell ask c n s in
      let w = waits_code x.status cell c (front number cell ask c x) (front_waits number x.status cell c places l) in
      omega (arith, waiters_less x.status (front number cell ask c x) l w, cell_room c n)
