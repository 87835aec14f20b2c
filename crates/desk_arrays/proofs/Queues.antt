-- A cell's queue, read off the statuses, descends and holds exactly the cell's waiters. So its front is the youngest waiting place, and the tests of waiters over the places are the rules' own.
-- Assumes nothing.
use Prim.Native.Nat.{ℕ, ◌<◌}
use mathlib.Core.Path.{◌≡◌, refl, sym, ap, subst, ◌∙◌}
use mathlib.Core.Logic.{◌≢◌}
use mathlib.Core.Bool.{true, not, ◌||◌}
use mathlib.Core.List.{List, [], ◌∷◌}
use native.Mathlib.Omega.{arith}
use lib.Dec.{ltb}
use lib.ListN.{length, get_or}
use borrow.Author.Tests.{ltb-true, lt-ltb, not-true}
use Rattle.laws.specs.Choice.{by_test, not_both}
use Rattle.laws.specs.Lists.{pos}
use Rattle.terms.specs.declared.letters.Ask.{Ask}
use Rattle.terms.specs.Limits.{places}
use Rattle.laws.specs.Functions.{at}
use Rattle.laws.specs.Standing.{In, first, later}
use Rattle.desk_rules.specs.Desk.{Status, closed, running, waiting, Waiter}
use Rattle.desk_rules.specs.Locks.{is_empty, older_than_waiters}
use Rattle.desks.specs.Places.{Once}
use Rattle.desk_rules.specs.Invariant.{Falling}
use Rattle.laws.proofs.Standing.{in_none, in_split}
use Rattle.desk_rules.proofs.Statuses.{running_not_waiting, closed_not_open, not_open_not_waiting}
use Rattle.laws.proofs.Functions.{at_other, at_each}
use Rattle.desk_rules.proofs.Tests.{empty_queue, some_waiter, older_waiters, each_older_waiters}
use Rattle.desk_arrays.specs.Codes.{ask_of}
use Rattle.desk_arrays.specs.Places.{waits_at, nobody_waits, oldest_of, youngest}
use Rattle.desk_arrays.specs.Stands.{by_number, status_at}
use Rattle.desks.proofs.Seats.{Seat, seat_below, seat_only}
use Rattle.desk_arrays.proofs.ByNumber.{FreeHas, seat_has, place_has, has_seat}
use Rattle.desk_arrays.proofs.StatusCodes.{waits_status, waits_below, status_waits}
use Rattle.desk_arrays.proofs.EveryPlace.{same_test, all_each, each_all}
use Rattle.desk_arrays.proofs.Front.{no_youngest, is_youngest}

-- the queue of a cell by the statuses
pub record QueueOf (st : ℕ → Status) (c : ℕ) (q : List Waiter) : Type 0 where
  pub falls : Falling q
  pub stands : (w : Waiter) → In w q → st w.job ≡ waiting c w.ask
  pub queued : (j : ℕ) (a : Ask) → st j ≡ waiting c a → In (record { job = j; ask = a }) q

-- once the first runs, the rest is the queue
pub rest_queue : {st : ℕ → Status} {c : ℕ} {w : Waiter} {q : List Waiter} → QueueOf st c (w ∷ q) → QueueOf (at st w.job running) c q
rest_queue {st} {c} {w} {q} k = record {
  falls = k.falls.1;
  stands = λ v h. at_other st w.job running v.job (λ e. let l : v.job < w.job = k.falls.0 v h in omega arith) ∙ k.stands v (later h);
  queued = λ j a. at_each (λ s. s ≡ waiting c a → In (record { job = j; ask = a }) q) st w.job running j
      (λ _ h. absurd (running_not_waiting refl h))
      (λ d h. in_split (k.queued j a h) (λ e. absurd (d (ap (λ x. x.job) e))) (λ l. l));
}

module _ (ks status cell ask : List ℕ) (o : Once ks) (free : FreeHas closed ks (status_at status cell ask)) (size : length ks ≡ places) (sizes : length status ≡ places) where
  module _ {c : ℕ} {q : List Waiter} (k : QueueOf (by_number closed ks (status_at status cell ask)) c q) where
    -- a waiter has a place
    pub waiter_seat : (w : Waiter) → In w q → Seat ks w.job (pos ks w.job)
    waiter_seat w h =
        has_seat closed ks (status_at status cell ask) w.job
        (λ e. not_open_not_waiting (closed_not_open e) (k.stands w h)) (λ s. s)

    -- which waits for the cell with what the waiter asks
    pub waiter_waits : (w : Waiter) → In w q → (waits_at status cell c (pos ks w.job) ≡ true) × (ask_of (get_or ask (pos ks w.job) 0) ≡ w.ask)
    waiter_waits w h =
        status_waits status cell ask (pos ks w.job) (sym (seat_has closed ks (status_at status cell ask) (waiter_seat w h)) ∙ k.stands w h)

    -- a place that waits for the cell is one of the list
    waits_within_lem : (p : ℕ) → waits_at status cell c p ≡ true → p < length ks
    waits_within_lem p h = subst (λ n. p < n) (sizes ∙ sym size) (waits_below status cell ask c p h)

    -- and its job is a waiter
    pub waiting_in : (p : ℕ) → waits_at status cell c p ≡ true → In (record { job = get_or ks p 0; ask = ask_of (get_or ask p 0) }) q
    waiting_in p h =
        k.queued (get_or ks p 0) (ask_of (get_or ask p 0)) (place_has closed ks (status_at status cell ask) o free p (waits_within_lem p h) ∙ waits_status status cell ask c p h)

    -- a waiter's place is one of the 32
    waiter_below : (w : Waiter) → In w q → pos ks w.job < places
    waiter_below w h = seat_below (waiter_seat w h) places size

    -- nobody waits for the cell where the queue is empty
    pub nobody_waits_lem : nobody_waits status cell c ≡ is_empty q
    unfolding nobody_waits
    nobody_waits_lem =
        same_test (nobody_waits status cell c) (is_empty q)
        (λ t. by_test (is_empty q) (λ e. e)
        (λ f. let (w, rest, e) = some_waiter q f in let h : In w q = subst (In w) (sym e) first in
        not_both (waiter_waits w h).0 (not-true (waits_at status cell c (pos ks w.job)) (all_each (λ p. not (waits_at status cell c p)) places t (pos ks w.job) (waiter_below w h)))))
        (λ t. each_all (λ p. not (waits_at status cell c p)) places
        (λ p _. by_test (waits_at status cell c p) (λ e. in_none (subst (In _) (empty_queue q t) (waiting_in p e))) (λ f. rw f)))

    -- older than every place that waits for the cell is older than every waiter
    pub oldest_of_lem : (j : ℕ) → oldest_of ks status cell c j ≡ older_than_waiters q j
    unfolding oldest_of
    oldest_of_lem j =
        same_test (oldest_of ks status cell c j) (older_than_waiters q j)
        (λ t. each_older_waiters q j
        (λ w h. subst (λ n. j < n) (waiter_seat w h).sits (ltb-true j (get_or ks (pos ks w.job) 0) (rw (waiter_waits w h).0 at (all_each (λ p. not (waits_at status cell c p) || ltb j (get_or ks p 0)) places t (pos ks w.job) (waiter_below w h))))))
        (λ t. each_all (λ p. not (waits_at status cell c p) || ltb j (get_or ks p 0)) places
        (λ p _. by_test (waits_at status cell c p) (λ e. rw e (lt-ltb j (get_or ks p 0) (older_waiters q j t (record { job = get_or ks p 0; ask = ask_of (get_or ask p 0) }) (waiting_in p e)))) (λ f. rw f)))

  -- where nobody waits there is no front
  pub no_front : (c : ℕ) → QueueOf (by_number closed ks (status_at status cell ask)) c [] → youngest ks status cell c places ≡ places
  no_front c k = no_youngest ks status cell c places (λ p _. by_test (waits_at status cell c p) (λ t. in_none (waiting_in k p t)) (λ f. f))

  -- the front is the place of the first waiter
  pub front : (c : ℕ) (w : Waiter) (q : List Waiter) → QueueOf (by_number closed ks (status_at status cell ask)) c (w ∷ q) → youngest ks status cell c places ≡ pos ks w.job
  front c w q k =
      is_youngest ks status cell c (pos ks w.job) (waiter_waits k w first).0 others size
      (rw seat.sits (positive seat.real)) places (waiter_below k w first)
    where
      seat : Seat ks w.job (pos ks w.job)
      seat = waiter_seat k w first

      positive : {n : ℕ} → n ≢ 0 → 0 < n
      positive d = omega arith

      others : (p : ℕ) → waits_at status cell c p ≡ true → p ≢ pos ks w.job → get_or ks p 0 < get_or ks (pos ks w.job) 0
      others p t d =
          in_split (waiting_in k p t)
          (λ e. absurd (d (seat_only seat o p (waits_within_lem k p t) (ap (λ x. x.job) e))))
          (λ h. rw seat.sits (k.falls.0 (record { job = get_or ks p 0; ask = ask_of (get_or ask p 0) }) h))
