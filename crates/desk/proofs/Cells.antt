-- Rule 4 as the code does it: a grant, one cell more, a skipped cell without waiters; the woken places stand in the first places of a list.
-- Assumes nothing.
use Prim.Native.Nat.{ℕ, zero, suc, ◌+◌, ◌≤◌, ◌<◌}
use mathlib.Core.Path.{◌≡◌, refl, sym, ap, subst, ◌∙◌}
use mathlib.Core.Bool.{Bool, true, false, not}
use mathlib.Core.List.{List, [], ◌∷◌}
use native.Mathlib.Numerals.{add-one}
use native.Mathlib.Omega.{arith}
use lib.Dec.{eqb}
use lib.ListN.{length, get_or, set, take, length-append}
use borrow.Author.Tests.{not-true}
use Rattle.laws.specs.Lists.{filled}
use Rattle.laws.specs.Choice.{by_test, not_both}
use Rattle.terms.specs.Limits.{places, cells}
use Rattle.conflict.specs.declared.modes.Mode.{Mode}
use Rattle.conflict.specs.Modes.{code_of}
use Rattle.desk_arrays.specs.Codes.{running_code, waiting_code, ask_of}
use Rattle.desk_arrays.specs.Places.{spot, waits_at, waiters}
use Rattle.desk_arrays.specs.Settling.{Settling, granted, settle_cell, settle_all}
use Rattle.desk_arrays.proofs.EveryPlace.{all_each}
use Rattle.desk_arrays.proofs.Front.{no_youngest}
use Rattle.desk_arrays.proofs.EveryGrant.{waits_code}
use Rattle.std.specs.Prelude.{Option, Some, None}
use Rattle.desk_plan.specs.Grants.{none_waits, wanted, next_grant}
use Rattle.desk_plan.proofs.Wanted.{unwanted}
use Rattle.desk.specs.InPlace.{Reached}
use Rattle.laws.proofs.Filled.{filled_first, filled_more, filled_again}
use Rattle.desk.proofs.Grants.{Picked, front, fronts, may_grant, grant_grants, stands_empty, none_granted, who_granted, granted_place, settle_more, settle_stop}
use Rattle.desk.proofs.Room.{room, NoNewWaiter, cell_grows, all_room, all_waiting, wake_fits}

-- the state that arrays hold, with the first `count` entries of a list as the places woken
abbrev pub holds : List ℕ → List ℕ → List ℕ → ℕ → Settling
holds held status woken count = record { held = held; status = status; woken = take count woken }

module _ {s : Settling} {l held status woken : List ℕ} {count : ℕ} (r : Reached s l held status woken count) where
  -- what is reached is what the arrays hold
  pub reached_holds : holds held status woken count ≡ s
  reached_holds = λ i. record { held = r.modes i; status = r.doing i; woken = told i }
    where
      told : take count woken ≡ s.woken
      told = ap (λ n. take n woken) r.many ∙ ap (take (length s.woken)) r.places ∙ filled_first s.woken l

-- the same, by another name for the state
pub reached_as : {s t : Settling} {l held status woken : List ℕ} {count : ℕ} → Reached s l held status woken count → s ≡ t → Reached t l held status woken count
reached_as {l = l} {held} {status} {woken} {count} r e = subst (λ x. Reached x l held status woken count) e r

module _ (number cell ask : List ℕ) (c : ℕ) (s₀ : Settling) (inside : c < cells) where
  -- the state after n grants
  abbrev at_turn : ℕ → Settling
  at_turn n = settle_cell number cell ask c n s₀

  module _ (n : ℕ) {l held status woken : List ℕ} {count : ℕ} (r : Reached (at_turn n) l held status woken count) {g : Option (ℕ × Mode)} (found : g ≡ next_grant number status cell ask held c) where
    -- what is found is found of the state reached
    found_there : g ≡ next_grant number (at_turn n).status cell ask (at_turn n).held c
    found_there = found ∙ ap (λ x. next_grant number x cell ask held c) r.doing ∙ ap (λ x. next_grant number (at_turn n).status cell ask x c) r.modes

    -- nobody is granted: further turns change nothing
    pub cell_stops : g ≡ None → n ≤ places → Reached (settle_cell number cell ask c places s₀) l held status woken count
    cell_stops h b = reached_as r (settle_stop number cell ask c s₀ n places (none_granted number cell ask c (at_turn n) inside found_there h) b)

    module _ {p : ℕ} {m : Mode} (granting : g ≡ Some (p, m)) where
      -- the granted place is one of the 32
      pub turn_place : p < places
      turn_place = granted_place number cell ask c (at_turn n) inside found_there granting

      -- there is room in the list
      pub turn_room : room s₀ ≤ places → count < places
      turn_room h =
          let q = who_granted number cell ask c (at_turn n) inside found_there granting in
          let f : front number cell ask c (at_turn n) < places = rw q.place at turn_place in
          rw r.many (wake_fits number cell ask s₀ c n h f)

      -- the front is granted where the arrays stand
      pub turn_granted : {code : ℕ} → code ≡ code_of m → count < length l → Reached (at_turn (n + 1)) l (set held (spot c p) code) (set status p running_code) (set woken count p) (count + 1)
      turn_granted {code} e b = reached_as by_grant (sym (grant_grants number cell ask c x w.is_so) ∙ settle_more number cell ask c s₀ n)
        where
          x : Settling
          x = at_turn n

          w : Picked (may_grant number cell ask c x) (front number cell ask c x) (fronts number cell ask c x) p m
          w = who_granted number cell ask c x inside found_there granting

          by_grant : Reached (granted c (front number cell ask c x) (ask_of (get_or ask (front number cell ask c x) 0)) x) l (set held (spot c p) code) (set status p running_code) (set woken count p) (count + 1)
          by_grant = unfold granted in record {
            modes = rw (e, w.mode, w.place, r.modes);
            doing = rw (w.place, r.doing);
            places = rw (r.places, r.many, w.place) (filled_more x.woken l (front number cell ask c x) (rw (← r.many) b));
            many = rw r.many (omega (arith, length-append x.woken (front number cell ask c x ∷ [])));
          }

-- if nobody new waits, a waiter of a cell waited for it before
still_waits : (t s : Settling) (cell : List ℕ) (c q : ℕ) → NoNewWaiter t s → waits_at t.status cell c q ≡ true → waits_at s.status cell c q ≡ true
unfolding waits_at
still_waits t s cell c q n h = let e = waits_code t.status cell c q h in rw (n q e) (rw e at h)

module _ (number cell ask : List ℕ) (s : Settling) (c : ℕ) {l held status woken : List ℕ} {count : ℕ} (r : Reached (settle_all number cell ask c s) l held status woken count) where
  -- there is room for the wakes of one cell more
  pub cells_room : room s ≤ places → count + waiters status places ≤ places
  cells_room h = rw (r.many, r.doing) (omega (arith, all_room number cell ask s c))

  -- one cell more
  pub cells_settled : {held' status' woken' : List ℕ} {count' : ℕ} → Reached (settle_cell number cell ask c places (holds held status woken count)) woken held' status' woken' count' →
      Reached (settle_all number cell ask (c + 1) s) l held' status' woken' count'
  unfolding settle_all
  cells_settled {held'} {status'} {woken'} {count'} t = rw add-one
      (subst (λ x. Reached x l held' status' woken' count') (ap (settle_cell number cell ask c places) (reached_holds r))
      (record {
        modes = t.modes;
        doing = t.doing;
        places = t.places ∙ ap (filled u.woken) r.places ∙ filled_again (settle_all number cell ask c s).woken l u.woken grown;
        many = t.many;
      }))
    where
      u : Settling
      u = settle_cell number cell ask c places (holds held status woken count)

      grown : length (settle_all number cell ask c s).woken ≤ length u.woken
      grown = subst (λ x. length x.woken ≤ length u.woken) (reached_holds r) (cell_grows number cell ask (holds held status woken count) c places)

  -- one cell more that nobody waits for
  pub cells_passed : {marks : List Bool} → marks ≡ wanted s.status cell places → c < cells → get_or marks c false ≡ false → Reached (settle_all number cell ask (c + 1) s) l held status woken count
  unfolding settle_all settle_cell
  cells_passed {marks} m b h = rw add-one (reached_as r (settle_stop number cell ask c x 0 places (stands_empty number cell ask c x nobody) (omega arith)))
    where
      x : Settling
      x = settle_all number cell ask c s

      unmarked : get_or (wanted s.status cell places) c false ≡ false
      unmarked = rw (← m) h

      nobody : front number cell ask c x ≡ places
      nobody =
          no_youngest number x.status cell c places
          (λ q k. by_test (waits_at x.status cell c q) (λ t. not_both (still_waits x s cell c q (all_waiting number cell ask s c) t) (unwanted s.status cell c places b unmarked q k)) (λ t. t))

-- where nobody waits, nobody waits for a cell
none_waits_there : (status cell : List ℕ) (c q : ℕ) → none_waits status ≡ true → q < places → waits_at status cell c q ≡ false
unfolding none_waits waits_at
none_waits_there status cell c q h l = rw (not-true (eqb (get_or status q 0) waiting_code) (all_each (λ k. not (eqb (get_or status k 0) waiting_code)) places h q l))

-- where nobody waits at all, settling changes nothing (01, rule 4)
pub none_settled : (number cell ask : List ℕ) (s : Settling) → none_waits s.status ≡ true → (n : ℕ) → settle_all number cell ask n s ≡ s
unfolding settle_all settle_cell
none_settled number cell ask s h zero = refl
none_settled number cell ask s h (suc c) =
    ap (settle_cell number cell ask c places) (none_settled number cell ask s h c)
    ∙ sym (settle_stop number cell ask c s 0 places (stands_empty number cell ask c s (no_youngest number s.status cell c places (λ q l. none_waits_there s.status cell c q h l))) (omega arith))

-- the same of arrays by other names
pub reached_by : {s : Settling} {l held status woken held' status' woken' : List ℕ} {count count' : ℕ} → Reached s l held status woken count →
    held' ≡ held → status' ≡ status → woken' ≡ woken → count' ≡ count → Reached s l held' status' woken' count'
reached_by r a b c d = record { modes = a ∙ r.modes; doing = b ∙ r.doing; places = c ∙ r.places; many = d ∙ r.many }
