-- A fact that holds before the cells are settled, and that each grant to a waiting place keeps, holds at the end. So the place whose run has ended is not woken.
-- Assumes nothing.
use Prim.Native.Nat.{ℕ, zero, suc, ◌<◌}
use mathlib.Core.Path.{◌≡◌, sym, ap, ap₂, ◌∙◌}
use mathlib.Core.Logic.{◌≢◌}
use mathlib.Core.Bool.{true, ◌&&◌}
use mathlib.Core.List.{List, [], ◌∷◌, ◌++◌, map, map-append}
use lib.Dec.{eqb, ltb}
use lib.ListN.{get_or, set}
use lib.Seq.{get_or-set_other}
use borrow.Author.Tests.{eqb-true, ltb-true}
use Rattle.laws.specs.Choice.{by_test}
use Rattle.laws.proofs.Parts.{and_first}
use Rattle.terms.specs.declared.letters.Ask.{Ask}
use Rattle.terms.specs.Limits.{places}
use Rattle.desk_arrays.specs.Codes.{running_code, waiting_code, ask_of}
use Rattle.desk_arrays.specs.Places.{waits_at, agrees_at, youngest, wants_at}
use Rattle.desk_arrays.specs.Settling.{Settling, granted, grant_front, settle_cell, settle_all}
use Rattle.desk_arrays.specs.Steps.{wake_at}
use Rattle.desk_arrays.proofs.Front.{front_waits}

-- a place that waits for a cell has the status of one that waits
pub waits_code : (status cell : List ℕ) (c q : ℕ) → waits_at status cell c q ≡ true → get_or status q 0 ≡ waiting_code
unfolding waits_at
waits_code status cell c q h = eqb-true (get_or status q 0) waiting_code (and_first (eqb (get_or status q 0) waiting_code) (eqb (get_or cell q 0) c) h)

-- every grant to a place that waits keeps it
abbrev pub Kept : List ℕ → (Settling → Type 0) → ℕ → Type 0
Kept cell P c = (q : ℕ) (a : Ask) (s : Settling) → q < places → waits_at s.status cell c q ≡ true → P s → P (granted c q a s)

module _ (number cell ask : List ℕ) (P : Settling → Type 0) where
  module _ (c : ℕ) (kept : Kept cell P c) where
    -- one grant, if there is one
    pub grant_keeps : (s : Settling) → P s → P (grant_front number cell ask c s)
    unfolding grant_front
    grant_keeps s h =
        let q = youngest number s.status cell c places in
        by_test (ltb q places && agrees_at s.held c q (wants_at s.held c q (ask_of (get_or ask q 0))))
        (λ t. let l = ltb-true q places (and_first (ltb q places) _ t) in rw t (kept q (ask_of (get_or ask q 0)) s l (front_waits number s.status cell c places l) h)) (λ f. rw f h)

    -- some number of grants on one cell
    pub cell_keeps : (n : ℕ) (s : Settling) → P s → P (settle_cell number cell ask c n s)
    unfolding settle_cell
    cell_keeps zero s h = h
    cell_keeps (suc n) s h = grant_keeps (settle_cell number cell ask c n s) (cell_keeps n s h)

  -- cell after cell
  pub all_keep : ((c : ℕ) → Kept cell P c) → (n : ℕ) (s : Settling) → P s → P (settle_all number cell ask n s)
  unfolding settle_all
  all_keep kept zero s h = h
  all_keep kept (suc c) s h = cell_keeps c (kept c) places (settle_all number cell ask c s) (all_keep kept c s h)

-- place p does not wait, and the wakes so far tell nothing of it: so they are told alike once its number is gone
record Apart (number cell ask : List ℕ) (p : ℕ) (s : Settling) : Type 0 where
  idle : get_or s.status p 0 ≢ waiting_code
  apart : map (wake_at (set number p 0) cell ask) s.woken ≡ map (wake_at number cell ask) s.woken

-- a grant to another place
apart_granted : (number cell ask : List ℕ) (p c : ℕ) → Kept cell (Apart number cell ask p) c
unfolding granted wake_at
apart_granted number cell ask p c q a s l w h = record {
  idle = λ e. h.idle (sym (get_or-set_other s.status q p running_code 0 (λ i. other (sym i))) ∙ e);
  apart = map-append (wake_at (set number p 0) cell ask) s.woken (q ∷ []) ∙ ap₂ (λ x y. x ++ y) h.apart (rw (get_or-set_other number p q 0 0 other)) ∙ sym (map-append (wake_at number cell ask) s.woken (q ∷ []));
}
  where
    other : q ≢ p
    other e = h.idle (ap (λ i. get_or s.status i 0) (sym e) ∙ waits_code s.status cell c q w)

-- the place whose run has ended is not woken: the wakes are told alike once its number is gone
pub wakes_apart : (number cell ask : List ℕ) (p n : ℕ) (s : Settling) → get_or s.status p 0 ≢ waiting_code → s.woken ≡ [] →
    map (wake_at (set number p 0) cell ask) (settle_all number cell ask n s).woken ≡ map (wake_at number cell ask) (settle_all number cell ask n s).woken
wakes_apart number cell ask p n s i e =
    (all_keep number cell ask (Apart number cell ask p) (apart_granted number cell ask p) n s
    (record { idle = i; apart = rw e })).apart
