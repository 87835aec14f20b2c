-- Granting from the front of a cell's queue: when it stops changing anything, and why a loop that stops early does the same as 32 rounds.
-- Assumes nothing.
use Prim.Native.Nat.{ℕ, zero, suc, ◌+◌, ◌≤◌, ◌<◌}
use mathlib.Core.Path.{◌≡◌, refl, sym, ap, ◌∙◌}
use mathlib.Core.Bool.{Bool, true, false, ◌&&◌}
use mathlib.Core.List.{List}
use native.Mathlib.Numerals.{add-one}
use native.Mathlib.Omega.{arith}
use lib.Dec.{eqb, ltb}
use lib.ListN.{get_or}
use borrow.Author.Tests.{eqb-true, eqb-false, ltb-true, lt-ltb, le-ltb}
use Rattle.std.proofs.lemmas.Option.{some_pair_parts}
use Rattle.laws.specs.Choice.{pick, by_test}
use Rattle.laws.proofs.Parts.{and_first}
use Rattle.terms.specs.Limits.{places, cells}
use Rattle.conflict.specs.declared.modes.Mode.{Mode}
use Rattle.desk_arrays.specs.Codes.{ask_of}
use Rattle.desk_arrays.specs.Places.{youngest, agrees_at, wants_at}
use Rattle.desk_arrays.specs.Settling.{Settling, granted, grant_front, settle_cell}
use Rattle.std.specs.Prelude.{Option, Some, None}
use Rattle.desk_plan.specs.Grants.{next_grant}

-- a choice that came out as somebody: the test holds, and the parts are those given
pub record Picked (b : Bool) (p : ℕ) (m : Mode) (q : ℕ) (k : Mode) : Type 0 where
  pub is_so : b ≡ true
  pub place : q ≡ p
  pub mode : k ≡ m

-- a choice that came out as nobody: the test fails
picked_nobody : (b : Bool) (p : ℕ) (m : Mode) → pick {A = Option (ℕ × Mode)} b (Some (p, m)) None ≡ None → b ≡ false
picked_nobody true p m h = let z : ◌≡◌ {A = ℕ} 0 1 = cc in absurd (omega arith)
picked_nobody false p m h = refl

-- a choice that came out as somebody
picked_to : (b : Bool) {p q : ℕ} {m k : Mode} → pick {A = Option (ℕ × Mode)} b (Some (p, m)) None ≡ Some (q, k) → Picked b p m q k
picked_to true {p} {q} {m} {k} h = let e = some_pair_parts p q m k h in record { is_so = refl; place = sym e.0; mode = sym e.1 }
picked_to false h = let z : ◌≡◌ {A = ℕ} 0 1 = cc in absurd (omega arith)

module _ (number cell ask : List ℕ) (c : ℕ) where
  -- the front of the queue
  abbrev pub front : Settling → ℕ
  front s = youngest number s.status cell c places

  -- the mode that the front asks for
  abbrev pub fronts : Settling → Mode
  fronts s = wants_at s.held c (front s) (ask_of (get_or ask (front s) 0))

  -- whether the front may be granted it
  abbrev pub may_grant : Settling → Bool
  may_grant s = ltb (front s) places && agrees_at s.held c (front s) (fronts s)

  -- it may not: nothing changes
  pub grant_stands : (s : Settling) → may_grant s ≡ false → grant_front number cell ask c s ≡ s
  unfolding grant_front
  grant_stands s h = rw h

  -- it may: it is granted
  pub grant_grants : (s : Settling) → may_grant s ≡ true → grant_front number cell ask c s ≡ granted c (front s) (ask_of (get_or ask (front s) 0)) s
  unfolding grant_front
  grant_grants s h = rw h

  -- where nobody is found, nothing changes
  pub stands_empty : (s : Settling) → front s ≡ places → grant_front number cell ask c s ≡ s
  stands_empty s e = grant_stands s (rw (e, le-ltb places places (omega arith)))

  module _ (s : Settling) {g : Option (ℕ × Mode)} (inside : c < cells) (found : g ≡ next_grant number s.status cell ask s.held c) where
    -- what is found, by whether the front may be granted what it asks for
    found_by : g ≡ pick (may_grant s) (Some (front s, fronts s)) None
    unfolding next_grant
    found_by = rw (lt-ltb c cells inside) at found

    -- nobody is granted: nothing changes
    pub none_granted : g ≡ None → grant_front number cell ask c s ≡ s
    none_granted h = grant_stands s (picked_nobody (may_grant s) _ _ (sym found_by ∙ h))

    -- the place granted is the front, with what it asks for
    pub who_granted : {p : ℕ} {m : Mode} → g ≡ Some (p, m) → Picked (may_grant s) (front s) (fronts s) p m
    who_granted h = picked_to (may_grant s) (sym found_by ∙ h)

    -- the granted place is one of the 32
    pub granted_place : {p : ℕ} {m : Mode} → g ≡ Some (p, m) → p < places
    granted_place h =
        let w = who_granted h in
        let l = ltb-true (front s) places (and_first (ltb (front s) places) _ w.is_so) in
        rw w.place l

  -- one more time
  pub settle_more : (s : Settling) (n : ℕ) → grant_front number cell ask c (settle_cell number cell ask c n s) ≡ settle_cell number cell ask c (n + 1) s
  unfolding settle_cell
  settle_more s n = rw add-one

  -- from a time that changes nothing on, all further ones change nothing
  pub settle_stop : (s : Settling) (n m : ℕ) → grant_front number cell ask c (settle_cell number cell ask c n s) ≡ settle_cell number cell ask c n s → n ≤ m →
      settle_cell number cell ask c n s ≡ settle_cell number cell ask c m s
  unfolding settle_cell
  settle_stop s n zero g h = let e : n ≡ 0 = omega arith in ap (λ k. settle_cell number cell ask c k s) e
  settle_stop s n (suc m) g h =
      by_test (eqb n (suc m)) (λ t. ap (λ k. settle_cell number cell ask c k s) (eqb-true n (suc m) t))
      (λ f. let l : n ≡ suc m → ⊥ = eqb-false n (suc m) f in sym g ∙ ap (grant_front number cell ask c) (settle_stop s n m g (omega arith)))
