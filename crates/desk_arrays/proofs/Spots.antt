-- The table of modes: setting a mode at one place of a cell, or dropping a place's locks, changes nothing else in the table.
-- Assumes nothing.
use Prim.Native.Nat.{ℕ, zero, suc, ◌<◌, ◌≤◌, ◌*◌}
use mathlib.Core.Path.{◌≡◌, refl, sym, ap, subst, ◌∙◌}
use mathlib.Core.Logic.{◌≢◌}
use mathlib.Core.List.{List}
use native.Mathlib.Omega.{arith}
use lib.ListN.{length, set, length-set, get_or-eq_default}
use lib.Seq.{get_or-set_same, get_or-set_other}
use Rattle.terms.specs.Limits.{places, cells}
use Rattle.conflict.specs.declared.modes.Mode.{Mode}
use Rattle.conflict.specs.declared.modes.Mode.TheVariants.{Free}
use Rattle.conflict.specs.Modes.{code_of, mode_of}
use Rattle.conflict.proofs.ModeCodes.{mode_code, mode_zero}
use Rattle.laws.specs.Functions.{at}
use Rattle.laws.proofs.Functions.{at_each}
use Rattle.desk_arrays.specs.Places.{spot, mode_at}
use Rattle.desk_arrays.specs.Settling.{dropped_by}
use Rattle.desk_arrays.proofs.Cases.{by_below, by_last}

-- a number set at one spot is what stands there
set_there : (held : List ℕ) (c p n : ℕ) → spot c p < length held → mode_at (set held (spot c p) n) c p ≡ mode_of n
unfolding mode_at
set_there held c p n h = ap mode_of (get_or-set_same held (spot c p) n 0 h)

-- and nowhere else
set_elsewhere : (held : List ℕ) (c p n b q : ℕ) → spot b q ≢ spot c p → mode_at (set held (spot c p) n) b q ≡ mode_at held b q
unfolding mode_at
set_elsewhere held c p n b q d = ap mode_of (get_or-set_other held (spot c p) (spot b q) n 0 d)

-- at another place of the cell
set_place : (held : List ℕ) (c p n q : ℕ) → q ≢ p → mode_at (set held (spot c p) n) c q ≡ mode_at held c q
set_place held c p n q d = set_elsewhere held c p n c q (λ e. d (omega arith))

-- or on another cell
pub set_cell : (held : List ℕ) (c p n b q : ℕ) → p < places → q < places → b ≢ c → mode_at (set held (spot c p) n) b q ≡ mode_at held b q
set_cell held c p n b q l k d = set_elsewhere held c p n b q (λ e. d (omega arith))

-- so another place's modes stay on every cell
pub set_seat : (held : List ℕ) (c p n b q : ℕ) → p < places → q < places → q ≢ p → mode_at (set held (spot c p) n) b q ≡ mode_at held b q
set_seat held c p n b q l k d = set_elsewhere held c p n b q (λ e. d (omega arith))

-- the spots of the cells and places that there are
pub spot_below : (c p : ℕ) → c < cells → p < places → spot c p < cells * places
spot_below c p h l = omega arith

-- a mode set at one place of a cell
pub set_mode : (held : List ℕ) (c p : ℕ) (m : Mode) → spot c p < length held → (q : ℕ) → mode_at (set held (spot c p) (code_of m)) c q ≡ at (mode_at held c) p m q
set_mode held c p m h q =
    at_each (λ x. mode_at (set held (spot c p) (code_of m)) c q ≡ x) (mode_at held c) p m q
    (λ e. subst (λ r. mode_at (set held (spot c p) (code_of m)) c r ≡ m) (sym e) (set_there held c p (code_of m) h ∙ mode_code m))
    (λ n. set_place held c p (code_of m) q n)

-- past the last cell nothing is held
pub none_beyond : (held : List ℕ) → length held ≡ cells * places → (c p : ℕ) → cells ≤ c → mode_at held c p ≡ Free
unfolding mode_at
none_beyond held e c p h = rw (get_or-eq_default held 0 {n = spot c p} (rw e (omega arith))) mode_zero

-- the table keeps its length
pub dropped_length : (held : List ℕ) (p n : ℕ) → length (dropped_by held p n) ≡ length held
unfolding dropped_by
dropped_length held p zero = refl
dropped_length held p (suc c) = length-set (dropped_by held p c) (spot c p) 0 ∙ dropped_length held p c

-- cells that are not reached keep their modes
dropped_left : (held : List ℕ) (p n c q : ℕ) → p < places → q < places → n ≤ c → mode_at (dropped_by held p n) c q ≡ mode_at held c q
unfolding dropped_by
dropped_left held p zero c q l k h = refl
dropped_left held p (suc n) c q l k h =
    set_cell (dropped_by held p n) n p 0 c q l k (λ e. omega arith) ∙ dropped_left held p n c q l k (omega arith)

-- on the others the place holds nothing, and every other place holds what it held
dropped_done : (held : List ℕ) (p n c q : ℕ) → p < places → q < places → n ≤ cells → length held ≡ cells * places → c < n → mode_at (dropped_by held p n) c q ≡ at (mode_at held c) p Free q
unfolding dropped_by
dropped_done held p zero c q l k b s h = absurd (omega arith)
dropped_done held p (suc n) c q l k b s h =
    by_last c n h
    (λ e. subst (λ b. mode_at (set (dropped_by held p n) (spot n p) 0) b q ≡ at (mode_at held b) p Free q) (sym e) here')
    (λ f. set_cell (dropped_by held p n) n p 0 c q l k (λ e. omega arith) ∙ dropped_done held p n c q l k (omega arith) s f)
  where
    here' : mode_at (set (dropped_by held p n) (spot n p) 0) n q ≡ at (mode_at held n) p Free q
    here' =
        at_each (λ x. mode_at (set (dropped_by held p n) (spot n p) 0) n q ≡ x) (mode_at held n) p Free q
        (λ e. subst (λ r. mode_at (set (dropped_by held p n) (spot n p) 0) n r ≡ Free) (sym e)
        (set_there (dropped_by held p n) n p 0 (rw (dropped_length held p n, s) (spot_below n p (omega arith) l)) ∙ mode_zero))
        (λ d. set_place (dropped_by held p n) n p 0 q d ∙ dropped_left held p n n q l k (omega arith))

-- so a place that drops its locks holds nothing on any cell, and every other place holds what it held
pub dropped_all : (held : List ℕ) (p c q : ℕ) → p < places → q < places → length held ≡ cells * places → mode_at (dropped_by held p cells) c q ≡ at (mode_at held c) p Free q
dropped_all held p c q l k s =
    by_below c cells (dropped_done held p cells c q l k (omega arith) s) beyond
  where
    beyond : cells ≤ c → mode_at (dropped_by held p cells) c q ≡ at (mode_at held c) p Free q
    beyond h =
        none_beyond (dropped_by held p cells) (dropped_length held p cells ∙ s) c q h
        ∙ sym (at_each (λ x. x ≡ Free) (mode_at held c) p Free q (λ _. refl) (λ _. none_beyond held s c q h))
