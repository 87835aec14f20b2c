-- The wakes as actions, one after another; and the step by value, made of the step in place and these.
-- Assumes nothing.
use Prim.Native.Nat.{ℕ, suc, ◌+◌, ◌-◌, ◌≤◌, ◌<◌}
use mathlib.Core.Path.{◌≡◌, refl, sym, ap, ◌∙◌}
use mathlib.Core.List.{List, [], ◌∷◌, ◌++◌, map, map-append, append_assoc}
use native.Mathlib.Omega.{arith}
use native.Mathlib.Numerals.{add-one}
use lib.ListN.{length, get_or, set, take, replicate, length-append, length-map, get_or-eq_default}
use lib.Seq.{take-suc, take_all, length-take-le, set-append_seam}
use Rattle.terms.specs.Limits.{places}
use Rattle.conflict.specs.declared.action.Action.{Action}
use Rattle.conflict.specs.declared.action.Kind.{Kind}
use Rattle.conflict.specs.Modes.{recorded}
use Rattle.desk_arrays.specs.declared.state.Desk.{Desk}
use Rattle.desk_arrays.specs.declared.state.Outcome.{Outcome}
use Rattle.desk_arrays.specs.declared.state.Told.{Told}
use Rattle.desk_arrays.specs.Codes.{ask_of}
use Rattle.desk_arrays.specs.Steps.{no_action, wake_at, listed, saying, performed, step_of}
use Rattle.desk.specs.InPlace.{woken_by, StepsTo}
use Rattle.desk.proofs.Woken.{first_woken}

-- an index that is no place says nothing
pub nowhere_says : (number cell ask : List ℕ) (p : ℕ) {k : Kind} → length number ≡ places → length cell ≡ places → length ask ≡ places → places ≤ p → k ≡ recorded (ask_of 0) →
    ◌≡◌ {A = Action} (record { kind = k; job = 0; cell = 0 }) (wake_at number cell ask p)
unfolding wake_at
nowhere_says number cell ask p e f g h k =
    rw (k, get_or-eq_default number 0 {n = p} (omega arith), get_or-eq_default cell 0 {n = p} (omega arith), get_or-eq_default ask 0 {n = p} (omega arith))

-- one wake more in the list
listed_more : (ws : List Action) (x : Action) → length ws < places → set (listed ws) (length ws) x ≡ listed (ws ++ x ∷ [])
unfolding listed
listed_more ws x h =
    let e : places - length ws ≡ suc (places - (length ws + 1)) = omega arith in
    ap (λ n. set (ws ++ replicate n no_action) (length ws) x) e ∙ set-append_seam ws no_action (replicate (places - (length ws + 1)) no_action) x
    ∙ sym (ap (λ n. (ws ++ x ∷ []) ++ replicate (places - n) no_action) (length-append ws (x ∷ [])) ∙ append_assoc ws (x ∷ []) (replicate (places - (length ws + 1)) no_action))

module _ (f : ℕ → Action) (l : List ℕ) (i : ℕ) {ws : List Action} (so_far : ws ≡ listed (map f (take i l))) where
  -- one wake more
  pub told_more : {x : Action} → length l ≡ places → i < places → x ≡ f (get_or l i 0) → set ws i x ≡ listed (map f (take (i + 1) l))
  told_more {x} e h g =
      let n : length (map f (take i l)) ≡ i = length-map (take i l) f ∙ length-take-le i l (omega arith) in
      ap (λ y. set y i x) so_far ∙ ap (λ k. set (listed (map f (take i l))) k x) (sym n) ∙ listed_more (map f (take i l)) x (omega arith)
      ∙ ap listed (ap (λ y. map f (take i l) ++ y ∷ []) g ∙ sym (map-append f (take i l) (get_or l i 0 ∷ [])) ∙ ap (map f) (sym (take-suc l i 0 (omega arith)) ∙ ap (λ k. take k l) (sym (add-one i))))

  -- as many as there are
  pub told_end : (count : ℕ) → i ≤ count → count ≤ i → ws ≡ listed (map f (take count l))
  told_end count h g = let e : i ≡ count = omega arith in so_far ∙ ap (λ k. listed (map f (take k l))) e

  -- all places
  pub told_all : (count : ℕ) → length l ≤ i → i ≤ count → ws ≡ listed (map f (take count l))
  told_all count h g = so_far ∙ ap (λ y. listed (map f y)) (take_all i l h ∙ sym (take_all count l (omega arith)))

-- the step by value, from the step in place
pub step_whole : {d e : Desk} {l w : List ℕ} {kind job c : ℕ} {t : Told} {ws : List Action} → StepsTo d l kind job c e w t →
    ws ≡ listed (map (wake_at e.number e.cell e.ask) (take t.count w)) →
    ◌≡◌ {A = Outcome} (record { desk = e; said = record { answer = t.answer; wakes = ws; count = t.count } }) (step_of d kind job c)
step_whole {d} {e} {l} {w} {kind} {job} {c} {t} {ws} s h = λ i. record { desk = s.desk i; said = record { answer = s.answer i; wakes = told i; count = s.count i } }
  where
    W : List ℕ
    W = woken_by d kind job c

    told : ws ≡ (step_of d kind job c).said.wakes
    told = h ∙ ap (λ x. listed (map (wake_at e.number e.cell e.ask) x)) (first_woken s) ∙ ap (λ x. listed (map (wake_at x.number x.cell x.ask) W)) s.desk ∙ (unfold step_of performed saying woken_by in refl)
