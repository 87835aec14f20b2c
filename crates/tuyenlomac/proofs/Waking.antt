-- The wakes told in three lists, one after another, by the places woken; and the step of a lent desk, made of the step in place and these.
-- Assumes nothing.
use Prim.Native.Nat.{ℕ, ◌+◌, ◌≤◌, ◌<◌}
use mathlib.Core.Path.{◌≡◌, refl, sym, ap, ap₂, ◌∙◌}
use mathlib.Core.List.{List, [], ◌∷◌, ◌++◌, map, map-append}
use native.Mathlib.Omega.{arith}
use native.Mathlib.Numerals.{add-one}
use lib.ListN.{length, get_or, set, take, drop, length-append, length-map}
use lib.Seq.{take-suc, length-take-le}
use Rattle.std.specs.Prelude.{min}
use Rattle.std.proofs.lemmas.List.{take_min}
use Rattle.laws.specs.Lists.{filled}
use Rattle.laws.proofs.Filled.{filled_more}
use Rattle.terms.specs.Limits.{places}
use Rattle.conflict.specs.declared.action.Action.{Action}
use Rattle.desks.specs.Request.{Request}
use Rattle.desks.specs.Told.{request}
use Rattle.desk_arrays.specs.declared.state.Desk.{Desk}
use Rattle.desk_arrays.specs.declared.state.Told.{Told}
use Rattle.desk_arrays.specs.Steps.{wake_at, step_of}
use Rattle.desk_arrays.specs.Stands.{wakes_told}
use Rattle.desk.specs.InPlace.{StepsTo}
use Rattle.desk.proofs.Woken.{count_told, wakes_first}
use Rattle.tuyenlomac.specs.declared.answers.Answered.{Answered}
use Rattle.tuyenlomac.specs.Numbers.{in_three}
use Rattle.tuyenlomac.specs.Desks.{Lists, lists_of, kind_byte, wakes_in}
use Rattle.tuyenlomac.specs.Calls.{LocksCall, locks_call, OnLocks}

-- no wakes
pub wakes_none : (jobs cells kinds : List ℕ) → lists_of jobs cells kinds ≡ wakes_in [] (lists_of jobs cells kinds)
unfolding wakes_in filled
wakes_none jobs cells kinds = refl

module _ (g : ℕ → Action) (l : List ℕ) where
  -- one more number in a list of what each wake has
  more_in : (f : Action → ℕ) (list : List ℕ) (i : ℕ) {x : Action} → i < length l → i < length list → x ≡ g (get_or l i 0) →
      set (filled (map f (map g (take i l))) list) i (f x) ≡ filled (map f (map g (take (i + 1) l))) list
  more_in f list i {x} h m e =
      let n : length (map f (map g (take i l))) ≡ i = length-map (map g (take i l)) f ∙ length-map (take i l) g ∙ length-take-le i l (omega arith) in
      let t : take (i + 1) l ≡ take i l ++ get_or l i 0 ∷ [] = ap (λ k. take k l) (add-one i) ∙ take-suc l i 0 h in
      ap (λ k. set (filled (map f (map g (take i l))) list) k (f x)) (sym n) ∙ filled_more (map f (map g (take i l))) list (f x) (omega arith)
      ∙ ap (λ js. filled js list) (ap (λ a. map f (map g (take i l)) ++ f a ∷ []) e ∙ sym (map-append f (map g (take i l)) (g (get_or l i 0) ∷ [])) ∙ ap (map f) (sym (map-append g (take i l) (get_or l i 0 ∷ []))) ∙ ap (λ ps. map f (map g ps)) (sym t))

  module _ (before : Lists) {now : Lists} (i : ℕ) (so_far : now ≡ wakes_in (map g (take i l)) before) where
    -- one more wake
    pub wakes_more : {x : Action} {k : ℕ} → i < length l → i < length before.jobs → i < length before.cells → i < length before.kinds → x ≡ g (get_or l i 0) → k ≡ kind_byte x.kind →
        lists_of (set now.jobs i x.job) (set now.cells i x.cell) (set now.kinds i k) ≡ wakes_in (map g (take (i + 1) l)) before
    unfolding wakes_in
    wakes_more {x} {k} h a b c e f =
        ap₂ (λ (w : Lists) n. lists_of (set w.jobs i x.job) (set w.cells i x.cell) (set w.kinds i n)) so_far f
        ∙ (λ t. lists_of (more_in (λ a. a.job) before.jobs i h a e t) (more_in (λ a. a.cell) before.cells i h b e t) (more_in (λ a. kind_byte a.kind) before.kinds i h c e t))

    -- as many wakes as there are, or all places passed
    pub wakes_all : (count : ℕ) → i ≡ min count (length l) → now ≡ wakes_in (map g (take count l)) before
    wakes_all count h = so_far ∙ ap (λ ps. wakes_in (map g ps) before) (ap (λ k. take k l) h ∙ take_min count l)

-- the step of a lent desk, from the step in place and its wakes told
pub step_told_lem : {d e : Desk} {l w : List ℕ} {kind job c : ℕ} {t : Told} → StepsTo d l kind job c e w t → (before : Lists) {after : Lists} {r : Answered} → after ≡ wakes_in (map (wake_at e.number e.cell e.ask) (take t.count w)) before → r ≡ in_three t.answer t.count →
    OnLocks d (request kind job c) (locks_call e before after r)
step_told_lem {d} {e} {l} {w} {kind} {job} {c} {t} s before h a = record { desk = s.desk; answer = a ∙ ap (λ x. in_three x t.count) s.answer ∙ ap (in_three (step_of d kind job c).said.answer) s.count; wakes = h ∙ ap (λ ws. wakes_in ws before) (wakes_first s) }

-- at most 32 wakes are told, whatever desk is lent, if the list of the jobs has 32 places in the end
pub few_wakes : (d : Desk) (r : Request) (k : LocksCall) → OnLocks d r k → length k.told.jobs ≡ places → k.answer.wakes ≤ places
unfolding wakes_in in_three filled
few_wakes d r k s long =
    let ws = wakes_told (step_of d r.kind r.job r.cell).said in
    let js = map (λ (a : Action). a.job) ws in
    let told-jobs = ap (λ (l : Lists). length l.jobs) s.wakes in
    let filling = length-append js (drop (length js) k.lent.jobs) in
    let many = length-map ws (λ (a : Action). a.job) in
    let counted = ap (λ (a : Answered). a.wakes) s.answer ∙ count_told d r.kind r.job r.cell in
    omega (arith, long, told-jobs, filling, many, counted)
