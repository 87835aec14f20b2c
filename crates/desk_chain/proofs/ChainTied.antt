-- THE CHAIN OVER THE ARRAYS IS THE PAPER'S, for every started desk that runs, every job and every lent list (02, No. 3).
-- Assumes nothing.
use Rattle.std.specs.Prelude.{Option, None, Some}
use Prim.Native.Nat.{ℕ, zero, suc, ◌<◌, ◌≤◌}
use mathlib.Core.Path.{◌≡◌, refl, sym, ap, ◌∙◌}
use mathlib.Core.Bool.{true, ◌&&◌}
use mathlib.Core.List.{List}
use native.Mathlib.Omega.{arith}
use lib.Dec.{eqb}
use lib.ListN.{length, get_or}
use borrow.Author.Tests.{lt-ltb, eq-eqb, eqb-true}
use Rattle.laws.specs.Choice.{by_test}
use Rattle.laws.specs.Lists.{pos, first_of}
use Rattle.laws.proofs.Parts.{and_first, and_second}
use Rattle.terms.specs.declared.letters.Ask.{Ask}
use Rattle.terms.specs.declared.refusals.Refusal.{Refusal}
use Rattle.terms.specs.Limits.{places, cells}
use Rattle.conflict.specs.History.{History}
use Rattle.desk_rules.specs.Desk.{Status, closed, running, waiting, sentback, Waiter, is_open, is_live}
use Rattle.desk_rules.specs.Invariant.{Inv}
use Rattle.desk_rules.specs.Chain.{younger_than, youngest_of, in_way_of, chain_of, IsChain, runs, waits}
use Rattle.desk_rules.specs.AskedChain.{chain_holds, chain_order, chain_due, chain_told, ask_chain}
use Rattle.desk_rules.proofs.Kept.{started_inv}
use Rattle.desk_rules.proofs.Statuses.{live_open, running_not_waiting}
use Rattle.desk_rules.proofs.SomebodyRuns.{live_split}
use Rattle.desks.proofs.Following.{seen_started}
use Rattle.desk_rules.proofs.InTheWay.{waiter_in, way_live}
use Rattle.desk_rules.proofs.InWayList.{next_is}
use Rattle.desk_rules.proofs.ChainIs.{is_chain, one_chain, fewer_younger}
use Rattle.desk_arrays.specs.declared.state.Desk.{Desk}
use Rattle.desk_arrays.specs.Codes.{waiting_code}
use Rattle.desk_arrays.specs.Places.{waits_at}
use Rattle.desk_arrays.specs.Stands.{Plain, status_by, status_at}
use Rattle.desk_arrays.specs.Seen.{view, Started}
use Rattle.desks.proofs.Seats.{Seat, seat_below}
use Rattle.desk_arrays.proofs.ByNumber.{seat_has}
use Rattle.desk_arrays.proofs.StatusCodes.{waits_status, status_waits}
use Rattle.desk_arrays.proofs.StartedStands.{stands_for_paper}
use Rattle.desk_arrays.proofs.Faithful.{faithful}
use Rattle.desk_chain.specs.Chains.{next_at, chain_from_by, chain_from, asked_on}
use Rattle.desk_chain.proofs.NextTied.{open_seat, next_seat, holder_is_next}

-- where nothing is due the job is live
not_due_live : (s : Status) (n : ℕ) → chain_due s n ≡ None → is_live s ≡ true
unfolding chain_due chain_order first_of chain_holds is_open is_live
not_due_live closed n e = let z : ◌≡◌ {A = ℕ} 0 1 = cc in absurd (omega arith)
not_due_live running n e = refl
not_due_live (waiting c a) n e = refl
not_due_live sentback n e = let z : ◌≡◌ {A = ℕ} 0 1 = cc in absurd (omega arith)

module _ {d : Desk} (v : Inv (view d)) (pl : Plain d) where
  -- what the job at a place is doing
  pub place_status : {j p : ℕ} → Seat d.number j p → (view d).stat j ≡ status_at d.status d.cell d.ask p
  unfolding status_by
  place_status s = seat_has closed d.number (status_at d.status d.cell d.ask) s

  -- nobody is next after a running job
  running_last : {j p : ℕ} → Seat d.number j p → (view d).stat j ≡ running → next_at d.number d.status d.cell d.held p ≡ places
  unfolding next_at
  running_last {j} {p} s e =
      by_test (eqb (get_or d.status p 0) waiting_code)
      (λ t. absurd (running_not_waiting e (place_status s ∙ waits_status d.status d.cell d.ask (get_or d.cell p 0) p (here t))))
      (λ f. rw f)
    where
      here : eqb (get_or d.status p 0) waiting_code ≡ true → waits_at d.status d.cell (get_or d.cell p 0) p ≡ true
      here t = unfold waits_at in rw (t, eq-eqb (get_or d.cell p 0) (get_or d.cell p 0) refl)

  -- after a waiting job, the place of the next job
  waiting_next : {j p : ℕ} → Seat d.number j p → (c : ℕ) (a : Ask) → (view d).stat j ≡ waiting c a → next_at d.number d.status d.cell d.held p ≡ pos d.number (youngest_of (in_way_of (view d) j c))
  unfolding next_at
  waiting_next {j} {p} s c a e =
      let w : Waiter = record { job = j; ask = a } in
      let t : (eqb (get_or d.status p 0) waiting_code && eqb (get_or d.cell p 0) c) ≡ true = unfold waits_at in (status_waits d.status d.cell d.ask p (sym (place_status s) ∙ e)).0 in
      let f : get_or d.cell p 0 ≡ c = eqb-true (get_or d.cell p 0) c (and_second (eqb (get_or d.status p 0) waiting_code) (eqb (get_or d.cell p 0) c) t) in
      let l : c < cells = (v.rows c).within w (waiter_in v c w e) in
      rw (and_first (eqb (get_or d.status p 0) waiting_code) (eqb (get_or d.cell p 0) c) t, f, lt-ltb c cells l, s.sits) (holder_is_next v pl e (next_is v c w e))

  -- with as many looks as there are younger jobs it is the chain
  arrays_chain : (n : ℕ) {j p : ℕ} → Seat d.number j p → younger_than j d.number ≤ n → is_live ((view d).stat j) ≡ true → IsChain (view d) j (chain_from_by d.number d.status d.cell d.held n p)
  unfolding chain_from_by
  arrays_chain zero {j} {p} s l h =
      rw s.sits
      (live_split ((view d).stat j) h (λ e. runs e)
      (λ c a e. let f = fewer_younger v c (record { job = j; ask = a }) e (youngest_of (in_way_of (view d) j c)) (next_is v c (record { job = j; ask = a }) e) in absurd (omega arith)))
  arrays_chain (suc n) {j} {p} s l h =
      rw s.sits
      (live_split ((view d).stat j) h (λ e. rw (running_last s e) (runs e))
      (λ c a e.
      let w : Waiter = record { job = j; ask = a } in
      let i = youngest_of (in_way_of (view d) j c) in
      let x = next_is v c w e in
      let f = fewer_younger v c w e i x in
      let t = next_seat v pl e x in
      rw (waiting_next s c a e, lt-ltb (pos d.number i) places (seat_below t places pl.numbers))
      (waits c a e x (arrays_chain n t (omega arith) (way_live v c w e i x.way)))))

  -- the chain of a live job
  pub chain_is : (j : ℕ) → is_live ((view d).stat j) ≡ true → chain_from d.number d.status d.cell d.held (pos d.number j) ≡ chain_of (view d) j
  unfolding chain_from
  chain_is j h =
      let s = open_seat v pl j (live_open ((view d).stat j) h) in
      one_chain v (arrays_chain (younger_than (get_or d.number (pos d.number j) 0) d.number) s (omega (arith, ap (λ x. younger_than x d.number) s.sits)) h) (is_chain v j h)

  -- a request for a chain is told what the paper says
  pub asked_is : (j : ℕ) (list : List ℕ) → asked_on d j list ≡ ask_chain (view d) j list
  unfolding asked_on ask_chain
  asked_is j list = by_due (chain_due ((view d).stat j) (length list)) refl
    where
      by_due : (o : Option Refusal) → chain_due ((view d).stat j) (length list) ≡ o → chain_told (chain_from d.number d.status d.cell d.held (pos d.number j)) list (chain_due ((view d).stat j) (length list)) ≡ chain_told (chain_of (view d) j) list (chain_due ((view d).stat j) (length list))
      by_due (Some why) e = unfold chain_told in rw e
      by_due None e = ap (λ js. chain_told js list (chain_due ((view d).stat j) (length list))) (chain_is j (not_due_live ((view d).stat j) (length list) e))

-- what holds of every started desk that runs
pub started_view : {d : Desk} {h : History} → Started d h → Inv (view d) × Plain d
started_view s = (started_inv (seen_started faithful s), (stands_for_paper s).2.plain)
